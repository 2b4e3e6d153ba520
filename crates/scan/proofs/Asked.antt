-- What a scan answers, by the facts of the slots: the first run, and whether any slot of a range passes. Over any test p. Assumes nothing.
use Rattle.std.proofs.Common.{◌≡◌, ℕ, ◌+◌, ◌-◌, ◌<◌, ◌≤◌, Bool, true, false, not, eqb, List, [], ◌∷◌, sym, refl, ap, ◌∙◌, ⊎_elim, eq-zero-or-pos, arith, ltb, le-ltb, lt-ltb, eq-eqb, ne_eqb}
use Rattle.std.specs.Prelude.{Option, Some, None, is_some}
use Rattle.std.specs.Bool.{then_some}
use mathlib.Core.Logic.{dite}
use native.Mathlib.Decide.{dec_lt}
use Rattle.std.proofs.lemmas.Option.{none-some, same_Some}
use Rattle.format.specs.Slots.{word_from, runs_from, All, FirstRun}
use Rattle.format.proofs.Laws.{any_found, any_none, none_any}
use Rattle.format.proofs.SlotLaws.{all_join, runs-next, runs_none, Next, runs-first}
use Rattle.format.proofs.WordLaws.{from-none, from_zero}
use Rattle.scan.specs.Asked.{any_in, Picked, first_run}

-- ---- the first run

module _ {p : ℕ → Bool} {from len : ℕ} where
  pub run-first : {a e : ℕ} → FirstRun p from len a e → Some (a, e) ≡ first_run (runs_from p (len - from) from)
  run-first f = ap first_run (sym (runs-next f))

  pub end-first : All p false from len → None ≡ first_run (runs_from p (len - from) from)
  end-first all = ap first_run (sym (runs_none all))

  -- as a scan gives it: none where it found no slot
  pub scanned-first : (a e : ℕ) → (a < e → FirstRun p from len a e) → (e ≤ a → All p false from len) → then_some (ltb a e) (a, e) ≡ first_run (runs_from p (len - from) from)
  scanned-first a e run none =
      dite (dec_lt a e)
      (λ l. rw (lt-ltb a e l) (run-first (run l)))
      (λ n. rw (le-ltb a e (omega arith)) (end-first (none (omega arith))))

  -- and back
  pub first_run-is : {a e : ℕ} → Some (a, e) ≡ first_run (runs_from p (len - from) from) → FirstRun p from len a e
  first_run-is {a} {e} q = go (runs_from p (len - from) from) q (runs-first p (len - from) from len refl)
    where
      go : (rs : List (ℕ × ℕ)) → Some (a, e) ≡ first_run rs → Next p from len rs → FirstRun p from len a e
      go [] q f = absurd (none-some _ (sym q))
      go (r ∷ rs) q f =
          let s : r.0 ≡ a = ap (λ (x : ℕ × ℕ). x.0) (sym (same_Some _ _ q)) in
          let t : r.1 ≡ e = ap (λ (x : ℕ × ℕ). x.1) (sym (same_Some _ _ q)) in
          rw (s, t) at f

  pub first-end : None ≡ first_run (runs_from p (len - from) from) → All p false from len
  first-end q = go (runs_from p (len - from) from) q (runs-first p (len - from) from len refl)
    where
      go : (rs : List (ℕ × ℕ)) → None ≡ first_run rs → Next p from len rs → All p false from len
      go [] q f = f
      go (r ∷ rs) q f = absurd (none-some _ q)

-- ---- any slot of [lo, hi)

module _ (p : ℕ → Bool) {lo hi : ℕ} where
  pub any-none-in : All p false lo hi → any_in p lo hi ≡ false
  any-none-in all = none_any _ (hi - lo) (λ i l. all.at (lo + i) (omega arith) (omega arith))

  pub any-one-in : (r : ℕ) → lo ≤ r → r < hi → p r ≡ true → any_in p lo hi ≡ true
  any-one-in r l h q =
      let e : lo + (r - lo) ≡ r = omega arith in
      any_found _ (hi - lo) (r - lo) (omega arith) (rw e q)

-- a search up to `end`, from where on every slot below hi fails
pub any-found : (p : ℕ → Bool) (lo hi end : ℕ) (r : Option ℕ) → Picked p lo end r → end ≤ hi → All p false end hi → is_some r ≡ any_in p lo hi
any-found p lo hi end None none h past = sym (any-none-in p (all_join none past))
any-found p lo hi end (Some k) f h past = sym (any-one-in p k f.0 (omega (arith, f.1)) f.3)

-- ---- by the word of the slots of [lo, hi)

module _ (p : ℕ → Bool) (lo hi x : ℕ) (h : lo ≤ hi) (e : x ≡ word_from p (hi - lo) lo) where
  to : lo + (hi - lo) ≡ hi
  to = omega arith

  word_none : x ≡ 0 → any_in p lo hi ≡ false
  word_none z = any-none-in p (rw to at (from_zero p (hi - lo) lo (sym e ∙ z)))

  none-word : any_in p lo hi ≡ false → x ≡ 0
  none-word n = e ∙ from-none p (hi - lo) lo (record { at = λ j l k. slot j l k })
    where
      slot : (j : ℕ) → lo ≤ j → j < lo + (hi - lo) → p j ≡ false
      slot j l k =
          let m : lo + (j - lo) ≡ j = omega arith in
          rw m at (any_none (λ k. p (lo + k)) (hi - lo) (j - lo) (omega arith) n)

  pub word-any : not (eqb x 0) ≡ any_in p lo hi
  word-any =
      ⊎_elim (λ z. rw (eq-eqb x 0 z, word_none z))
      (λ l. rw (ne_eqb x 0 (λ z. omega arith)) (go (any_in p lo hi) refl l))
      (eq-zero-or-pos x)
    where
      go : (t : Bool) → any_in p lo hi ≡ t → 0 < x → true ≡ t
      go true q l = refl
      go false q l = absurd (omega (arith, none-word q))
