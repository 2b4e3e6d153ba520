-- Nulls among a node's kept rows, row by row, and where their validity bits stand. Assumes nothing.
use Prim.Native.Nat.{ℕ, zero, suc, ◌+◌, ◌-◌, ◌*◌, ◌≤◌, ◌<◌}
use mathlib.Core.Bool.{Bool, true, false, cond, not, ◌&&◌, ◌||◌, and-false, or_assoc, or-false}
use mathlib.Core.List.{List, [], ◌∷◌, ◌++◌, map, map-append}
use mathlib.Core.Path.{◌≡◌, refl, sym, ap, ◌∙◌}
use native.Mathlib.Nat.{add_assoc}
use native.Mathlib.Omega.{arith}
use Rattle.format.specs.Bytes.{any_below, chosen, bit_in, bit_at}
use Rattle.format.specs.Node.{node_count, rows, skip, valid, validity_at, has_no_bitmap}
use Rattle.format.specs.Slots.{All, word_from}
use Rattle.format.proofs.SlotLaws.{all-less}
use Rattle.format.proofs.WordLaws.{from_all}
use Rattle.format.specs.Verdict.{pack_limit}
use Rattle.format.specs.Kept.{kept_rows}
use Rattle.format.specs.Accepted.{Sound}
use Rattle.format.specs.Write.{any_null}
use Rattle.format.proofs.Laws.{any-miss, any_found}
use Rattle.nesting.specs.declared.Counted.{Counted}
use Rattle.nesting.specs.Rows.{picks_in}
use Rattle.nesting.proofs.Tree.{kept-all}
use Rattle.stretches.specs.Stretches.{bytes_in, kept_in}

null-append : (xs ys : List Bool) → any_null (xs ++ ys) ≡ (any_null xs || any_null ys)
unfolding any_null
null-append [] ys = refl
null-append (v ∷ xs) ys = rw (null-append xs ys) (sym (or_assoc (not v) (any_null xs) (any_null ys)))

module _ (p v : ℕ → Bool) where
  null-last : (n : ℕ) (t : Bool) → any_null (map v (cond t (n ∷ []) [])) ≡ (t && not (v n))
  unfolding any_null
  null-last n true = or-false (not (v n))
  null-last n false = refl

  -- a kept row is null: some row passes both tests
  pub null-any : (n : ℕ) → any_null (map v (chosen p n)) ≡ any_below (λ r. p r && not (v r)) n
  unfolding any_null chosen any_below
  null-any zero = refl
  null-any (suc n) = rw (map-append, null-append (map v (chosen p n)), null-any n, null-last n (p n))

  -- the loop over the rows: a row that is valid or dropped passes, a null that is kept is found
  module _ (r : ℕ) where
    pub null-valid : any_below (λ q. p q && not (v q)) r ≡ false → v r ≡ true → any_below (λ q. p q && not (v q)) (r + 1) ≡ false
    null-valid e h = any-miss (λ q. p q && not (v q)) r (rw h (and-false (p r))) ∙ e

    pub null-dropped : any_below (λ q. p q && not (v q)) r ≡ false → p r ≡ false → any_below (λ q. p q && not (v q)) (r + 1) ≡ false
    null-dropped e h = any-miss (λ q. p q && not (v q)) r (rw h) ∙ e

    null-kept : (n : ℕ) → r < n → v r ≡ false → p r ≡ true → any_below (λ q. p q && not (v q)) n ≡ true
    null-kept n l h k = any_found (λ q. p q && not (v q)) n r l (rw (h, k))

  -- valid rows all pass
  pub null-valids : (k e : ℕ) → k ≤ e → All v true k e → any_below (λ q. p q && not (v q)) k ≡ false → any_below (λ q. p q && not (v q)) e ≡ false
  null-valids k e l all none = go (e - k) e (omega arith) all
    where
      go : (d e : ℕ) → e ≡ k + d → All v true k e → any_below (λ q. p q && not (v q)) e ≡ false
      go zero e z _ = let q : e ≡ k = omega arith in rw q none
      go (suc d) e z all =
          let q : e ≡ k + d + 1 = omega arith in
          rw q (null-valid (k + d) (go d (k + d) refl (all-less (omega arith) all)) (all.at (k + d) (omega arith) (omega arith)))

pub any-start : (p : ℕ → Bool) → any_below p 0 ≡ false
unfolding any_below
any-start p = refl

-- a node with no bitmap has no null
pub no-nulls : (b : List ℕ) (i : ℕ) (rs : List ℕ) → has_no_bitmap b i ≡ true → false ≡ any_null (map (valid b i) rs)
unfolding any_null valid
no-nulls b i [] e = refl
no-nulls b i (r ∷ rs) e = rw e (no-nulls b i rs e)

-- where row r's validity bit stands
module _ {b : List ℕ} (sound : Sound b) {node : ℕ} (h : node < node_count b) (some : has_no_bitmap b node ≡ false) where
  pub marks-fit : validity_at b node ≤ pack_limit
  marks-fit = omega (arith, (sound.in_body node h).bitmap some, sound.shape.table, sound.shape.small)

  pub valid-bit : {first : ℕ} → first ≡ 8 * validity_at b node + skip b node → (r : ℕ) → bit_in b (first + r) ≡ valid b node r
  unfolding valid bit_at
  valid-bit e r = rw (some, e) (ap (bit_in b) (add_assoc (8 * validity_at b node) (skip b node) r))

  -- a word of ones: its rows are valid
  pub word-valid : {first : ℕ} → first ≡ 8 * validity_at b node + skip b node → {x base : ℕ} → x ≡ word_from (bit_in b) 64 (first + base) → x ≡ 0xFFFF_FFFF_FFFF_FFFF → All (valid b node) true base (base + 64)
  word-valid {first} e {base = base} w f =
      let ones : All (bit_in b) true (first + base) (first + base + 64) = from_all (bit_in b) 64 (first + base) (rw (← w) (omega arith)) in
      record { at = λ j l h. sym (valid-bit e j) ∙ ones.at (first + j) (omega arith) (omega arith) }

-- of a node's kept rows
module _ (counted : Counted) {node : ℕ} (h : node < node_count (bytes_in counted)) where
  null-all : any_below (λ r. kept_in counted node r && not (valid (bytes_in counted) node r)) (rows (bytes_in counted) node) ≡ any_null (map (valid (bytes_in counted) node) (kept_rows (bytes_in counted) (picks_in counted.source) node))
  null-all =
      sym
      (ap (λ (rs : List ℕ). any_null (map (valid (bytes_in counted) node) rs)) (kept-all (bytes_in counted) (picks_in counted.source) counted.ready.sound counted.ready.rooted node h)
      ∙ null-any (kept_in counted node) (valid (bytes_in counted) node) (rows (bytes_in counted) node))

  pub null-none : (r : ℕ) → r ≡ rows (bytes_in counted) node → any_below (λ q. kept_in counted node q && not (valid (bytes_in counted) node q)) r ≡ false
      → false ≡ any_null (map (valid (bytes_in counted) node) (kept_rows (bytes_in counted) (picks_in counted.source) node))
  null-none r e f = sym (rw e at f) ∙ null-all

  pub null-found : (r : ℕ) → r < rows (bytes_in counted) node → valid (bytes_in counted) node r ≡ false → kept_in counted node r ≡ true
      → true ≡ any_null (map (valid (bytes_in counted) node) (kept_rows (bytes_in counted) (picks_in counted.source) node))
  null-found r l f k = sym (null-kept (kept_in counted node) (valid (bytes_in counted) node) r (rows (bytes_in counted) node) l f k) ∙ null-all
