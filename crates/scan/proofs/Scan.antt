-- The scan word by word: a word's set bits are taken lowest first, each cleared by `x & (x - 1)`. Over any test p. Assumes nothing.
use Rattle.std.proofs.Common.{◌≡◌, ℕ, ◌+◌, ◌-◌, ◌*◌, ◌/◌, ◌<◌, ◌≤◌, Bool, true, false, leb, sym, refl, ◌∙◌, ⊎_elim, eq-zero-or-pos, arith, leb-true, ltb, le-ltb, lt-ltb}
use Rattle.std.specs.Prelude.{None}
use Rattle.std.specs.Bool.{then_some}
use mathlib.Core.Logic.{dite}
use native.Mathlib.Decide.{dec_lt}
use mathlib.Core.Bool.{and-eq-true_iff}
use lib.Bits.{bit_and}
use lib.Count.{count_trailing_zeros}
use Rattle.format.specs.Slots.{word_from, after, All, FirstRun}
use Rattle.scan.specs.Asked.{Ones, Blank, Picked}
use Rattle.format.proofs.SlotLaws.{all_none, all_one, all_join, all_more, all-less, after_is, after-after}
use Rattle.format.proofs.WordLaws.{from-ext, from_zero, from_all, Lowest, lowest_set}

-- The scan from `from` has come to word w: [a, e) is the run so far, none where a is e, and the slots from e to the word's first fail.
pub record Scanned (p : ℕ → Bool) (from w a e : ℕ) : Type 0 where
  pub low : from ≤ a
  pub order : a ≤ e
  pub near : e ≤ 64 * w + 64
  pub begun : a ≡ e → e ≡ from
  pub before : All p false from a
  pub within : All p true a e
  pub gap : All p false e (64 * w)

-- The lowest set bit of what is left of word w is slot k's.
pub record Hit (p : ℕ → Bool) (w e x k : ℕ) : Type 0 where
  pub base : 64 * w ≤ k
  pub inside : k < 64 * w + 64
  pub beyond : e ≤ k
  pub passes : p k ≡ true
  pub skipped : All p false e k
  pub cleared : bit_and x (x - 1) ≡ word_from (after p (k + 1)) 64 (64 * w)

-- slots that fail up to m, and those after m and not before e
gap-on : {p : ℕ → Bool} {e m k : ℕ} → All p false e m → All (after p e) false m k → All p false e k
gap-on {p} {e} {m} {k} f g =
    record {
      at = λ j l h. ⊎_elim (λ z. sym (after_is p e j l) ∙ g.at j (omega arith) h) (λ z. f.at j l (omega arith)) (eq-zero-or-pos (m - j));
    }

module _ {p : ℕ → Bool} {from w a e : ℕ} (f : Scanned p from w a e) where
  pub hit : (x : ℕ) → x ≡ word_from (after p e) 64 (64 * w) → 0 < x → Hit p w e x (64 * w + count_trailing_zeros 64 x)
  hit x is pos = rw is (go (lowest_set (after p e) 64 (64 * w) (rw is at pos)))
    where
      go : {t : ℕ} → Lowest (after p e) 64 (64 * w) t → Hit p w e (word_from (after p e) 64 (64 * w)) (64 * w + t)
      go {t} r =
          let both = (and-eq-true_iff (leb e (64 * w + t)) (p (64 * w + t))).0 r.passes in
          let l : e ≤ 64 * w + t = leb-true e (64 * w + t) both.0 in
          record {
            base = omega arith;
            inside = omega (arith, r.inside);
            beyond = l;
            passes = both.1;
            skipped = gap-on f.gap r.fails;
            cleared = r.cleared ∙ from-ext _ _ 64 (64 * w) (λ j _ _. after-after p e (64 * w + t + 1) j (omega arith));
          }

  module _ {x k : ℕ} (h : Hit p w e x k) where
    -- the run starts at k
    pub opens : a ≡ e → Scanned p from w k (k + 1)
    opens q =
        record {
          low = omega (arith, f.low, h.beyond);
          order = omega arith;
          near = omega (arith, h.inside);
          begun = λ z. absurd (omega arith);
          before = rw (f.begun q) at h.skipped;
          within = all_one h.passes;
          gap = all_none (omega (arith, h.base));
        }

    -- the run goes on with k
    pub grows : k ≡ e → Scanned p from w a (k + 1)
    grows q =
        record {
          low = f.low;
          order = omega (arith, f.order);
          near = omega (arith, h.inside);
          begun = λ z. absurd (omega (arith, f.order));
          before = f.before;
          within = all_more (rw q f.within) h.passes;
          gap = all_none (omega (arith, h.base));
        }

  -- nothing is left of word w
  pub passed : word_from (after p e) 64 (64 * w) ≡ 0 → Scanned p from (w + 1) a e
  passed z =
      let m : 64 * (w + 1) ≡ 64 * w + 64 = omega arith in
      record {
        low = f.low;
        order = f.order;
        near = omega (arith, f.near);
        begun = f.begun;
        before = f.before;
        within = f.within;
        gap = rw m (gap-on f.gap (from_zero _ 64 (64 * w) z));
      }

  -- no slot passes of the words from w up to v
  pub skips : {len v : ℕ} → Blank p w len v → Scanned p from v a e
  skips k =
      let up = k.low in
      record {
        low = f.low;
        order = f.order;
        near = omega (arith, f.near);
        begun = f.begun;
        before = f.before;
        within = f.within;
        gap = all_join f.gap k.all;
      }

  -- the run reaches word w, and words of ones from there on
  pub jumps : {len v : ℕ} → a < e → e ≡ 64 * w → Ones p w len v → Scanned p from v a (64 * v)
  jumps r q o =
      let up = o.low in
      let l = f.low in
      let m = f.order in
      record {
        low = l;
        order = omega arith;
        near = omega arith;
        begun = λ z. absurd (omega arith);
        before = f.before;
        within = all_join (rw q at f.within) o.all;
        gap = all_none (omega arith);
      }

-- one word of ones more
pub ones-on : {p : ℕ → Bool} {from len w v x : ℕ} → x ≡ word_from p 64 (64 * w) → x ≡ 0xFFFF_FFFF_FFFF_FFFF → Ones p from len w → v ≡ w + 1 → 64 * v < len → Ones p from len v
ones-on {p} {w = w} {v} is ones f e h =
    let low = f.low in
    let next : All p true (64 * w) (64 * w + 64) = from_all p 64 (64 * w) (rw (← is) (omega arith)) in
    let to : 64 * v ≡ 64 * w + 64 = omega arith in
    record { low = omega arith; high = h; all = rw to (all_join f.all next) }

-- where the scan starts
pub starts : (p : ℕ → Bool) (from : ℕ) → Scanned p from (from / 64) from from
starts p from =
    record {
      low = omega arith;
      order = omega arith;
      near = omega arith;
      begun = λ _. refl;
      before = all_none (omega arith);
      within = all_none (omega arith);
      gap = all_none (omega arith);
    }

-- a word none of whose slots was looked at
pub fresh : (p : ℕ → Bool) (e n i : ℕ) → e ≤ i → word_from p n i ≡ word_from (after p e) n i
fresh p e n i h = from-ext _ _ n i (λ j a l. sym (after_is p e j (omega arith)))

-- The scan has met the end of the run [a, e), or has found no run, where a is e.
pub record Ended (p : ℕ → Bool) (from len a e : ℕ) : Type 0 where
  pub low : from ≤ a
  pub before : All p false from a
  pub within : All p true a e
  pub stops : e < len → p e ≡ false
  pub none : e ≤ a → All p false from len

pub ends : {p : ℕ → Bool} {from w a e : ℕ} (len : ℕ) → Scanned p from w a e → (e < len → p e ≡ false) → (a ≡ e → len ≤ 64 * w) → Ended p from len a e
ends {p} {from} {w} {a} {e} len f stops last =
    record {
      low = f.low;
      before = f.before;
      within = f.within;
      stops = stops;
      none = λ h. let q : a ≡ e = omega (arith, f.order) in all-less (last q) (rw (f.begun q) at f.gap);
    }

-- the run that it met, where no slot from len on passes
pub ended-run : {p : ℕ → Bool} {from len a e : ℕ} → Ended p from len a e → ((j : ℕ) → p j ≡ true → j < len) → a < e → FirstRun p from len a e
ended-run {e = e} f inside h =
    record {
      low = f.low;
      filled = h;
      high = omega (arith, inside (e - 1) (f.within.at (e - 1) (omega arith) (omega arith)));
      before = f.before;
      within = f.within;
      stops = f.stops;
    }

-- ---- the search for one slot, up to `end`

module _ {p : ℕ → Bool} {from w : ℕ} (end : ℕ) where
  -- the words are over
  pub picked-none : Scanned p from w from from → end ≤ 64 * w → Picked p from end None
  picked-none f h = all-less h f.gap

  -- or end with a word that has one
  pub picked-then : {x k : ℕ} → Hit p w from x k → Picked p from end (then_some (ltb k end) k)
  picked-then {x} {k} h =
      dite (dec_lt k end)
      (λ l. rw (lt-ltb k end l) (h.beyond, l, h.skipped, h.passes))
      (λ n. rw (le-ltb k end (omega arith)) (all-less (omega arith) h.skipped))
