-- One turn of the iterators over a word's rows and over its runs. Assumes nothing.
use Rattle.std.proofs.Common.{◌≡◌, ℕ, ◌+◌, ◌-◌, ◌%◌, ◌<◌, ◌^◌, ◌∷◌, refl, ap, arith}
use lib.Bits.{bit_and}
use lib.Count.{count_trailing_zeros}
use Rattle.format.specs.Rows.{set_rows}
use Rattle.format.proofs.RowLaws.{set_more}
use Rattle.words.specs.Run.{LowestRun}
use Rattle.words.proofs.Carry.{lowest-run}

-- 1 taken off a number above 0, by a difference that wraps
one_less : (x : ℕ) → 0 < x → x < 2 ^ 64 → (x + 18446744073709551615) % 18446744073709551616 ≡ x - 1
one_less x p h = omega arith

module _ (base x : ℕ) (p : 0 < x) (h : x < 2 ^ 64) where
  pub row : set_rows base x ≡ (base + count_trailing_zeros 64 x) ∷ set_rows base (bit_and x ((x + 18446744073709551615) % 18446744073709551616))
  row = rw (one_less x p h) (set_more base x p h)

  pub run : LowestRun base x (base + count_trailing_zeros 64 x)
      (base + count_trailing_zeros 64 ((x + (x - bit_and x ((x + 18446744073709551615) % 18446744073709551616))) % 18446744073709551616))
      (bit_and x ((x + (x - bit_and x ((x + 18446744073709551615) % 18446744073709551616))) % 18446744073709551616))
  run = lowest-run base x _ _ p h (ap (bit_and x) (one_less x p h)) refl
