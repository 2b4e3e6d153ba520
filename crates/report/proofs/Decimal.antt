-- Laws of a number in decimal as it is written: its last digit stored behind the others, and how many digits it has. Assumes nothing.
use Rattle.std.proofs.Common.{◌≡◌, ℕ, ◌+◌, ◌^◌, ◌/◌, ◌%◌, ◌<◌, ◌≤◌, List, [], ◌∷◌, length, set, refl, sym, ap, ◌∙◌, length-append, arith}
use lib.Dec.{lit<}
use Rattle.std.specs.Fmt.{decimal}
use Rattle.std.proofs.lemmas.Fmt.{decimal_digit, decimal_step, length-decimal-le}
use Rattle.format.specs.Put.{Wrote}
use Rattle.format.proofs.Put.{then, named, whole, stored, done}

digit : {old : List ℕ} {at : ℕ} (b : ℕ) → Wrote old at (b ∷ []) (set old at b) (at + 1)
digit b = done (stored (whole refl refl) refl refl) refl refl

module _ {old : List ℕ} {at n : ℕ} where
  pub wrote-short : n < 10 → Wrote old at (decimal n) (set old at (48 + n)) (at + 1)
  wrote-short h = named (digit (48 + n)) (sym (decimal_digit n h))

  pub wrote-long : {new : List ℕ} {here : ℕ} → 10 ≤ n → n < 2 ^ 64 → Wrote old at (decimal (n / 10)) new here → Wrote old at (decimal n) (set new here (48 + n % 10)) (here + 1)
  wrote-long h l w = named (then w (digit (48 + n % 10))) (sym (decimal_step n h l))

-- how long a number is
module _ (n : ℕ) where
  pub size-short : n < 10 → length (decimal n) ≡ 1
  size-short h = ap length (decimal_digit n h)

  pub size-long : 10 ≤ n → n < 2 ^ 64 → length (decimal n) ≡ length (decimal (n / 10)) + 1
  size-long h l = ap length (decimal_step n h l) ∙ length-append (decimal (n / 10)) ((48 + n % 10) ∷ [])

  -- a number of 64 bits has at most 20 digits
  pub size-most : n < 2 ^ 64 → length (decimal n) ≤ 20
  size-most l = length-decimal-le 20 n (lit< tt) (omega arith) l
