-- Each loop's test, as the code writes it, is the definition's; over the width. Assumes nothing.
use Rattle.std.proofs.Common.{◌≡◌, ℕ, suc, ◌+◌, ◌-◌, ◌*◌, ◌/◌, ◌%◌, ◌^◌, ◌<◌, ◌≤◌, Bool, true, false, ◌&&◌, eqb, ltb, leb, List, [], ◌∷◌, get_or, sym, ap, ◌∙◌, add-zero, mod-lt, mod-eq_of_lt, mul-le-mul_left, mul-suc, ne_eqb, eqb-true, arith}
use mathlib.Core.Bool.{or-false}
use Rattle.std.proofs.Math.Nat.{mod-le}
use Rattle.words.specs.Width.{IsWidth}
use mathlib.Core.Logic.{dite}
use native.Mathlib.Decide.{dec_lt}
use borrow.Author.Tests.{lt-leb}
use Rattle.format.specs.Bytes.{le, any_below, bit_in, bit_at, sum_below}
use Rattle.format.specs.Verdict.{one_of}
use Rattle.format.proofs.Numbers.{le-lt}
use Rattle.content.specs.Numbers.{number, bad_key, bad_valid_key, start_at, bad_runs_at}
use Rattle.content.proofs.SignLaws.{left-is, power_some}
use Rattle.content.proofs.Fold.{any-never, any-and}

-- keys
pub key-is : (w : ℕ) (b : List ℕ) (at limit i key : ℕ) → key ≡ number w b at i → leb limit key ≡ bad_key w b at limit i
unfolding bad_key
key-is w b at limit i key e = rw e

pub valid-is : (w : ℕ) (b : List ℕ) (at limit bits k i key : ℕ) {bit : Bool} → bit ≡ bit_at b bits (k + i) → key ≡ number w b at i → (bit && leb limit key) ≡ bad_valid_key w b at limit bits k i
unfolding bad_valid_key bad_key
valid-is w b at limit bits k i key e f = rw (e, f)

pub bit_is : (b : List ℕ) (at k : ℕ) → eqb (get_or b (at + k / 8) 0 / 2 ^ (k % 8) % 2) 1 ≡ bit_at b at k
unfolding bit_at bit_in
bit_is b at k =
    let q : (8 * at + k) / 8 ≡ at + k / 8 = omega arith in
    let r : (8 * at + k) % 8 ≡ k % 8 = omega arith in
    rw (q, r)

pub none-valid : (w : ℕ) (b : List ℕ) (at limit bits k n : ℕ) → any_below (bad_key w b at limit) n ≡ false → any_below (bad_valid_key w b at limit bits k) n ≡ false
unfolding bad_valid_key
none-valid w b at limit bits k n h = any-and (λ r. bit_at b bits (k + r)) (bad_key w b at limit) n h

-- what is left of a key less a limit that fits
pub key-left : (w : ℕ) → IsWidth w → (b : List ℕ) (at limit i key least : ℕ) → least ≡ limit % 256 ^ w → limit ≤ least → key ≡ number w b at i → key < 256 ^ w
    → leb ((key + (2 ^ 64 - least)) % 2 ^ 64 % 256 ^ w) key ≡ bad_key w b at limit i
key-left w W b at limit i key least el h ek few =
    let low : least < 256 ^ w = rw el (mod-lt limit (power_some w)) in
    let same : least ≡ limit = omega (arith, mod-le limit (256 ^ w)) in
    left-is w W key least few low ∙ rw same (key-is w b at limit i key ek)

-- no key reaches a limit that does not fit
pub no-key : (w : ℕ) (b : List ℕ) (at limit n : ℕ) → ((i : ℕ) → get_or b i 0 < 256) → limit % 256 ^ w < limit → false ≡ any_below (bad_key w b at limit) n
unfolding bad_key number
no-key w b at limit n small h =
    let over : 256 ^ w ≤ limit = dite (dec_lt limit (256 ^ w)) (λ f. absurd (omega (arith, mod-eq_of_lt f))) (λ f. omega arith) in
    sym (any-never _ n (λ r. lt-leb limit _ (omega (arith, le-lt w b (at + w * r) small))))

-- no run ends
pub no-runs : (w : ℕ) (b : List ℕ) (at n places : ℕ) → n ≡ 0 → ltb 0 places ≡ bad_runs_at w b at n places
unfolding bad_runs_at start_at any_below
no-runs w b at n places e = rw e

-- a byte as a number of one byte
pub le-byte : (b : List ℕ) (at : ℕ) → le 1 b at ≡ get_or b at 0
unfolding le sum_below
le-byte b at = simp add-zero (omega arith)

pub byte-number : (b : List ℕ) (at i : ℕ) → get_or b (at + i) 0 ≡ number 1 b at i
unfolding number
byte-number b at i =
    let e : at + i ≡ at + 1 * i = omega arith in
    ap (λ (k : ℕ). get_or b k 0) e ∙ sym (le-byte b (at + 1 * i))

pub byte-is : (b : List ℕ) (at limit i : ℕ) → leb limit (get_or b (at + i) 0) ≡ bad_key 1 b at limit i
byte-is b at limit i = key-is 1 b at limit i (get_or b (at + i) 0) (byte-number b at i)

-- number i of n lies where all n lie
pub number-inside : (at w i n len : ℕ) → i < n → at + w * n ≤ len → at + w * i + w ≤ len
number-inside at w i n len l h =
    let q : w * suc i ≤ w * n = mul-le-mul_left w l in
    let e : w * suc i ≡ w * i + w = mul-suc w i in
    omega arith

-- what is one of three numbers, and not one of the first two, is the last
pub width-last : (w x y z : ℕ) → one_of (x ∷ y ∷ z ∷ []) w ≡ true → (w ≡ x → ⊥) → (w ≡ y → ⊥) → w ≡ z
unfolding one_of
width-last w x y z e hx hy = eqb-true w z (sym (or-false (eqb w z)) ∙ rw (ne_eqb w x hx, ne_eqb w y hy) at e)
