-- The bytes that words give, beside the buffer that they are put into: byte by byte, again and again, and text byte by text byte. Assumes nothing.
use Prim.Native.Nat.{ℕ, zero, suc, ◌+◌, ◌-◌, ◌≤◌, ◌<◌}
use mathlib.Core.Bool.{Bool, true, false, cond}
use mathlib.Core.List.{List, [], ◌∷◌}
use mathlib.Core.Path.{◌≡◌, refl, sym, ap, ◌∙◌}
use borrow.Author.Tests.{lt-ltb, le-ltb}
use lib.Dec.{ltb}
use lib.ListN.{length, get_or, set, take, drop, length-set}
use lib.Seq.{length-take-le, take-suc-set}
use native.Mathlib.Omega.{arith}
use Rattle.std.proofs.Common.{Option}
use Rattle.case_text.specs.declared.Word.{Word}
use Rattle.case_text.specs.Places.{ends_part, part_rest}
use Rattle.case_text.specs.Words.{Front, put_byte, put_again, put_word, next_bytes, next_word, bytes_from}

-- a byte is put behind the first `at`, or there is no room
pub put-more : (old : List ℕ) (at x : ℕ) → at < length old → Front (set old at x) (at + 1) (put_byte (length old) (take at old) x)
unfolding put_byte
put-more old at x l =
    let e : at + 1 ≡ suc at = omega arith in
    rw e (record { fits = rw (length-set old at x) l; is = take-suc-set old at x l ∙ rw (length-take-le at old (omega arith), lt-ltb at (length old) l) })

pub put_full : (old : List ℕ) (at x : ℕ) → at ≤ length old → length old ≤ at → Front old at (put_byte (length old) (take at old) x)
unfolding put_byte
put_full old at x h l = record { fits = h; is = rw (length-take-le at old h, le-ltb at (length old) l) }

-- again: one step, and what stops it
get_d_take : (n : ℕ) (l : List ℕ) (i : ℕ) → i < n → get_or (take n l) i 0 ≡ get_or l i 0
get_d_take zero l i h = absurd (omega arith)
get_d_take (suc n) [] i h = refl
get_d_take (suc n) (x ∷ l) zero h = refl
get_d_take (suc n) (x ∷ l) (suc i) h = get_d_take n l i (omega arith)

pub again-few : (m : ℕ) (ys : List ℕ) (n : ℕ) → length ys < 40 → put_again m ys n ≡ ys
unfolding put_again
again-few m ys zero h = refl
again-few m ys (suc n) h = rw (lt-ltb (length ys) 40 h) (again-few m ys n h)

put-none : (m : ℕ) (ys : List ℕ) (x : ℕ) → m ≤ length ys → put_byte m ys x ≡ ys
unfolding put_byte
put-none m ys x h = rw (le-ltb (length ys) m h)

pub again-full : (m : ℕ) (ys : List ℕ) (n : ℕ) → m ≤ length ys → put_again m ys n ≡ ys
unfolding put_again
again-full m ys zero h = refl
again-full m ys (suc n) h = ap (λ (zs : List ℕ). put_again m zs n) (go (ltb (length ys) 40)) ∙ again-full m ys n h
  where
    go : (t : Bool) → cond t ys (put_byte m ys (get_or ys (length ys - 40) 0)) ≡ ys
    go true = refl
    go false = put-none m ys _ h

pub again-step : (m : ℕ) (buffer : List ℕ) (at n j : ℕ) {new : List ℕ} → length buffer ≡ m → at ≤ length buffer → 40 ≤ at → n ≡ suc j
    → new ≡ put_byte (length buffer) (take at buffer) (get_or buffer (at - 40) 0) → put_again m new j ≡ put_again m (take at buffer) n
unfolding put_again
again-step m buffer at n j e h f k g =
    rw (g, k, length-take-le at buffer h, le-ltb at 40 f, get_d_take at buffer (at - 40) (omega arith), e)

pub again-done : (m : ℕ) (ys : List ℕ) (n : ℕ) → n ≡ 0 → put_again m ys n ≡ ys
unfolding put_again
again-done m ys n e = rw e

-- a part: one byte of text more, which may end it, and the text's end
module _ (m : ℕ) (ys : List ℕ) (word : Option Word) {k : ℕ} (e : k ≡ m) {zs : List ℕ} where
  pub read-end : {text : List ℕ} → text ≡ [] → zs ≡ put_word k ys word → zs ≡ bytes_from m ys word text
  unfolding bytes_from
  read-end g h = rw (g, h, e)

  module _ {c : ℕ} {rest text : List ℕ} (g : text ≡ c ∷ rest) (h : zs ≡ next_bytes k ys word c) where
    pub read-on : {w : Option Word} → ends_part c ≡ false → w ≡ next_word word c → bytes_from m zs w rest ≡ bytes_from m ys word text
    unfolding bytes_from
    read-on f n = rw (g, f, h, n, e)

    pub read_here : ends_part c ≡ true → zs ≡ bytes_from m ys word text
    unfolding bytes_from
    read_here f = rw (g, f, h, e)

suc-more : (n : ℕ) → 1 + n + 1 ≡ suc (n + 1)
suc-more n = omega arith

pub rest-on : {c : ℕ} {rest text : List ℕ} → text ≡ c ∷ rest → ends_part c ≡ false → part_rest rest ≡ part_rest text
rest-on {c} {rest} {text} g f = sym (ap part_rest g ∙ rw f (ap (λ (n : ℕ). drop n (c ∷ rest)) (suc-more _)))
