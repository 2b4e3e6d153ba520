-- Words of zeros, passed over four at a time: no value bit is set in the 33 bytes that hold theirs, read as five words. Assumes nothing.
use Rattle.std.proofs.Common.{◌≡◌, ℕ, ◌+◌, ◌-◌, ◌*◌, ◌/◌, ◌<◌, ◌≤◌, Bool, false, List, ◌++◌, sym, ap, ◌∙◌, arith}
use lib.Bits.{bit_or, or_add_and, and_le_l, and_le_r}
use Rattle.format.specs.Bytes.{bit_in}
use Rattle.format.specs.Rows.{set_rows}
use Rattle.format.specs.Slots.{word_from, picks_from, All}
use Rattle.format.proofs.RowLaws.{set-from}
use Rattle.format.proofs.SlotLaws.{all_none, all_join, picks-cat, picks-none}
use Rattle.format.proofs.WordLaws.{from_zero}
use Rattle.slots.specs.declared.Bits.{Bits}
use Rattle.slots.specs.Source.{slot_of}
use Rattle.slots.proofs.Reading.{slot_is, set-not}
use Rattle.scan.specs.Asked.{Blank}
use Rattle.scan.specs.Words.{NextWord}

-- `x | y` is 0 where both are
or-none : (x y : ℕ) → bit_or x y ≡ 0 → (x ≡ 0) × (y ≡ 0)
or-none x y e = (omega (arith, or_add_and x y, and_le_r x y), omega (arith, or_add_and x y, and_le_l x y))

-- ---- the bits that are read

module _ (s : List ℕ) where
  abbrev at : ℕ → ℕ
  at j = word_from (bit_in s) 64 (8 * j)

  -- a word from byte j on, and bits of it
  word_blank : (j i e : ℕ) {x : ℕ} → x ≡ at j → x ≡ 0 → 8 * j ≤ i → e ≤ 8 * j + 64 → All (bit_in s) false i e
  word_blank j i e ex z l h =
      let all = from_zero (bit_in s) 64 (8 * j) (sym ex ∙ z) in
      record { at = λ k a b. all.at k (omega arith) (omega arith) }

  pub bytes-blank : (j : ℕ) {x₀ x₁ x₂ x₃ x₄ : ℕ} → x₀ ≡ at j → x₁ ≡ at (j + 8) → x₂ ≡ at (j + 16) → x₃ ≡ at (j + 24) → x₄ ≡ at (j + 25)
      → bit_or (bit_or (bit_or x₀ x₁) (bit_or x₂ x₃)) x₄ ≡ 0 → All (bit_in s) false (8 * j) (8 * j + 264)
  bytes-blank j {x₀} {x₁} {x₂} {x₃} {x₄} e₀ e₁ e₂ e₃ e₄ z =
      let (most, last) = or-none (bit_or (bit_or x₀ x₁) (bit_or x₂ x₃)) x₄ z in
      let (low, high) = or-none (bit_or x₀ x₁) (bit_or x₂ x₃) most in
      let (z₀, z₁) = or-none x₀ x₁ low in
      let (z₂, z₃) = or-none x₂ x₃ high in
      all_join (word_blank j (8 * j) (8 * j + 64) e₀ z₀ (omega arith) (omega arith))
      (all_join (word_blank (j + 8) (8 * j + 64) (8 * j + 128) e₁ z₁ (omega arith) (omega arith))
      (all_join (word_blank (j + 16) (8 * j + 128) (8 * j + 192) e₂ z₂ (omega arith) (omega arith))
      (all_join (word_blank (j + 24) (8 * j + 192) (8 * j + 256) e₃ z₃ (omega arith) (omega arith))
      (word_blank (j + 25) (8 * j + 256) (8 * j + 264) e₄ last (omega arith) (omega arith)))))

-- ---- the slots that are passed

pub blank_none : (p : ℕ → Bool) (from len : ℕ) → Blank p from len from
blank_none p from len = record { low = omega arith; high = omega arith; all = all_none (omega arith) }

module _ (s : List ℕ) (b : Bits) {from w : ℕ} (f : Blank (slot_of s b) from b.len w) where
  -- four words more
  pub blank-on : (j v : ℕ) → j ≡ b.values_at + (b.skip + 64 * w) / 8 → v ≡ w + 4 → 64 * v < b.len → All (bit_in s) false (8 * j) (8 * j + 264) → Blank (slot_of s b) from b.len v
  blank-on j v ej ev h all =
      let low = f.low in
      record {
        low = omega arith;
        high = omega arith;
        all =
            all_join f.all
            (record {
              at = λ k a l. slot_is s b k (omega arith) ∙ set-not s b k (all.at (8 * b.values_at + (b.skip + k)) (omega arith) (omega arith));
            });
      }

-- ---- word by word

-- no slot of the words from `from` up to w passes
pub record Empty (p : ℕ → Bool) (from len w : ℕ) : Type 0 where
  pub low : from ≤ w
  pub high : 64 * w ≤ len + 64
  pub all : All p false (64 * from) (64 * w)

pub empty_none : (p : ℕ → Bool) (from len : ℕ) → 64 * from ≤ len + 64 → Empty p from len from
empty_none p from len h = record { low = omega arith; high = h; all = all_none (omega arith) }

module _ {p : ℕ → Bool} {from len w : ℕ} (e : Empty p from len w) (h : 64 * w < len) {x : ℕ} (read : x ≡ word_from p 64 (64 * w)) where
  -- an empty word more, and those that are passed over after it
  pub empty_more : x ≡ 0 → Empty p from len (w + 1)
  empty_more z =
      let low = e.low in
      let end : 64 * w + 64 ≡ 64 * (w + 1) = omega arith in
      record { low = omega arith; high = omega arith; all = all_join e.all (rw end at (from_zero p 64 (64 * w) (sym read ∙ z))) }

  pub empty-on : x ≡ 0 → {v : ℕ} → Blank p (w + 1) len v → Empty p from len v
  empty-on z f = let low = e.low in let up = f.low in let high = f.high in record { low = omega arith; high = omega arith; all = all_join (empty_more z).all f.all }

  -- the next word that is not
  pub next-word : (x ≡ 0 → ⊥) → NextWord p from len (64 * w) x (w + 1)
  next-word f = let low = e.low in record { low = omega arith; high = h; behind = omega arith; blank = e.all; slots = read; some = omega arith }

-- the words' set rows joined are the slots that pass, from any word on to any end
pub words-next : {p : ℕ → Bool} {from len base x next : ℕ} → NextWord p from len base x next → (n m : ℕ) → 64 * from + n ≡ 64 * next + m
    → picks_from p n (64 * from) ≡ set_rows base x ++ picks_from p m (64 * next)
words-next {p} {from} {base = base} {next = next} w n m e =
    let low = w.low in
    let behind = w.behind in
    let d : ℕ = base - 64 * from in
    let start : 64 * from + d ≡ base = omega arith in
    let all : n ≡ d + (64 + m) = omega arith in
    rw (all, picks-cat p d (64 + m) (64 * from), start, picks-none p d (64 * from) (rw (← start) at w.blank), picks-cat p 64 m base, w.slots, set-from p base) (ap (λ (k : ℕ). picks_from p 64 base ++ picks_from p m k) (sym behind))
