-- The words that have a picked slot, one after another. Assumes nothing.
use Rattle.std.specs.Prelude.{ℕ, ◌+◌, ◌*◌, ◌<◌, ◌≤◌, Bool, false, Option, MatchOption, ◌≡◌}
use Rattle.format.specs.Slots.{All, word_from}
use Rattle.slots.specs.Slot.{slot_in}
use Rattle.scan.specs.declared.PickedWords.{PickedWords}

-- from word `from` on, the first word with a slot that passes: its first slot is `base`, and word `next` is the one behind it
pub record NextWord (p : ℕ → Bool) (from len base word next : ℕ) : Type 0 where
  pub low : 64 * from ≤ base
  pub high : base < len
  pub behind : 64 * next ≡ base + 64
  pub blank : All p false (64 * from) base
  pub slots : word ≡ word_from p 64 base
  pub some : 0 < word

-- what a call of `next` gives, and where it leaves the iterator: at the word behind the one that it gave, or where no slot is left
abbrev pub GivesWord : PickedWords → Option (ℕ × ℕ) → PickedWords → Type 0
GivesWord s r t =
    (t.source ≡ s.source)
    × MatchOption r (All (slot_in s.source) false (64 * s.at) s.source.bits.len) (λ g. NextWord (slot_in s.source) s.at s.source.bits.len g.0 g.1 t.at)
