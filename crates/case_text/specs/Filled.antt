-- A buffer whose front is filled: what a call puts behind the bytes that stand there. Assumes nothing.
use Rattle.std.specs.Prelude.{ℕ, List, Option, None, ◌≡◌, length, take}
use Rattle.case_text.specs.declared.bytes.Bytes.{Bytes}
use Rattle.case_text.specs.declared.Word.{Word}
use Rattle.case_text.specs.Words.{next_bytes, bytes_from}

-- the bytes at the front
abbrev pub filled : Bytes → List ℕ
filled b = take b.len b.buffer.now

-- x was put by the definition `put`
pub record Fills {A : Type 0} (old new : Bytes) (put : ℕ → List ℕ → A → List ℕ) (x : A) : Type 0 where
  pub room : length new.buffer.now ≡ length old.buffer.now
  pub bytes : filled new ≡ put (length old.buffer.now) (filled old) x

-- what a byte of text puts
abbrev pub FillsAt : Bytes → Bytes → Option Word → ℕ → Type 0
FillsAt old new word c = Fills old new (λ m ys w. next_bytes m ys w c) word

-- what the part puts that a text begins with
abbrev pub FillsPart : Bytes → Bytes → List ℕ → Type 0
FillsPart old new text = Fills old new (λ m ys rest. bytes_from m ys None rest) text
