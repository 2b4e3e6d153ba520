-- What the words of a part give, where there is room for m bytes. Assumes nothing.
use Rattle.std.specs.Prelude.{ℕ, zero, suc, ◌+◌, ◌-◌, ◌*◌, ◌/◌, ◌%◌, ◌^◌, ◌≤◌, Bool, cond, ◌&&◌, Option, Some, None, List, [], ◌∷◌, ◌++◌, ◌≡◌, ◌==◌, nat_lt, nat_le, length, slice_index, take}
use Rattle.case_text.specs.declared.Word.{Word}
use Rattle.case_text.specs.declared.WordKind.{WordKind}
use Rattle.case_text.specs.declared.WordKind.TheVariants.{Number, Byte, Again}
use Rattle.case_text.specs.Places.{ends_part}

-- one byte more, if there is room
unfoldable pub put_byte : ℕ → List ℕ → ℕ → List ℕ
put_byte m ys x = cond (nat_lt (length ys) m) (ys ++ x ∷ []) ys

-- a number in four bytes, low byte first
abbrev pub put_number : ℕ → List ℕ → ℕ → List ℕ
put_number m ys x = put_byte m (put_byte m (put_byte m (put_byte m ys (x % 256)) (x / 0x100 % 256)) (x / 0x10000 % 256)) (x / 0x1000000 % 256)

-- the byte forty places back, n times; none where there are no forty
unfoldable pub put_again : ℕ → List ℕ → ℕ → List ℕ
put_again m ys zero = ys
put_again m ys (suc n) = put_again m (cond (nat_lt (length ys) 40) ys (put_byte m ys (slice_index ys (length ys - 40)))) n

-- a word by its kind: a number of four bytes, one byte, the forty bytes before it so many times more
abbrev pub put_kind : ℕ → List ℕ → WordKind → ℕ → List ℕ
put_kind m ys Number n = put_number m ys n
put_kind m ys Byte n = put_byte m ys (n % 256)
put_kind m ys Again n = put_again m ys (40 * n)

abbrev pub put_word : ℕ → List ℕ → Option Word → List ℕ
put_word m ys None = ys
put_word m ys (Some w) = put_kind m ys w.kind w.value

-- a digit more of a word; a word that begins with a digit is a number
abbrev pub with_digit : Word → ℕ → Word
with_digit w digit = record { kind = w.kind; value = (10 * w.value + digit) % 2 ^ 32 }

abbrev pub begun : WordKind → Word
begun k = record { kind = k; value = 0 }

abbrev pub or_number : Option Word → Word
or_number None = begun Number
or_number (Some w) = w

-- a byte of text: a digit (48 to 57) more of a word, or what ends one and may begin another, b (98) or * (42)
abbrev pub is_digit : ℕ → Bool
is_digit c = nat_le 48 c && nat_le c 57

abbrev pub next_word : Option Word → ℕ → Option Word
next_word word c =
    cond (is_digit c) (Some (with_digit (or_number word) (c - 48)))
    (cond (c == 98) (Some (begun Byte)) (cond (c == 42) (Some (begun Again)) None))

abbrev pub next_bytes : ℕ → List ℕ → Option Word → ℕ → List ℕ
next_bytes m ys word c = cond (is_digit c) ys (put_word m ys word)

-- the bytes of a part, behind those so far and the word that is being read; the text's end ends a word as a line's does
unfoldable pub bytes_from : ℕ → List ℕ → Option Word → List ℕ → List ℕ
bytes_from m ys word [] = put_word m ys word
bytes_from m ys word (c ∷ text) = cond (ends_part c) (next_bytes m ys word c) (bytes_from m (next_bytes m ys word c) (next_word word c) text)

abbrev pub part_bytes : ℕ → List ℕ → List ℕ
part_bytes m text = bytes_from m [] None text

-- the first n bytes of a buffer are ys
pub record Front (buffer : List ℕ) (n : ℕ) (ys : List ℕ) : Type 0 where
  pub fits : n ≤ length buffer
  pub is : take n buffer ≡ ys
