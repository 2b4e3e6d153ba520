-- Words: a number as the list of its bits, and what a mask gathers (docs/FORMAT.md, 6: words, compress). Assumes nothing.
use Rattle.std.specs.Prelude.{ℕ, zero, suc, ◌+◌, ◌*◌, ◌/◌, ◌%◌, Bool, true, false, List, [], ◌∷◌, ◌++◌, length, take, drop, ◌==◌}
use Rattle.format.specs.Bytes.{one, table}

-- bit 0 of a number
abbrev pub odd : ℕ → Bool
odd x = x % 2 == 1

-- the n lowest bits of a number, low bit first
unfoldable pub low_bits : ℕ → ℕ → List Bool
low_bits zero x = []
low_bits (suc n) x = odd x ∷ low_bits n (x / 2)

-- the number with these bits, low bit first, zero-filled above them
unfoldable pub word_of : List Bool → ℕ
word_of [] = 0
word_of (t ∷ ts) = one t + 2 * word_of ts

-- the items at the true places of a mask, order kept
unfoldable pub gather : {A : Type 0} → List Bool → List A → List A
gather [] xs = []
gather (t ∷ ts) [] = []
gather (true ∷ ts) (x ∷ xs) = x ∷ gather ts xs
gather (false ∷ ts) (x ∷ xs) = gather ts xs

-- compress over w bits: the value bits at set mask bits, gathered to the low end, order kept
unfoldable pub compress : ℕ → ℕ → ℕ → ℕ
compress w value mask = word_of (gather (low_bits w mask) (low_bits w value))

-- the bits of consecutive words of 64 bits; and the full words of a list of bits, with the bits that fill none
unfoldable pub word_bits : List ℕ → List Bool
word_bits [] = []
word_bits (x ∷ xs) = low_bits 64 x ++ word_bits xs

unfoldable pub full_words : List Bool → List ℕ
full_words ts = table (λ j. word_of (take 64 (drop (64 * j) ts))) (length ts / 64)

unfoldable pub spare : List Bool → List Bool
spare ts = drop (64 * (length ts / 64)) ts

-- to unfold `opened` is to unfold all of this module
unfoldable pub opened : Unit {0}
unfolding low_bits word_of gather compress word_bits full_words spare
opened = tt
