-- A packer's fields, given back by the bits that wait. Assumes nothing.
use Rattle.std.specs.Prelude.{◌^◌, ◌<◌, ◌≡◌, length, refl}
use Rattle.format.specs.Words.{low_bits, word_of}
use Rattle.format.proofs.WordLaws.{length-low, word_low}
use Rattle.bits.specs.declared.Packer.TheInside.{Inside}

pub restored : (p : Inside) → (p.filled < 64) × (p.current < 2 ^ p.filled)
    → ◌≡◌ {A = Inside} (record { current = word_of (low_bits p.filled p.current); filled = length (low_bits p.filled p.current) }) p
restored p h = rw (word_low p.filled p.current h.1, length-low) refl
