-- A pack's bits as a source (docs/FORMAT.md, 3.4; 6: a mask is a pack with such a root). Assumes nothing.
use Rattle.std.specs.Prelude.{ℕ, List, cond, Some, None}
use Rattle.format.specs.Node.{rows, skip, validity_at, first_at, has_no_bitmap}
use Rattle.slots.specs.declared.Bits.{Bits}

-- where the bits of node i stand
abbrev pub bits_of : List ℕ → ℕ → Bits
bits_of b i =
    record {
      values_at = first_at b i;
      validity = cond (has_no_bitmap b i) None (Some (validity_at b i));
      skip = skip b i;
      len = rows b i;
    }
