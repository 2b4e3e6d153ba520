-- The trailer and a node as values: the fields that `format` reads, side by side. Assumes nothing.
use Rattle.std.specs.Prelude.{ℕ, List}
use Rattle.pack.specs.declared.Trailer.{Trailer}
use Rattle.pack.specs.declared.Node.{Node}
use Rattle.format.specs.Node.{table_start, node_count, root_rows, mark_of, kind_number, param, rows, skip, kids, validity_at, first_at, second_at, second_length, last_field}

-- the trailer
abbrev pub trailer_of : List ℕ → Trailer
trailer_of b = record { table_start = table_start b; node_count = node_count b; root_rows = root_rows b; mark = mark_of b }

-- a node of ten fields, in order
abbrev pub node : (k p r s c v f q l z : ℕ) → Node
node k p r s c v f q l z =
    record {
      kind = k;
      param = p;
      rows = r;
      skip = s;
      kids = c;
      validity_at = v;
      first_at = f;
      second_at = q;
      second_length = l;
      last_field = z;
    }

-- node i
abbrev pub node_of : List ℕ → ℕ → Node
node_of b i =
    node
    (kind_number b i)
    (param b i)
    (rows b i)
    (skip b i)
    (kids b i)
    (validity_at b i)
    (first_at b i)
    (second_at b i)
    (second_length b i)
    (last_field b i)
