-- `nodes::filter_first` meets its contract: each kind has its form of buffer. Assumes nothing.
use mathlib.Core.Logic.{inl, inr}
use mathlib.Core.Path.{refl, sym, ◌∙◌}
use Rattle.format.specs.Accepted as Accepted
use Rattle.nodes.specs.Place.{bytes32, bytes64, of_views, of_lists32, of_lists64, of_union, of_native, of_fixed, of_dictionary}
use Rattle.buffers.proofs.PutLaws.{puts_none}
use Rattle.nodes.proofs.BufferLaws.{b, i, rs, first-struct, first-unknown}
use Rattle.nodes.proofs.filter_first.Goals as goal

pub first_entries-requires-clause-copies : goal.first_entries-requires-clause-copies
first_entries-requires-clause-copies c = rw c.node-width.ensures (elim (rw c.kind.ensures at c.in-Native.is) [
  | inl e ↦ rw e of_native
  | inr f ↦ elim f [ inl e ↦ rw e of_fixed | inr e ↦ rw e of_dictionary ]
])

pub first_offsets-requires-clause-column : goal.first_offsets-requires-clause-column
first_offsets-requires-clause-column c = rw (sym c.kind.ensures ∙ c.in-Bytes32.is) bytes32

pub first_offsets-requires-in-Bytes64-clause-column : goal.first_offsets-requires-in-Bytes64-clause-column
first_offsets-requires-in-Bytes64-clause-column c = rw (sym c.kind.ensures ∙ c.in-Bytes64.is) bytes64

pub first_entries-requires-in-Views-clause-copies : goal.first_entries-requires-in-Views-clause-copies
first_entries-requires-in-Views-clause-copies c = rw (sym c.kind.ensures ∙ c.in-Views.is) of_views

pub first_entries-requires-in-Lists32-clause-copies : goal.first_entries-requires-in-Lists32-clause-copies
first_entries-requires-in-Lists32-clause-copies c = rw (sym c.kind.ensures ∙ c.in-Lists32.is) of_lists32

pub first_entries-requires-in-Lists64-clause-copies : goal.first_entries-requires-in-Lists64-clause-copies
first_entries-requires-in-Lists64-clause-copies c = rw (sym c.kind.ensures ∙ c.in-Lists64.is) of_lists64

pub first_entries-requires-in-Union-clause-copies : goal.first_entries-requires-in-Union-clause-copies
first_entries-requires-in-Union-clause-copies c = rw (sym c.kind.ensures ∙ c.in-Union.is) of_union

pub first_spans-requires-clause-nests : goal.first_spans-requires-clause-nests
first_spans-requires-clause-nests c = rw (sym c.kind.ensures ∙ c.in-Nested32.is) Accepted.Nests.nested32

pub first_spans-requires-in-Nested64-clause-nests : goal.first_spans-requires-in-Nested64-clause-nests
first_spans-requires-in-Nested64-clause-nests c = rw (sym c.kind.ensures ∙ c.in-Nested64.is) Accepted.Nests.nested64

pub returns-in-Struct : goal.returns-in-Struct
returns-in-Struct c =
    let p = c.args.picked in
    elim (rw c.kind.ensures at c.in-Struct.is) [
      | inl e ↦ puts_none (first-struct (b p) (i p) (rs p) e) refl
      | inr e ↦ puts_none (first-unknown (b p) (i p) (rs p) e) refl
    ]
