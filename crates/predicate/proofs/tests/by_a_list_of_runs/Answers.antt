-- The list of the test `by_a_list_of_runs` holds the route's entries, which the definition counts out. Assumes nothing.
use Rattle.std.proofs.Common.{ℕ, List, Bor, sym, ap}
use Rattle.std.proofs.lemmas.Option.{same_Some}
use Rattle.format.specs.Bytes.{bit_in, bit_at}
use Rattle.format.specs.Slots.{starts_and_ends, runs_from}
use Rattle.slots.specs.Source.{both_set, slot_of}
use Rattle.predicate.proofs.tests.by_a_list_of_runs.Goals as goal

pub selection_of-requires : goal.selection_of-requires
unfolding starts_and_ends runs_from slot_of both_set bit_at bit_in
selection_of-requires g c = record { stored = λ x e. ap (λ (q : Bor (List ℕ)). q.now) (sym (same_Some _ x e)) }
