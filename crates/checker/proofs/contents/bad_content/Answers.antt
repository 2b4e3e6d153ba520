-- `checker::contents::bad_content` meets its contract: each arm is its kind. Assumes nothing.
use Rattle.std.proofs.Common.{◌∙◌, refl, inl, inr}
use native.Mathlib.Omega.{arith}
use Rattle.format.specs.Verdict.{bad_content}
use Rattle.checker.proofs.Inside.{Looked, ids-in, ids-is, keys-is, kind-is, lists32-in, lists32-is, lists64-in, lists64-is, nested32-in, nested32-is, nested64-in, nested64-is, nothing_is, offsets32-in, offsets32-is, offsets64-in, offsets64-is, read-few, runs-in, runs-is, views-in, views-is}
use Rattle.checker.proofs.contents.bad_content.Goals as goal
use Rattle.checker.proofs.contents.bad_content.Goals.{After-from}

looked : (c : After-from) → let s = c.before.before.before.before.before.before.before.before in
    Looked s.args.pack.now s.args.i c.node_at-n.result c.from.result c.child_rows-below.result
looked c =
    let s = c.before.before.before.before.before.before.before.before in
    record { laid = s.requires.laid; inside = s.requires.i_bound; read = c.node_at-n.ensures; known = c.from.ensures; under = c.child_rows-below.ensures }

pub bad_offsets-requires : goal.bad_offsets-requires
bad_offsets-requires c = offsets32-in (looked (goal.at.bad_offsets-requires c).After-from) c.in-Bytes32.is

pub bad_offsets-requires-in-Bytes64 : goal.bad_offsets-requires-in-Bytes64
bad_offsets-requires-in-Bytes64 c = offsets64-in (looked (goal.at.bad_offsets-requires-in-Bytes64 c).After-from) c.in-Bytes64.is

pub bad_views-requires : goal.bad_views-requires
bad_views-requires c = views-in (looked (goal.at.bad_views-requires c).After-from) c.in-Views.is _ c.table_start.ensures

pub bad_lists-requires : goal.bad_lists-requires
bad_lists-requires c = lists32-in (looked (goal.at.bad_lists-requires c).After-from) c.in-Lists32.is

pub bad_lists-requires-in-Lists64 : goal.bad_lists-requires-in-Lists64
bad_lists-requires-in-Lists64 c = lists64-in (looked (goal.at.bad_lists-requires-in-Lists64 c).After-from) c.in-Lists64.is

pub overflow_add-n : goal.overflow_add-n
overflow_add-n c = omega (arith, read-few (looked (goal.at.overflow_add-n c).After-from))

pub bad_runs-requires : goal.bad_runs-requires
bad_runs-requires c = runs-in (looked (goal.at.bad_runs-requires c).After-from) c.in-Runs.is

pub bad_keys_of-requires : goal.bad_keys_of-requires
bad_keys_of-requires c = omega (arith, ids-in (looked (goal.at.bad_keys_of-requires c).After-from) c.in-Union.is)

pub bad_dictionary-requires : goal.bad_dictionary-requires
bad_dictionary-requires c = let l = looked (goal.at.bad_dictionary-requires c).After-from in record { laid = l.laid; i_bound = (l.inside, kind-is l c.in-Dictionary.is) }

pub bad_offsets-requires-in-Nested32 : goal.bad_offsets-requires-in-Nested32
bad_offsets-requires-in-Nested32 c = nested32-in (looked (goal.at.bad_offsets-requires-in-Nested32 c).After-from) c.in-Nested32.is

pub bad_offsets-requires-in-Nested64 : goal.bad_offsets-requires-in-Nested64
bad_offsets-requires-in-Nested64 c = nested64-in (looked (goal.at.bad_offsets-requires-in-Nested64 c).After-from) c.in-Nested64.is

-- a kind with nothing to test
pub returns-in-Bits : goal.returns-in-Bits
unfolding bad_content
returns-in-Bits c =
    let l = looked (goal.at.returns-in-Bits c).After-from in
    elim c.in-Bits.is [
      | inl e ↦ nothing_is l e refl
      | inr f ↦ elim f [ inl e ↦ nothing_is l e refl | inr g ↦ elim g [ inl e ↦ nothing_is l e refl | inr h ↦ elim h [ inl e ↦ nothing_is l e refl | inr e ↦ nothing_is l e refl ] ] ]
    ]

pub returns-in-Bytes32 : goal.returns-in-Bytes32
returns-in-Bytes32 c = c.bad_offsets.ensures ∙ offsets32-is (looked (goal.at.returns-in-Bytes32 c).After-from) c.in-Bytes32.is

pub returns-in-Bytes64 : goal.returns-in-Bytes64
returns-in-Bytes64 c = c.bad_offsets-in-Bytes64.ensures ∙ offsets64-is (looked (goal.at.returns-in-Bytes64 c).After-from) c.in-Bytes64.is

pub returns-in-Views : goal.returns-in-Views
returns-in-Views c = c.bad_views.ensures ∙ views-is (looked (goal.at.returns-in-Views c).After-from) c.in-Views.is _ c.table_start.ensures

pub returns-in-Lists32 : goal.returns-in-Lists32
returns-in-Lists32 c = c.bad_lists.ensures ∙ lists32-is (looked (goal.at.returns-in-Lists32 c).After-from) c.in-Lists32.is

pub returns-in-Lists64 : goal.returns-in-Lists64
returns-in-Lists64 c = c.bad_lists-in-Lists64.ensures ∙ lists64-is (looked (goal.at.returns-in-Lists64 c).After-from) c.in-Lists64.is

pub returns-in-Runs : goal.returns-in-Runs
returns-in-Runs c = c.bad_runs.ensures ∙ runs-is (looked (goal.at.returns-in-Runs c).After-from) c.in-Runs.is

pub returns-in-Union : goal.returns-in-Union
returns-in-Union c = c.bad_keys_of.ensures ∙ ids-is (looked (goal.at.returns-in-Union c).After-from) c.in-Union.is

pub returns-in-Dictionary : goal.returns-in-Dictionary
returns-in-Dictionary c = keys-is (looked (goal.at.returns-in-Dictionary c).After-from) c.in-Dictionary.is c.bad_dictionary.ensures

pub returns-in-Nested32 : goal.returns-in-Nested32
returns-in-Nested32 c = c.bad_offsets-in-Nested32.ensures ∙ nested32-is (looked (goal.at.returns-in-Nested32 c).After-from) c.in-Nested32.is

pub returns-in-Nested64 : goal.returns-in-Nested64
returns-in-Nested64 c = c.bad_offsets-in-Nested64.ensures ∙ nested64-is (looked (goal.at.returns-in-Nested64 c).After-from) c.in-Nested64.is
