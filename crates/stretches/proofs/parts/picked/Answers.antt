-- `picked` meets its contract. Assumes nothing.
use native.Mathlib.Omega.{arith}
use Rattle.slots.specs.Slot.{slot_in}
use Rattle.slots.proofs.Reading.{slot-past}
use Rattle.scan.proofs.Asked.{first_run-is, first-end}
use Rattle.stretches.proofs.Minding.{picked_none, picked-run, picked-end}
use Rattle.stretches.proofs.parts.picked.Goals as goal

pub returns-in-Some : goal.returns-in-Some
returns-in-Some c = picked_none c.requires (first_run-is {p = slot_in c.args.source} (rw c.in-Some.is at c.next_run.ensures)) (omega arith) c.min.ensures

pub returns-in-Some-2 : goal.returns-in-Some-2
returns-in-Some-2 c = picked-run c.requires (first_run-is {p = slot_in c.args.source} (rw c.in-Some.is at c.next_run.ensures)) (omega arith) c.min-in-Some-2.ensures

pub returns-in-None : goal.returns-in-None
returns-in-None c = picked-end c.requires (first-end {p = slot_in c.args.source} (rw c.in-None.is at c.next_run.ensures)) (λ j h. slot-past _ _ j h)
