-- `bitmaps::Bitmap::push_run` meets its contract: whole words, and what is left. The invariant: the bits of the words passed are added. Assumes nothing.
use Prim.Native.Nat.{◌+◌, ◌-◌, ◌*◌, ◌/◌}
use native.Mathlib.Omega.{arith}
use Rattle.format.specs.Slots.{count_up}
use Rattle.bitmaps.proofs.PushLaws.{adds_none, adds_then, adds-room}
use Rattle.bitmaps.proofs.WordWalk.{run-bits, run_more, run-size}
use Rattle.bitmaps.proofs.Bitmap.push_run.Goals as goal

pub loop-word-init : goal.loop-word-init
unfolding count_up
loop-word-init c = adds_none

pub push-requires-clause-room : goal.push-requires-clause-room
push-requires-clause-room c =
    let a = c.args in
    let l = c.loop-word in
    let done = run-size a.column.values.now a.column.from (64 * l.word) a.start in
    adds-room (a.end - a.start) 64 l.invariant (omega arith) c.requires.room

pub loop-word-preserved : goal.loop-word-preserved
loop-word-preserved c =
    let a = c.args in
    let l = c.loop-word in
    let b = a.column.values.now in
    let row = a.start + 64 * l.word in
    let bits = run-bits b a.column.from row _ 64 c.word.ensures (omega arith) in
    rw (run_more b a.column.from a.start (64 * l.word) 64 (64 * (l.word + 1)) row (omega arith) (omega arith)) (adds_then l.invariant (rw bits at c.push.ensures))

pub push_low-requires-clause-room : goal.push_low-requires-clause-room
push_low-requires-clause-room c =
    let a = c.args in
    let l = c.loop-word in
    let done = run-size a.column.values.now a.column.from (64 * l.word) a.start in
    adds-room (a.end - a.start) (a.end - (a.start + 64 * ((a.end - a.start) / 64))) l.invariant (omega arith) c.requires.room

pub returns : goal.returns
returns c =
    let a = c.args in
    let l = c.loop-word in
    let b = a.column.values.now in
    let row = a.start + 64 * ((a.end - a.start) / 64) in
    let bits = run-bits b a.column.from row _ (a.end - row) c.word-2.ensures (omega arith) in
    rw (run_more b a.column.from a.start (64 * l.word) (a.end - row) (a.end - a.start) row (omega arith) (omega arith)) (adds_then l.invariant (rw bits at c.push_low.ensures))
