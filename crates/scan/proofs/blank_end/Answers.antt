-- `scan::blank_end` meets its contract: no bit is set in the bytes of the four words that are passed. Assumes nothing.
use Rattle.std.proofs.Common.{arith}
use Rattle.scan.proofs.Blanks.{bytes-blank, blank_none, blank-on}
use Rattle.scan.proofs.blank_end.Goals as goal

pub loop-w-preserved : goal.loop-w-preserved
loop-w-preserved c =
    let h = c.loop-w.invariant in
    blank-on _ _ h _ _ (omega arith) (omega arith) (omega arith)
    (bytes-blank _ _ c.load_in.ensures c.load_in-in-loop-w.ensures c.load_in-in-loop-w-2.ensures c.load_in-in-loop-w-3.ensures c.load_in-in-loop-w-4.ensures
    c.if-low-high-ne0.false)

pub loop-w-init : goal.loop-w-init
loop-w-init c = blank_none _ _ _

pub overflow_mul-w : goal.overflow_mul-w
overflow_mul-w c = let h = c.loop-w.invariant.high in omega arith

pub overflow_add-w : goal.overflow_add-w
overflow_add-w c = let h = c.loop-w.invariant.high in omega arith

pub returns-then-low-high-ne0 : goal.returns-then-low-high-ne0
returns-then-low-high-ne0 c = c.loop-w.invariant

pub returns : goal.returns
returns c = c.loop-w.invariant
