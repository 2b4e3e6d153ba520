-- `bits::Packer::push` meets its contract: the word has the low 64 bits of what waited and came, and the overflow is the rest. Assumes nothing.
use native.Mathlib.Omega.{arith}
use Rattle.bits.proofs.PackLaws.{partial-clear, step_partial, full-clear, step-full}
use Rattle.bits.proofs.Packer.push.Goals as goal

pub invariant_of-self : goal.invariant_of-self
invariant_of-self c =
    let p = c.self in
    (c.if-total-lt64.true, partial-clear p.view_is p.invariant.0 p.invariant.1 _ _ c.requires.width c.requires.small c.if-total-lt64.true)

pub returns-then-total-lt64 : goal.returns-then-total-lt64
returns-then-total-lt64 c =
    let p = c.self in
    step_partial p.view_is p.invariant.0 p.invariant.1 _ _ c.requires.width c.requires.small c.if-total-lt64.true

pub invariant_of-self-2 : goal.invariant_of-self-2
invariant_of-self-2 c =
    let p = c.self in
    (omega (arith, p.invariant.0, c.requires.width), full-clear p.view_is p.invariant.0 p.invariant.1 _ _ c.requires.width c.requires.small c.if-total-lt64.false)

pub returns : goal.returns
returns c =
    let p = c.self in
    step-full p.view_is p.invariant.0 p.invariant.1 _ _ c.requires.width c.requires.small c.if-total-lt64.false
