-- `fill::fill_next` meets its contract: by the root's rows, by a bitmap in scratch, or stretch by stretch. Assumes nothing.
use mathlib.Core.Path.{sym}
use native.Mathlib.Omega.{arith}
use Rattle.nesting.proofs.Direct.{takes-not}
use Rattle.nesting.proofs.Scratch.{child-inside}
use Rattle.fill.proofs.Reading.{picked-sifted, picked-handed}
use Rattle.fill.proofs.fill_next.Goals as goal

pub told_by-requires : goal.told_by-requires
told_by-requires c =
    let q = c.requires in
    record { earlier = q.earlier; i_bound = (q.takes.1, takes-not _ _ q.takes.0) }

pub fill_picked-requires : goal.fill_picked-requires
fill_picked-requires c =
    let q = c.requires in
    let r = c.args.counted.ready in
    record { takes = q.takes; sifted = picked-sifted r.sound r.rooted q.takes.1 (sym (c.in-Root.ensures).same); size = q.size }

pub fill_picked-requires-in-Bitmap : goal.fill_picked-requires-in-Bitmap
fill_picked-requires-in-Bitmap c =
    let q = c.requires in
    let r = c.args.counted.ready in
    record { takes = q.takes; sifted = picked-sifted r.sound r.rooted q.takes.1 (c.in-Bitmap.ensures).0; size = q.size }

pub fill_kept-requires : goal.fill_kept-requires
fill_kept-requires c =
    let q = c.requires in
    record { inside = child-inside c.args.counted.ready.sound q.takes.1 q.takes.0; known = omega (arith, q.known); size = q.size }

pub returns-in-Root : goal.returns-in-Root
returns-in-Root c =
    let t = c.requires.takes in
    let r = c.args.counted.ready in
    picked-handed r.sound r.rooted t.1 (sym (c.in-Root.ensures).same) t.0 c.fill_picked.ensures

pub returns-in-Bitmap : goal.returns-in-Bitmap
returns-in-Bitmap c =
    let t = c.requires.takes in
    let r = c.args.counted.ready in
    picked-handed r.sound r.rooted t.1 (c.in-Bitmap.ensures).0 t.0 c.fill_picked-in-Bitmap.ensures
