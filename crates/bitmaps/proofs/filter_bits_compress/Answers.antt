-- `bitmaps::filter_bits_compress` meets its contract. The invariant: the bits of the words passed are packed. Assumes nothing.
use Prim.Native.Nat.{◌+◌, ◌*◌}
use mathlib.Core.Path.{refl, ◌∙◌}
use native.Mathlib.Omega.{arith}
use borrow.Author.Rules.{rules}
use Rattle.format.specs.Slots.{picks_from}
use Rattle.bitmaps.specs.Push.{Packs}
use Rattle.bitmaps.proofs.PushLaws.{packs-done, flush-room, left-in}
use Rattle.bitmaps.proofs.WordWalk.{taken, taken_more, taken_none, taken-over, word_room, taken-all}
use Rattle.bitmaps.proofs.filter_bits_compress.Goals as goal
use Rattle.bitmaps.proofs.filter_bits_compress.Goals.{After-loop-w, Else-x-ne0}

pub loop-w-init : goal.loop-w-init
unfolding taken picks_from
loop-w-init c = record { inside = omega arith; packs = c.new-to.ensures.begun; same_reference = refl }

pub overflow_mul-w : goal.overflow_mul-w
overflow_mul-w c = omega (arith, c.loop-w.invariant.inside)

pub push_picked-requires-clause-room : goal.push_picked-requires-clause-room
unfolding taken
push_picked-requires-clause-room c =
    let a = c.args in
    let l = c.loop-w in
    word_room a.values.now a.from a.source l.w _ c.word-x.ensures l.invariant.packs c.requires.len_in_bounds

pub loop-w-preserved-then-x-ne0 : goal.loop-w-preserved-then-x-ne0
loop-w-preserved-then-x-ne0 c =
    let a = c.args in
    let l = c.loop-w in
    let word = c.word-x.ensures in
    let pushed = c.push_picked.ensures in
    record {
      inside = omega arith;
      packs = rw (taken_more a.values.now a.from a.source l.w _ (l.w + 1) word refl) (pushed.more l.invariant.packs);
      same_reference = pushed.same_reference ∙ l.invariant.same_reference;
    }

-- an empty word adds nothing
empty : (c : Else-x-ne0) →
    let a = c.args in
    let l = c.loop-w in
    Packs (taken a.values.now a.from a.source (64 * (l.w + 1))) a.out.now a.at l.to
empty c =
    let a = c.args in
    let l = c.loop-w in
    rw (taken_none a.values.now a.from a.source l.w _ (l.w + 1) c.word-x.ensures c.if-x-ne0.false refl) l.invariant.packs

-- nor do those passed over after it
pub loop-w-preserved-then-w-eq0 : goal.loop-w-preserved-then-w-eq0
loop-w-preserved-then-w-eq0 c =
    let a = c.args in
    record {
      inside = omega (arith, c.blank_end-w.ensures.high);
      packs = rw (taken-over a.values.now a.from a.source c.blank_end-w.ensures) (empty (goal.at.loop-w-preserved-then-w-eq0 c).Else-x-ne0);
      same_reference = c.loop-w.invariant.same_reference;
    }

pub loop-w-preserved : goal.loop-w-preserved
loop-w-preserved c = record { inside = omega arith; packs = empty (goal.at.loop-w-preserved c).Else-x-ne0; same_reference = c.loop-w.invariant.same_reference }

-- the last word is passed: all bits are packed
packs-all : (c : After-loop-w) →
    let a = c.args in
    Packs (taken a.values.now a.from a.source a.source.bits.len) a.out.now a.at c.loop-w.to
packs-all c =
    let a = c.args in
    rw (← taken-all a.values.now a.from a.source (64 * c.loop-w.w) (omega arith)) c.loop-w.invariant.packs

pub flush-requires : goal.flush-requires
unfolding taken
flush-requires c = flush-room (packs-all (goal.at.flush-requires c).After-loop-w) c.requires.len_in_bounds

pub returns : goal.returns
unfolding taken
returns c =
    let same = c.loop-w.invariant.same_reference ∙ c.new-to.ensures.same_reference in
    left-in (search rules) (packs-done (packs-all (goal.at.returns c).After-loop-w) c.flush.ensures)
