-- `bytes_at_root` meets its contract: words that are not given add nothing. Assumes nothing.
use Rattle.std.proofs.Common.{refl, ◌∙◌}
use Rattle.slots.specs.Slot.{slot_in}
use Rattle.spans.specs.Spans.{offset_from}
use Rattle.slots.proofs.Reading.{slot-past}
use Rattle.spans.proofs.ByWords.{no_words, passed, rising_word, word_small, word_fits, word_more}
use Rattle.kept_data.proofs.Texts.{offsets-laid, own-picked, all-passed}
use Rattle.kept_data.proofs.root.bytes_at_root.Goals as goal

pub loop-base-init : goal.loop-base-init
loop-base-init c = rw (c.into_iter-base-iterator.ensures.into_iter_gives, c.new-base-items.ensures.source, c.new-base-items.ensures.at) (refl, no_words _ _)

pub word_spans-n-requires : goal.word_spans-n-requires
word_spans-n-requires c =
    let r = c.requires in
    let laid = offsets-laid c.args.counted.ready.sound r.inside r.first r.offsets r.long in
    let w = rw c.loop-base.invariant.0 at c.in-Some.ensures.steps.1 in
    record { wide = r.wide; rising = rising_word laid (λ j h. slot-past _ _ j h) _ w.slots; word_bound = word_small laid.mounts (λ j h. slot-past _ _ j h) _ w.slots }

pub overflow_add-n : goal.overflow_add-n
overflow_add-n c =
    let r = c.requires in
    let i = c.loop-base.invariant in
    let w = rw i.0 at c.in-Some.ensures.steps.1 in
    record { fits = word_fits (offsets-laid c.args.counted.ready.sound r.inside r.first r.offsets r.long).mounts (λ j h. slot-past _ _ j h) _ w.slots (passed _ w.low w.blank i.1) c.word_spans-n.ensures }

pub loop-base-preserved : goal.loop-base-preserved
loop-base-preserved c =
    let r = c.requires in
    let i = c.loop-base.invariant in
    let s = c.in-Some.ensures.steps in
    let w = rw i.0 at s.1 in
    (s.0 ∙ i.0, word_more (offsets-laid c.args.counted.ready.sound r.inside r.first r.offsets r.long).mounts (λ j h. slot-past _ _ j h) _ w.slots (passed _ w.low w.blank i.1) c.word_spans-n.ensures _ w.behind)

pub returns : goal.returns
returns c =
    let r = c.requires in
    let i = c.loop-base.invariant in
    let o = offset_from c.args.offsets.width c.args.counted.journal.now.bytes.now c.args.offsets.first in
    let all = all-passed o (slot_in c.args.counted.source) (rw i.0 at c.in-None.ensures.steps.1) (λ j h. slot-past _ _ j h) i.1 in
    rw all (own-picked c.args.counted.ready.sound r.inside r.first r.offsets (slot_in c.args.counted.source) _ r.long)
