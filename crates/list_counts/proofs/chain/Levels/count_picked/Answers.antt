-- `Levels::count_picked` meets its contract: words that are not given add nothing. Assumes nothing.
use Prim.Native.Nat.{◌*◌}
use mathlib.Core.Path.{refl, ◌∙◌}
use Rattle.nesting.proofs.Picks.{none-past}
use Rattle.spans.proofs.ByWords.{no_words, passed, word_below, word_small, word_fits, word_more}
use Rattle.list_counts.proofs.Counts.{all-picked}
use Rattle.list_counts.proofs.chain.Levels.count_picked.Goals as goal

pub loop-base-init : goal.loop-base-init
loop-base-init c = rw (c.into_iter-base-iterator.ensures.into_iter_gives, c.new-base-items.ensures.source, c.new-base-items.ensures.at) (refl, no_words _ _)

pub word_chain-sum-requires : goal.word_chain-sum-requires
word_chain-sum-requires c =
    let d = c.requires.descends in
    let past = none-past _ _ _ c.requires.sifted in
    let w = rw c.loop-base.invariant.0 at c.in-Some.ensures.steps.1 in
    record { descends = d; below = word_below d.mounts past _ w.slots; word_bound = word_small d.mounts past _ w.slots }

pub overflow_add-sum : goal.overflow_add-sum
overflow_add-sum c =
    let i = c.loop-base.invariant in
    let w = rw i.0 at c.in-Some.ensures.steps.1 in
    record { fits = word_fits c.requires.descends.mounts (none-past _ _ _ c.requires.sifted) _ w.slots (passed _ w.low w.blank i.1) c.word_chain-sum.ensures }

pub loop-base-preserved : goal.loop-base-preserved
loop-base-preserved c =
    let i = c.loop-base.invariant in
    let s = c.in-Some.ensures.steps in
    let w = rw i.0 at s.1 in
    (s.0 ∙ i.0, word_more c.requires.descends.mounts (none-past _ _ _ c.requires.sifted) _ w.slots (passed _ w.low w.blank i.1) c.word_chain-sum.ensures _ w.behind)

pub returns : goal.returns
returns c =
    let i = c.loop-base.invariant in
    all-picked _ _ _ (64 * c.loop-base.base-iterator.at) (rw i.0 at c.in-None.ensures.steps.1) i.1
