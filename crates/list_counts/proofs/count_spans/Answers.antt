-- `list_counts::count_spans` meets its contract: words that are not given add nothing. Assumes nothing.
use Prim.Native.Nat.{◌*◌}
use mathlib.Core.Path.{refl, ◌∙◌}
use Rattle.nesting.proofs.ListAt.{list-wide}
use Rattle.spans.proofs.ByWords.{no_words, passed, rising_word, word_small, word_fits, word_more}
use Rattle.list_counts.proofs.Counts.{list-laid, counted-word, counted-past, none_passed, all-counted}
use Rattle.list_counts.proofs.count_spans.Goals as goal

pub loop-base-init : goal.loop-base-init
loop-base-init c = rw (c.into_iter-base-iterator.ensures.into_iter_gives, c.new-base-items.ensures.source, c.new-base-items.ensures.at) (refl, no_words _ _)

pub word_spans-n-requires : goal.word_spans-n-requires
word_spans-n-requires c =
    let l = c.args.list in
    let laid = list-laid l.at l.begins in
    let past = counted-past l.at _ _ c.requires in
    let w = rw c.loop-base.invariant.0 at c.in-Some.ensures.steps.1 in
    let word = counted-word l.at _ _ _ w.slots c.valid_rows-kept.ensures in
    rw (c.of-offsets.ensures.0, c.of-offsets.ensures.1) (record { wide = list-wide l.at; rising = rising_word laid past _ word; word_bound = word_small laid.mounts past _ word })

pub overflow_add-n : goal.overflow_add-n
overflow_add-n c =
    let l = c.args.list in
    let i = c.loop-base.invariant in
    let w = rw i.0 at c.in-Some.ensures.steps.1 in
    let word = counted-word l.at _ _ _ w.slots c.valid_rows-kept.ensures in
    record {
      fits =
          word_fits (list-laid l.at l.begins).mounts (counted-past l.at _ _ c.requires) _ word (passed _ w.low (none_passed l.at _ _ w.blank) i.1)
          (rw (c.of-offsets.ensures.0, c.of-offsets.ensures.1) at c.word_spans-n.ensures);
    }

pub loop-base-preserved : goal.loop-base-preserved
loop-base-preserved c =
    let l = c.args.list in
    let i = c.loop-base.invariant in
    let s = c.in-Some.ensures.steps in
    let w = rw i.0 at s.1 in
    let word = counted-word l.at _ _ _ w.slots c.valid_rows-kept.ensures in (
      s.0 ∙ i.0,
      word_more (list-laid l.at l.begins).mounts (counted-past l.at _ _ c.requires) _ word (passed _ w.low (none_passed l.at _ _ w.blank) i.1)
          (rw (c.of-offsets.ensures.0, c.of-offsets.ensures.1) at c.word_spans-n.ensures) _ w.behind,
    )

pub returns : goal.returns
returns c =
    let l = c.args.list in
    let i = c.loop-base.invariant in
    all-counted l.at l.begins _ _ (64 * c.loop-base.base-iterator.at) (rw i.0 at c.in-None.ensures.steps.1) i.1
