-- `slots::Source::count_words` meets its contract: what is read is the word of slots, by its bitmaps' words. Assumes nothing.
use Prim.Native.Nat.{◌*◌, ◌≤◌}
use mathlib.Core.Path.{◌≡◌, refl, ◌∙◌}
use native.Mathlib.Omega.{arith}
use lib.Count.{ones}
use Rattle.std.proofs.Common.{rules, of_calls}
use Rattle.slots.specs.Source.{word_at}
use Rattle.slots.proofs.Reading.{read-word, word-full}
use Rattle.slots.proofs.Counting.{counted_start, counted-more, counted-end, word-place, most}
use Rattle.slots.proofs.Source.count_words.Goals as goal
use Rattle.slots.proofs.Source.count_words.Goals.{After-both-x}

is_word : (c : After-both-x) →
    let s = c.args.self in
    c.both-x.result ≡ word_at s.bytes.now s.bits c.loop-w.w
is_word c =
    let s = c.args.self in
    let w = c.loop-w.w in
    let h = c.both-x.ensures in
    let place = word-place s.bits c.requires w in
    read-word s.bytes.now s.bits 64 (64 * w) _ (rw (← place s.bits.values_at c.loop-w-test.true) (search (rules, of_calls))) h.2
    (λ at q. (q.0, rw (← place at c.loop-w-test.true) (search (rules, of_calls)), q.2))
    ∙ word-full s.bytes.now s.bits 64 (64 * w) (omega (arith, c.requires.whole))

few : (c : After-both-x) → ones c.both-x.result ≤ 64
few c = most _ _ _ (is_word c)

pub loop-w-init : goal.loop-w-init
loop-w-init c = counted_start _

pub loop-w-preserved : goal.loop-w-preserved
loop-w-preserved c = counted-more _ _ _ _ _ c.loop-w.invariant (is_word c) refl

pub returns : goal.returns
returns c = counted-end _ _ _ _ c.loop-w.invariant c.loop-w.auto.w-end c.loop-w-test.false

pub overflow_cast-set : goal.overflow_cast-set
overflow_cast-set c = omega (arith, few c)

pub overflow_add-set : goal.overflow_add-set
overflow_add-set c = omega (arith, few c, c.requires.whole)
