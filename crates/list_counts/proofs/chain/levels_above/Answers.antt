-- `list_counts::chain::levels_above` meets its contract. Assumes nothing.
use mathlib.Core.Path.{refl, subst, ◌∙◌}
use native.Mathlib.Omega.{arith}
use Rattle.std.proofs.lemmas.Option.{same_Some}
use Rattle.list_counts.specs.Chains.{Climbed}
use Rattle.list_counts.proofs.Climbing.{bare-at, bare-plain, bare-first, climb-none, climb-more, climb-done, up-inside}
use Rattle.list_counts.proofs.chain.levels_above.Goals as goal

pub loop-k-init : goal.loop-k-init
loop-k-init c = climb-none refl c.requires.0 c.requires.1

pub parent-requires : goal.parent-requires
parent-requires c = c.loop-k.invariant.inside

pub bare_list-requires : goal.bare_list-requires
bare_list-requires c = omega (arith, c.parent.ensures, up-inside c.args.journal.now.sound c.loop-k.invariant)

pub top_of-t-requires : goal.top_of-t-requires
top_of-t-requires c = (bare-at (c.in_ok-list.ensures c.in_ok-list.list refl)).inside

pub loop-k-preserved : goal.loop-k-preserved
loop-k-preserved c =
    let h = c.in_ok-list.ensures c.in_ok-list.list refl in
    climb-more c.args.journal.now.sound c.loop-k.invariant (omega arith) (h.is ∙ c.parent.ensures) (bare-at h) (bare-plain h) c.of.ensures.1 (c.of.ensures.0 ∙ bare-first h)
    c.top_of-t.ensures.level (omega arith)

pub returns-then-t-eq0 : goal.returns-then-t-eq0
returns-then-t-eq0 c x e =
    let h = c.in_ok-list.ensures c.in_ok-list.list refl in
    subst (Climbed c.args.journal.now.bytes.now c.args.node) (same_Some _ _ e)
    (climb-done c.args.journal.now.sound c.loop-k.invariant (omega arith) (h.is ∙ c.parent.ensures) (bare-at h) (bare-plain h) c.of.ensures.1 (c.of.ensures.0 ∙ bare-first h)
    c.top_of-t.ensures.level c.requires.1 (omega arith) refl)
