-- `pack::tree::walk_of` meets its contract: a step of the walk opens node i below those that are open before it. Assumes nothing.
use Rattle.std.proofs.Common.{arith, ◌≡◌, ◌∙◌, sym, ap, subst, refl, ℕ, ◌+◌, List, length, length-set, set, map, ◌<◌}
use Rattle.std.proofs.lemmas.List.{map-set, length-map}
use Rattle.format.specs.Node.{ancestors, innermost, parent, depth, node_count}
use Rattle.pack.specs.Tree.{Holds}
use Rattle.pack.specs.declared.Place.{Place}
use Rattle.pack.specs.declared.Node.{Node}
use Rattle.pack.proofs.Stack.{holds-none, holds_more, room, opened-on}
use Rattle.pack.proofs.tree.walk_of.Goals as goal

-- one place more
placed : {f : ℕ → ℕ} {i : ℕ} (of : Place → ℕ) (xs : List Place) (v : Place) → Holds f i (map of xs) → i < length xs → of v ≡ f i → Holds f (i + 1) (map of (set xs i v))
placed of xs v h l e = subst (Holds _ _) (sym (map-set of xs _ v)) (holds_more h (rw length-map l) e)

pub loop-i-init : goal.loop-i-init
unfolding ancestors
loop-i-init c = (refl, c.new-open.ensures, holds-none _ _, holds-none _ _)

pub push-requires : goal.push-requires
push-requires c = room _ _ c.loop-i.invariant.1 c.child_came.ensures (omega arith)

pub loop-i-preserved : goal.loop-i-preserved
unfolding parent depth
loop-i-preserved c =
    let l = c.loop-i in
    let within : l.i < length l.places = omega arith in (
      rw length-set l.invariant.0,
      opened-on _ _ l.invariant.1 c.child_came.ensures (ap (λ (n : Node). n.kids) c.node_at.ensures) c.push.ensures c.close.ensures,
      placed (λ p. p.parent) l.places _ l.invariant.2 within (c.innermost.ensures ∙ ap innermost l.invariant.1),
      placed (λ p. p.depth) l.places _ l.invariant.3 within (omega (arith, ap length l.invariant.1)),
    )

pub returns : goal.returns
returns c =
    let l = c.loop-i.invariant in
    let e : c.loop-i.i ≡ node_count c.args.pack.now = omega arith in
    record { above = rw e at l.2; deep = rw e at l.3; rest = c.depth-2.ensures.0 ∙ ap length (l.1 ∙ ap (ancestors c.args.pack.now) e) }
