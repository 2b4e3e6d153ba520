-- `next` of `KeptRuns` meets its contract: the run ends where dropped rows follow it, or at the end of all. Assumes nothing.
use Rattle.std.proofs.Common.{refl, ap, ◌∙◌, arith}
use Rattle.stretches.specs.declared.kept.KeptRuns.{KeptRuns}
use Rattle.stretches.proofs.KeptLaws.{looking_none, looking-kept, looking-dropped, told-in, steps-end, steps-dropped, goes}
use Rattle.stretches.proofs.kept.KeptRunsIterator.next.Goals.{else-loop-self-test, then-loop-self-test+else-stretch+then-from-to}
use Rattle.stretches.proofs.kept.KeptRunsIterator.next.Goals as goal

pub loop-self-init : goal.loop-self-init
loop-self-init c = (record { counted = refl; node = refl; len = refl }, refl, looking_none)

pub loop-self-preserved : goal.loop-self-preserved
loop-self-preserved c =
    let k = c.loop-self.invariant in (
      record { counted = c.told-stretch.ensures.same ∙ k.0.counted; node = k.0.node; len = k.0.len },
      refl,
      looking-dropped k.2 (λ f. omega arith) (told-in k.0 k.1 (rw c.if-stretch.false at c.told-stretch.ensures.alike)),
    )

pub loop-self-preserved-then-stretch : goal.loop-self-preserved-then-stretch
loop-self-preserved-then-stretch c =
    let k = c.loop-self.invariant in (
      record { counted = c.told-stretch.ensures.same ∙ k.0.counted; node = k.0.node; len = k.0.len },
      refl,
      looking-kept k.2 (told-in k.0 k.1 (rw c.if-stretch.true at c.told-stretch.ensures.alike)),
    )

pub returns-clause-steps : goal.returns-clause-steps
returns-clause-steps c =
    let k = c.loop-self.invariant in
    rw c.then_some.ensures
    (elim c.loop-self-test.branch [
      | else-loop-self-test w ↦ rw w.self-is (steps-end k.0 k.2 (omega (arith, w.loop-self-test.false, k.0.len, k.1)) (omega (arith, c.loop-self.self.within, k.0.len, k.1)) k.1)
      | then-loop-self-test+else-stretch+then-from-to w ↦
          steps-dropped {i = c.args.self.now} {t = c.loop-self-test.self}
          (record {
            counted = ap (λ (x : KeptRuns). x.stretches.counted) w.self-is ∙ w.told-stretch.ensures.same ∙ k.0.counted;
            node = ap (λ (x : KeptRuns). x.node) w.self-is ∙ k.0.node;
            len = ap (λ (x : KeptRuns). x.len) w.self-is ∙ k.0.len;
          })
          k.2 w.if-from-to.true (ap (λ (x : KeptRuns). x.at) w.self-is) (told-in k.0 k.1 (rw w.if-stretch.false at w.told-stretch.ensures.alike))
    ])

pub returns-clause-goes : goal.returns-clause-goes
returns-clause-goes c = goes _ _ _ (returns-clause-steps c)
