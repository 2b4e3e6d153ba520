-- `content::runs::bad_runs_of` meets its contract: bad gathers the ends up to i that do not rise. Assumes nothing.
use Rattle.std.proofs.Common.{◌≡◌, suc, ◌-◌, refl, arith}
use Rattle.content.proofs.SignLaws.{runs-are, sinks-more, sinks-start}
use Rattle.content.proofs.Tests.{no-runs}
use Rattle.content.proofs.runs.bad_runs_of.Goals as goal

pub returns-then-n-eq0 : goal.returns-then-n-eq0
returns-then-n-eq0 g c = no-runs _ _ _ _ _ c.if-n-eq0.true

pub loop-i-init : goal.loop-i-init
loop-i-init g c = sinks-start _ g.met.N.Number.width _ _ _ _ _ c.nth.ensures.value c.nth.ensures.fits c.turned.ensures c.turned-2.ensures

pub loop-i-preserved : goal.loop-i-preserved
loop-i-preserved g c = sinks-more _ g.met.N.Number.width _ _ _ _ _ _ _ _ _ refl c.nth-low.ensures.value c.nth-high.ensures.value c.nth-high.ensures.fits c.turned-in-loop-i.ensures c.turned-in-loop-i-2.ensures c.loop-i.invariant

pub returns : goal.returns
returns g c =
    let whole : c.args.n ≡ suc c.loop-i.i = omega arith in
    let here : c.args.n - 1 ≡ c.loop-i.i = omega arith in
    rw c.from.ensures (runs-are _ _ _ _ _ _ _ c.loop-i.invariant whole (rw here at c.nth-last.ensures.value))
