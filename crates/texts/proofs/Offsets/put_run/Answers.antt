-- `texts::Offsets::put_run` meets its contract. A turn writes the offset behind the row, moved as the first one is. Assumes nothing.
use Rattle.std.proofs.Common.{◌≡◌, ℕ, ◌+◌, ◌-◌, ◌<◌, ◌^◌, ◌∷◌, ◌≤◌, refl, ap, ap₂, ◌∙◌, le_refl, arith}
use Rattle.format.specs.Bytes.{to_le}
use Rattle.format.specs.Slots.{count_up}
use Rattle.format.proofs.Numbers.{to_le-mod}
use Rattle.format.proofs.Put.{named}
use Rattle.format.proofs.RowLaws.{up_none, up_more}
use Rattle.append.proofs.Widths.{width-small}
use Rattle.texts.specs.Texts.{offset, size, sizes_of, total_of}
use Rattle.texts.proofs.TextLaws.{rises, risen, run-rises, run_more, begins-at, end_fits, end-room, turns, ended}
use Rattle.texts.proofs.Offsets.put_run.Given.{Over}
use Rattle.texts.proofs.Offsets.put_run.Goals as goal
use Rattle.texts.proofs.Offsets.put_run.Goals.{After-wide-high, After-wide-last, In-loop-row}

pub loop-row-init : goal.loop-row-init
loop-row-init g c = begins-at (omega arith)

-- the row and those behind it
next : (g : Over) (c : In-loop-row g) → count_up (c.args.e - c.loop-row.row) c.loop-row.row ≡ c.loop-row.row ∷ count_up (c.args.e - (c.loop-row.row + 1)) (c.loop-row.row + 1)
next g c = up_more _ _ _ _ (omega arith) refl

module _ (g : Over) (c : After-wide-high g) where
  abbrev o : ℕ → ℕ
  o = offset g.N.Number.WIDTH c.args.self.src.now c.args.self.first

  low-is : c.wide-low.result ≡ o c.args.a
  unfolding offset
  low-is = c.wide-low.ensures ∙ rw c.WIDTH.ensures at c.get.ensures.value

  high_is : c.wide-high.result ≡ o (c.loop-row.row + 1)
  unfolding offset
  high_is = c.wide-high.ensures ∙ rw c.WIDTH-in-loop-row.ensures at c.get-in-loop-row.ensures.value

  moved : c.wide-high.result - c.wide-low.result + c.args.to.sum ≡ o c.loop-row.row - o c.args.a + c.args.to.sum + size o c.loop-row.row
  moved = rw (high_is, low-is) (run_more c.requires.a_le_e.1 (omega arith) c.loop-row-test.true c.args.to.sum)

pub overflow_sub-high : goal.overflow_sub-high
overflow_sub-high g c = rw (high_is g c, low-is g c) (run-rises c.requires.a_le_e.1 (omega arith) c.loop-row-test.true)

pub overflow_add-high : goal.overflow_add-high
overflow_add-high g c =
    let fit = end_fits c.loop-row.invariant (next g (goal.at.overflow_add-high g c).In-loop-row) in
    let small : c.wide-high.result - c.wide-low.result + c.args.to.sum < 256 ^ g.N.Number.WIDTH = omega (arith, fit, moved g c, c.requires.a_bound.0) in
    record { fits = width-small _ g.met.N.Number.width small }

pub put-here-requires : goal.put-here-requires
put-here-requires g c = end-room c.loop-row.invariant (next g (goal.at.put-here-requires g c).In-loop-row) c.requires.a_bound.1

pub loop-row-preserved : goal.loop-row-preserved
loop-row-preserved g c =
    let t = (goal.at.loop-row-preserved g c).After-wide-high in
    let wrote = named c.put-here.ensures (ap (to_le _) c.low.ensures ∙ to_le-mod _ _ ∙ ap₂ (λ high low. to_le _ (high - low + c.args.to.sum)) (high_is g t) (low-is g t)) in
    turns c.loop-row.invariant (next g (goal.at.loop-row-preserved g c).In-loop-row) (run_more c.requires.a_le_e.1 (omega arith) c.loop-row-test.true c.args.to.sum) wrote

-- behind the loop: the offset behind the last row
module _ (g : Over) (c : After-wide-last g) where
  abbrev from : ℕ → ℕ
  from = offset g.N.Number.WIDTH c.args.self.src.now c.args.self.first

  last-is : (c.wide-last.result ≡ from c.args.e) × (c.wide-low.result ≡ from c.args.a) × (from c.args.a ≤ from c.args.e)
  unfolding offset
  last-is = (
    c.wide-last.ensures ∙ rw c.WIDTH-2.ensures at c.get-2.ensures.value,
    c.wide-low.ensures ∙ rw c.WIDTH.ensures at c.get.ensures.value,
    risen from c.args.e (rises c.requires.a_le_e.1) _ _ c.requires.a_le_e.0 (le_refl _),
  )

  sum-is : c.args.to.sum + (c.wide-last.result - c.wide-low.result) ≡ c.args.to.sum + total_of (sizes_of from (count_up (c.args.e - c.args.a) c.args.a))
  sum-is =
      let end : from c.loop-row.row ≡ from c.args.e = ap from (omega (arith, c.loop-row.auto.row-end c.requires.a_le_e.0)) in
      omega (arith, (ended c.loop-row.invariant (up_none _ _ (omega arith)) refl).1, end, last-is)

pub overflow_sub-result : goal.overflow_sub-result
overflow_sub-result g c = omega (arith, last-is g c)

pub overflow_add-result : goal.overflow_add-result
overflow_add-result g c =
    let small : c.args.to.sum + (c.wide-last.result - c.wide-low.result) < 256 ^ g.N.Number.WIDTH = omega (arith, sum-is g (goal.at.overflow_add-result g c).After-wide-last, c.requires.a_bound.0) in
    record { fits = width-small _ g.met.N.Number.width small }

pub returns : goal.returns
returns g c = record { wrote = (ended c.loop-row.invariant (up_none _ _ (omega arith)) refl).0; sum_value = sum-is g (goal.at.returns g c).After-wide-last }
