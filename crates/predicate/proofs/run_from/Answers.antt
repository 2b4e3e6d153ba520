-- `predicate::run_from` meets its contract: what is left of the word is empty, or holds the run's start; the run ends in the word or goes on. Assumes nothing.
use Rattle.std.proofs.Common.{◌≡◌, ◌+◌, ◌-◌, ◌*◌, ◌/◌, ◌%◌, ◌^◌, ◌<◌, sym, ◌∙◌, refl, ⊎_elim, eq-zero-or-pos, arith}
use lib.Count.{count_trailing_zeros}
use Rattle.format.specs.Slots.{word_from, after}
use Rattle.format.proofs.SlotLaws.{all_none}
use Rattle.format.proofs.WordLaws.{from-clear}
use Rattle.slots.specs.Slot.{slot_in}
use Rattle.predicate.specs.Blocks.{Found}
use Rattle.predicate.proofs.WordRuns.{first-row, found-on, found-run, end-near, none-after}
use Rattle.predicate.proofs.run_from.Goals as goal
use Rattle.predicate.proofs.run_from.Goals.{After-word_in, Else-x-eq0, Else-y-eq0}

-- what is left of the word
left : (c : After-word_in) →
    let a = c.args in
    c.word_in.result / 2 ^ (a.place % 64) * 2 ^ (a.place % 64) % 2 ^ 64 ≡ word_from (after (slot_in a.source) a.place) 64 (64 * (a.place / 64))
left c =
    let a = c.args in
    let at : 64 * (a.place / 64) + a.place % 64 ≡ a.place = omega arith in
    rw c.word_in.ensures (rw at at (from-clear (slot_in a.source) 64 (64 * (a.place / 64)) (a.place % 64) (omega arith)))

-- it has some row
found : (c : Else-x-eq0) →
    let a = c.args in
    Found (slot_in a.source) a.place (a.place / 64) (c.word_in.result / 2 ^ (a.place % 64) * 2 ^ (a.place % 64) % 2 ^ 64)
found c =
    record {
      near = omega arith;
      gap = all_none (omega arith);
      is = left (goal.at.Else-x-eq0 c).After-word_in;
      some = ⊎_elim (λ z. absurd (c.if-x-eq0.false z)) (λ l. l) (eq-zero-or-pos _);
    }

in-word : (c : Else-x-eq0) → count_trailing_zeros 64 (c.word_in.result / 2 ^ (c.args.place % 64) * 2 ^ (c.args.place % 64) % 2 ^ 64) < 64
in-word c = let h = (first-row (found c)).inside in omega arith

pub returns-then-x-eq0 : goal.returns-then-x-eq0
returns-then-x-eq0 c = none-after (omega arith) (sym (left (goal.at.returns-then-x-eq0 c).After-word_in) ∙ c.if-x-eq0.true)

pub returns-then-y-eq0 : goal.returns-then-y-eq0
returns-then-y-eq0 c = found-on (found (goal.at.returns-then-y-eq0 c).Else-x-eq0) refl c.if-y-eq0.true refl c.run_end.ensures

end-in : (c : Else-y-eq0) →
    let x = c.word_in.result / 2 ^ (c.args.place % 64) * 2 ^ (c.args.place % 64) % 2 ^ 64 in
    count_trailing_zeros 64 ((0xFFFF_FFFF_FFFF_FFFF - x) / 2 ^ count_trailing_zeros 64 x * 2 ^ count_trailing_zeros 64 x % 2 ^ 64) < 64
end-in c = end-near (found (goal.at.Else-y-eq0 c).Else-x-eq0) refl c.if-y-eq0.false

pub returns : goal.returns
returns c = found-run (found (goal.at.returns c).Else-x-eq0) refl c.if-y-eq0.false {len = c.args.source.bits.len} (omega (arith, c.requires))
