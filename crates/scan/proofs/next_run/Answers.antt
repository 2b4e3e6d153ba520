-- `scan::next_run` meets its contract. Both loops keep `Scanned`, and x is what is left of word w: its set bits at or after e. Each way out of the
-- outer loop gives `Ended`, where they meet. Assumes nothing.
use Rattle.std.proofs.Common.{◌≡◌, ℕ, ◌%◌, ◌^◌, ◌+◌, ◌-◌, ◌*◌, ◌<◌, ◌≤◌, sym, ◌∙◌, arith, rules}
use lib.Bits.{and_le_r}
use lib.Count.{count_trailing_zeros}
use Rattle.format.proofs.SlotLaws.{all_none}
use Rattle.slots.specs.Slot.{slot_in}
use Rattle.slots.proofs.Reading.{slot-in}
use Rattle.scan.proofs.Scan.{Scanned, Hit, Ended, starts, hit, opens, grows, passed, jumps, fresh, ends, ended-run}
use Rattle.scan.proofs.Asked.{end-first, scanned-first}
use Rattle.scan.proofs.next_run.Goals as goal
use Rattle.scan.proofs.next_run.Goals.{After-loop-x, In-loop-x, Joined-a-e-2, Left-loop-x}
use mathlib.Core.Logic.{inl, inr}

-- a turn of the inner loop has the lowest set bit
found : (c : In-loop-x)
    → let a = c.args in
    Hit (slot_in a.source) c.words.w c.loop-x.e c.loop-x.x (64 * c.words.w + count_trailing_zeros 64 c.loop-x.x)
found c = hit c.loop-x.invariant.0 c.loop-x.x c.loop-x.invariant.1 (omega arith)

-- after the inner loop nothing is left of the word
over : (c : After-loop-x)
    → let a = c.args in
    Scanned (slot_in a.source) a.from (c.words.w + 1) c.loop-x.a c.loop-x.e
over c = passed c.loop-x.invariant.0 (sym c.loop-x.invariant.1 ∙ c.loop-x-test.false)

-- the ways out of the outer loop meet: a set bit past the run's end, the last word, the run's end before the next word
ended : (c : Left-loop-x)
    → let a = c.args in
    Ended (slot_in a.source) a.from a.source.bits.len c.loop-x.a c.loop-x-test.end
ended c =
    let a = c.args in
    let e = c.loop-x.e in
    elim (c.loop-x-test.branch-raw) [
      | inl v ↦ let h : Hit (slot_in a.source) c.words.w e c.loop-x.x (64 * c.words.w + count_trailing_zeros 64 c.loop-x.x) =
          hit c.loop-x.invariant.0 c.loop-x.x c.loop-x.invariant.1 (omega arith) in
          rw v.end-is
          (ends a.source.bits.len c.loop-x.invariant.0 (λ _. h.skipped.at e (omega arith) (omega (arith, h.beyond))) (λ q. absurd (v.if-a-e.false q)))
      | inr (inl v) ↦ let f = passed c.loop-x.invariant.0 (sym c.loop-x.invariant.1 ∙ v.loop-x-test.false) in
          rw v.end-is (ends a.source.bits.len f (λ l. f.gap.at e (omega arith) (omega arith)) (λ _. v.if-len-w.true))
      | inr (inr v) ↦ let f = passed c.loop-x.invariant.0 (sym c.loop-x.invariant.1 ∙ v.loop-x-test.false) in
          rw v.end-is (ends a.source.bits.len f (λ l. f.gap.at e (omega arith) (omega arith)) (λ q. absurd (omega arith)))
    ]

pub returns-then-len-from : goal.returns-then-len-from
returns-then-len-from c = end-first (all_none c.if-len-from.true)

pub words-init : goal.words-init
words-init c = (omega arith, starts _ _, c.word_after-x.ensures)

pub loop-x-init : goal.loop-x-init
loop-x-init c = (c.words.invariant.1, c.words.invariant.2)

-- of a word that is not 0, `wrapping_sub` takes 1
less : (x : ℕ) → 0 < x → x < 2 ^ 64 → (x + 18446744073709551615) % 18446744073709551616 ≡ x - 1
less x h l = omega arith

pub loop-x-smaller : goal.loop-x-smaller
loop-x-smaller c =
    let x = c.loop-x.x in
    rw (less x (omega arith) (omega arith)) (omega (arith, and_le_r x (x - 1)))

pub loop-x-preserved : goal.loop-x-preserved
loop-x-preserved c =
    let f = c.loop-x.invariant.0 in
    let h = found (goal.at.loop-x-preserved c).In-loop-x in (
      elim (c.if-a-e.branch-raw) [ inl w ↦ rw w.a-is (opens f h w.if-a-e.true) | inr w ↦ rw w.a-is (grows f h w.if-k-e.false) ],
      rw (less c.loop-x.x (omega arith) (omega arith)) h.cleared,
    )

-- the next word to look at: the one after this, or past words of ones that the run goes on through
next : (c : Joined-a-e-2) →
    let l = c.before.before.before in
    let a = l.args in
    (64 * c.if-a-e-2.w < a.source.bits.len) × (l.words.w < c.if-a-e-2.w) × (c.if-a-e-2.e ≤ 64 * c.if-a-e-2.w)
    × Scanned (slot_in a.source) a.from c.if-a-e-2.w l.loop-x.a c.if-a-e-2.e
next c =
    let l = c.before.before.before in
    let f = over (goal.at.Joined-a-e-2 c).After-loop-x in
    let near = l.loop-x.invariant.0.near in
    elim (c.if-a-e-2.branch-raw) [
      | inl v ↦ let o = v.ones_end-w.ensures in
          let up = o.low in
          let high = o.high in
          rw (v.w-is, v.e-is) (high, omega arith, omega arith, jumps f v.if-a-e-2.true (omega arith) o)
      | inr v ↦ rw (v.w-is, v.e-is) (omega arith, omega arith, omega arith, f)
    ]

pub words-preserved : goal.words-preserved
words-preserved c =
    let n = next (goal.at.words-preserved c).Joined-a-e-2 in
    (n.0, n.3, c.word-x.ensures ∙ fresh _ _ 64 _ n.2)

pub returns : goal.returns
returns c =
    let e = ended (goal.at.returns c).Left-loop-x in
    c.then_some.ensures ∙ scanned-first _ _ (ended-run e (slot-in _ _)) e.none

pub overflow_cast-k : goal.overflow_cast-k
overflow_cast-k c = omega (arith, (found c).inside)

pub overflow_add-k : goal.overflow_add-k
overflow_add-k c = omega (arith, (found c).inside)

pub overflow_add-e : goal.overflow_add-e
overflow_add-e c = omega (arith, (found (goal.at.overflow_add-e c).In-loop-x).inside)

pub overflow_mul-e : goal.overflow_mul-e
overflow_mul-e c = let h = c.ones_end-w.ensures.high in omega arith

pub word-x-requires : goal.word-x-requires
word-x-requires c = let n = next c in search rules

pub words-smaller : goal.words-smaller
words-smaller c = let n = next (goal.at.words-smaller c).Joined-a-e-2 in omega arith
