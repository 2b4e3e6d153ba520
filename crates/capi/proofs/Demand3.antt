-- Demand 3 of the C entry point `filter`: two calls whose masks pick the same rows, and whose journals are alike in the kept part, return the same
-- number, write the same four numbers and leave the same output, whatever else the two journals hold. The premises (`Alike`) and the conclusion
-- (`Same`) are those of format/proofs/Demand3.antt, with the answer in numbers; Witness.antt has calls that meet the premises. Assumes nothing.
use Prim.Native.Nat.{ℕ}
use mathlib.Core.Bool.{Bool, false}
use mathlib.Core.List.{List}
use mathlib.Core.Path.{◌≡◌, refl, ap₂}
use borrow.Fn.Kinds.{Dens, res_t, ended_of}
use contract.Lifetimes.{Lfts}
use denote.Triple.Clauses.{AtExit}
use Rattle.std.proofs.Common.{Result}
use Rattle.std.specs.Bool.{then_some}
use Rattle.format.specs.declared.Done.{Done}
use Rattle.format.specs.declared.Refused.{Refused}
use Rattle.format.specs.Answer.{Call, call_of}
use Rattle.format.proofs.Demand3 as format
use Rattle.format.proofs.Demand3.{Alike, Seen, Same}
use Rattle.entries.specs.Numbers.{Called, refusal_number, answer_numbers}
use Rattle.capi.proofs.filter.Kinds as has
use Rattle.capi.proofs.filter.Reads as promise

-- a call of the entry point: what it was handed, the number returned, and what its buffers hold as it returned. `ensures` is its contract
pub record Entry : Type 0 where
  pub mask : List ℕ
  pub journal : List ℕ
  pub states : Bool
  pub stated : ℕ
  pub asked : Bool
  pub list : List ℕ
  pub scratch : List ℕ
  pub output : List ℕ
  pub result : ℕ
  pub numbers : List ℕ
  pub output_after : List ℕ
  pub list_after : List ℕ
  pub scratch_after : List ℕ
  pub ensures : Called (call_of mask journal (then_some states stated) asked list scratch output) result numbers output_after list_after scratch_after

abbrev pub call : Entry → Call
call f = call_of f.mask f.journal (then_some f.states f.stated) f.asked f.list f.scratch f.output

-- any call of the entry point is one: nothing is taken of it but what its contract ensures of arguments a, result r and buffers s at return
pub of-contract : (κs : Lfts 6) (a : Dens κs has.ps) (r : (res_t has.r κs).Denot) (s : AtExit (ended_of 6 has.ps has.r) κs) → promise.Learnt κs a r s → Entry
of-contract κs a r s e =
    record {
      mask = a.0.now;
      journal = a.1.0.now;
      states = a.1.1.0;
      stated = a.1.1.1.0;
      asked = a.1.1.1.1.0;
      list = a.1.1.1.1.1.0.now;
      scratch = a.1.1.1.1.1.1.0.now;
      output = a.1.1.1.1.1.1.1.0.now;
      result = r;
      numbers = s.1.1.1.1.1.1.1.1.0.now;
      output_after = s.1.1.1.1.1.1.1.0.now;
      list_after = s.1.1.1.1.1.0.now;
      scratch_after = s.1.1.1.1.1.1.0.now;
      ensures = e;
    }

-- an answer as a C caller has it: the number returned, and the four numbers written
abbrev pub in_c : Result Done Refused → ℕ × List ℕ
in_c a = (refusal_number a, answer_numbers a)

abbrev pub seen : (f : Entry) → Seen in_c (call f)
seen f =
    record {
      told = (f.result, f.numbers);
      output = f.output_after;
      list = f.list_after;
      tells = ap₂ (λ (r : ℕ) (ns : List ℕ). (r, ns)) f.ensures.slip f.ensures.numbered;
      written = f.ensures.written;
      listed = f.ensures.listed;
    }

-- `call f` holds a count only if one is stated: two calls that state none may be passed any two numbers in its place
pub number-unseen : (f g : Entry) → f.states ≡ false → g.states ≡ false → (call f).stated ≡ (call g).stated
number-unseen f g p q = rw (p, q) refl

pub demand3 : (f g : Entry) → Alike (call f) (call g) → Same (seen f) (seen g)
demand3 f g h = format.demand3 (call f) (call g) h (seen f) (seen g)
