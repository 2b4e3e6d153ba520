-- Demand 3 of the public call: two calls of `filter` whose masks pick the same rows, and whose journals are alike in the kept part, end alike,
-- whatever else the two journals hold. The premises (`Alike`) and the conclusion (`Same`) are those of format/proofs/Demand3.antt; crate `witness`
-- has calls that meet the premises. Assumes nothing.
use Prim.Native.Nat.{ℕ}
use mathlib.Core.Bool.{Bool}
use mathlib.Core.List.{List}
use borrow.Fn.Kinds.{Dens, res_t, ended_of}
use contract.Lifetimes.{Lfts}
use denote.Triple.Clauses.{AtExit}
use Rattle.std.proofs.Common.{Option, Result}
use Rattle.format.specs.declared.Done.{Done}
use Rattle.format.specs.declared.Refused.{Refused}
use Rattle.format.specs.Answer.{Call, call_of, Returned}
use Rattle.format.proofs.Demand3 as format
use Rattle.format.proofs.Demand3.{Alike, Seen, Same}
use Rattle.filter.proofs.filter.Kinds as has
use Rattle.filter.proofs.filter.Reads as promise

-- a call of `filter`: what it was handed, what it answered, and what output, list and scratch hold as it returned. `ensures` is its contract
pub record Filtered : Type 0 where
  pub mask : List ℕ
  pub journal : List ℕ
  pub stated : Option ℕ
  pub asked : Bool
  pub list : List ℕ
  pub scratch : List ℕ
  pub output : List ℕ
  pub answer : Result Done Refused
  pub output_after : List ℕ
  pub list_after : List ℕ
  pub scratch_after : List ℕ
  pub ensures : Returned (call_of mask journal stated asked list scratch output) answer output_after list_after scratch_after

abbrev pub call : Filtered → Call
call f = call_of f.mask f.journal f.stated f.asked f.list f.scratch f.output

-- any call of `filter` is one: nothing is taken of the function but what its contract ensures of arguments a, answer r and buffers s at return
pub of-contract : (κs : Lfts 5) (a : Dens κs has.ps) (r : (res_t has.r κs).Denot) (s : AtExit (ended_of 5 has.ps has.r) κs) → promise.Learnt κs a r s → Filtered
of-contract κs a r s e =
    record {
      mask = a.0.now;
      journal = a.1.0.now;
      stated = a.1.1.0;
      asked = a.1.1.1.0;
      list = a.1.1.1.1.0.now;
      scratch = a.1.1.1.1.1.0.now;
      output = a.1.1.1.1.1.1.0.now;
      answer = r;
      output_after = s.1.1.1.1.1.1.0.now;
      list_after = s.1.1.1.1.0.now;
      scratch_after = s.1.1.1.1.1.0.now;
      ensures = e;
    }

-- what its caller sees
abbrev pub seen : (f : Filtered) → Seen (λ a. a) (call f)
seen f =
    record {
      told = f.answer;
      output = f.output_after;
      list = f.list_after;
      tells = f.ensures.answered;
      written = f.ensures.written;
      listed = f.ensures.listed;
    }

pub demand3 : (f g : Filtered) → Alike (call f) (call g) → Same (seen f) (seen g)
demand3 f g h = format.demand3 (call f) (call g) h (seen f) (seen g)
