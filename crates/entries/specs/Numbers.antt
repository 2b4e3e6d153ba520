-- An answer as numbers: what a C caller reads, for every case of the answer. Assumes nothing.
use Rattle.std.specs.Prelude.{ℕ, List, [], ◌∷◌, ◌≡◌, Result, Ok, Err}
use Rattle.format.specs.declared.Done.{Done}
use Rattle.format.specs.declared.Ready.{Ready}
use Rattle.format.specs.declared.Refused.{Refused}
use Rattle.format.specs.Mask.{route_number}
use Rattle.format.specs.Reason.{reason_number}
use Rattle.format.specs.Names.{pack_number}
use Rattle.format.specs.Answer.{Call, answer, output_after, list_after, scratch_after, prepared, prepared_list}

-- the number of the refusal, 0 if there is none
abbrev pub refusal_number : {T : Type 0} → Result T Refused → ℕ
refusal_number (Ok given) = 0
refusal_number (Err refused) = reason_number refused.reason

-- the four numbers of a refusal; of the answer of a mask prepared alone; and of that of a whole call
abbrev pub refusal_numbers : Refused → List ℕ
refusal_numbers refused = reason_number refused.reason ∷ pack_number refused.pack ∷ 0 ∷ 0 ∷ []

abbrev pub in_numbers : Result Ready Refused → List ℕ
in_numbers (Ok ready) = ready.kept ∷ ready.slots ∷ route_number ready.route ∷ 0 ∷ []
in_numbers (Err refused) = refusal_numbers refused

abbrev pub answer_numbers : Result Done Refused → List ℕ
answer_numbers (Ok done) = done.kept ∷ done.slots ∷ route_number done.route ∷ done.bytes ∷ []
answer_numbers (Err refused) = refusal_numbers refused

-- a mask prepared: the number returned, the answer, and the list
pub record Entered (c : Call) (r : ℕ) (answer list : List ℕ) : Type 0 where
  pub slip : r ≡ refusal_number (prepared c)
  pub numbers : answer ≡ in_numbers (prepared c)
  pub listed : list ≡ prepared_list c

-- a call answered: the number returned, the four numbers, and output, list and scratch
pub record Called (c : Call) (r : ℕ) (numbers output list scratch : List ℕ) : Type 0 where
  pub slip : r ≡ refusal_number (answer c)
  pub numbered : numbers ≡ answer_numbers (answer c)
  pub written : output ≡ output_after c
  pub listed : list ≡ list_after c
  pub cleared : scratch ≡ scratch_after c
