-- Reasons and numbers say the same: a reason is that of its number, and each number by which a pack or a call is refused is that of its reason.
-- Assumes nothing.
use Rattle.std.proofs.Common.{Ok, Err, ◌≡◌, ℕ, zero, suc, Bool, true, false, ◌⊎◌, inl, inr, List, [], ◌∷◌, ◌++◌, refl, subst, arith}
use Rattle.format.specs.declared.Pack.{Pack}
use Rattle.format.specs.declared.Refused.{Refused}
use Rattle.format.specs.declared.Reason.{Reason}
use Rattle.format.specs.declared.Reason.TheVariants.{Size, Mark, Table, Fields, Tree, Rows, Buffers, Content, MaskKind, TooLong, Count, List as Listing, Scratch, Output, Nulls}
use Rattle.format.specs.Verdict.{Condition, condition, conditions, first_of, wrong_root, journal_verdict, mask_verdict}
use Rattle.format.specs.Refusal.{Refusal, unrefused, refused_by, of_verdict, when, ◌then◌}
use Rattle.format.specs.Reason.{reason_number, reason_of}
use Rattle.format.specs.Answer.{Call, refused_for, own_answer, refusal_of, mask_refusal}

pub reason-number : (r : Reason) → reason_of (reason_number r) ≡ r
unfolding reason_of
reason-number Size = refl
reason-number Mark = refl
reason-number Table = refl
reason-number Fields = refl
reason-number Tree = refl
reason-number Rows = refl
reason-number Buffers = refl
reason-number Content = refl
reason-number MaskKind = refl
reason-number TooLong = refl
reason-number Count = refl
reason-number Listing = refl
reason-number Scratch = refl
reason-number Output = refl
reason-number Nulls = refl

-- a verdict of 0 is no refusal
pub own-passed : {P : Type 0} (p : P) → of_verdict p 0 ≡ unrefused
unfolding of_verdict
own-passed p = refl

-- a verdict that is a reason's number, as an answer
pub own_answer-reason : {p : Pack} (r : Reason) → own_answer p (reason_number r) ≡ refused_for r p
unfolding own_answer reason_of
own_answer-reason Size = refl
own_answer-reason Mark = refl
own_answer-reason Table = refl
own_answer-reason Fields = refl
own_answer-reason Tree = refl
own_answer-reason Rows = refl
own_answer-reason Buffers = refl
own_answer-reason Content = refl
own_answer-reason MaskKind = refl
own_answer-reason TooLong = refl
own_answer-reason Count = refl
own_answer-reason Listing = refl
own_answer-reason Scratch = refl
own_answer-reason Output = refl
own_answer-reason Nulls = refl

pub own_answer-accepted : (p : Pack) → own_answer p 0 ≡ Ok tt
unfolding own_answer
own_answer-accepted p = refl

-- which verdict it was
pub own_answer-ok : (p : Pack) (n : ℕ) → Ok tt ≡ own_answer p n → n ≡ 0
unfolding own_answer
own_answer-ok p zero e = refl
own_answer-ok p (suc n) e = cc

pub own_answer-err : {p : Pack} {f : Refused} (n : ℕ) → Err f ≡ own_answer p n → (of_verdict p n ≡ refused_by n p) × (f ≡ record { reason = reason_of n; pack = p })
unfolding own_answer of_verdict
own_answer-err zero e = cc
own_answer-err (suc n) e = (refl, cc)

-- n is the number of a reason
abbrev pub IsNumber : ℕ → Type 0
IsNumber n = reason_number (reason_of n) ≡ n

-- ---- a verdict is 0 or such a number

abbrev AllNumbers : List Condition → Type 0
AllNumbers [] = Unit {0}
AllNumbers (condition n b ∷ cs) = IsNumber n × AllNumbers cs

abbrev IsVerdict : ℕ → Type 0
IsVerdict n = (n ≡ 0) ⊎ IsNumber n

IsVerdict-first : (cs : List Condition) → AllNumbers cs → IsVerdict (first_of cs)
unfolding first_of
IsVerdict-first [] h = inl refl
IsVerdict-first (condition n true ∷ cs) h = inr h.0
IsVerdict-first (condition n false ∷ cs) h = IsVerdict-first cs h.1

pub IsVerdict-journal : (b : List ℕ) → IsVerdict (journal_verdict b)
unfolding journal_verdict conditions reason_of
IsVerdict-journal b = IsVerdict-first (conditions b) (refl, (refl, (refl, (refl, (refl, (refl, (refl, (refl, (refl, tt)))))))))

pub IsVerdict-mask : (b : List ℕ) → IsVerdict (mask_verdict b)
unfolding mask_verdict conditions reason_of
IsVerdict-mask b =
    IsVerdict-first (conditions b ++ (condition 9 (wrong_root b) ∷ [])) (refl, (refl, (refl, (refl, (refl, (refl, (refl, (refl, (refl, (refl, tt))))))))))

-- ---- a refusal is by such a number

unfoldable IsNumbered : Refusal Pack → Type 0
IsNumbered unrefused = Unit {0}
IsNumbered (refused_by n p) = IsNumber n

of-verdict : (p : Pack) (n : ℕ) → IsVerdict n → IsNumbered (of_verdict p n)
unfolding of_verdict IsNumbered
of-verdict p zero v = tt
of-verdict p (suc n) (inl e) = absurd (omega arith)
of-verdict p (suc n) (inr h) = h

of-when : (b : Bool) (n : ℕ) (p : Pack) → IsNumber n → IsNumbered (when b n p)
unfolding when IsNumbered
of-when true n p h = h
of-when false n p h = tt

of-then : (f g : Refusal Pack) → IsNumbered f → IsNumbered g → IsNumbered (f then g)
unfolding ◌then◌ IsNumbered
of-then unrefused g a b = b
of-then (refused_by n p) g a b = a

by-number : (f : Refusal Pack) {n : ℕ} {p : Pack} → f ≡ refused_by n p → IsNumbered f → IsNumber n
unfolding IsNumbered
by-number f e h = subst IsNumbered e h

-- of a whole call, and of a mask prepared alone
pub refused-number : (c : Call) {n : ℕ} {p : Pack} → refusal_of c ≡ refused_by n p → IsNumber n
unfolding refusal_of reason_of
refused-number c e =
    by-number _ e
    (of-then _ _ (of-verdict _ _ (IsVerdict-mask c.mask))
    (of-then _ _ (of-when _ 11 _ refl)
    (of-then _ _ (of-verdict _ _ (IsVerdict-journal c.journal))
    (of-then _ _ (of-when _ 10 _ refl)
    (of-then _ _ (of-when _ 12 _ refl)
    (of-then _ _ (of-when _ 13 _ refl) (of-when _ 14 _ refl)))))))

pub prepared-number : (c : Call) {n : ℕ} {p : Pack} → mask_refusal c ≡ refused_by n p → IsNumber n
unfolding mask_refusal reason_of
prepared-number c e = by-number _ e (of-then _ _ (of-verdict _ _ (IsVerdict-mask c.mask)) (of-then _ _ (of-when _ 11 _ refl) (of-when _ 12 _ refl)))
