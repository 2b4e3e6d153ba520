-- A list whose kept rows a bit source picks: its validity and the source by words, and which child rows it hands on. Assumes nothing.
use Prim.Native.Nat.{ℕ, zero, suc, ◌+◌, ◌-◌, ◌*◌, ◌≤◌, ◌<◌}
use mathlib.Core.Bool.{Bool, true, false, ◌&&◌, ◌||◌, false≢true}
use mathlib.Core.List.{List, [], ◌++◌, append-nil}
use mathlib.Core.Logic.{dite}
use mathlib.Core.Path.{◌≡◌, refl, sym, ap, ◌∙◌}
use native.Mathlib.Decide.{dec_le}
use native.Mathlib.Nat.{zero-add}
use native.Mathlib.Omega.{arith}
use lib.Bits.{bit_and}
use lib.ListN.{length, replicate}
use lib.Seq.{drop-length}
use Rattle.format.specs.Bytes.{bytes_for, packed, over}
use Rattle.format.specs.Rows.{set_rows, Below, none, more}
use Rattle.format.specs.Slots.{slots_from, word_from, pick, picks_from}
use Rattle.format.specs.Node.{rows, valid, first_number}
use Rattle.format.specs.Kept.{kept_spans}
use Rattle.format.proofs.Put.{wrote-front}
use Rattle.format.proofs.RowLaws.{set-none, set-from}
use Rattle.format.proofs.SlotLaws.{picks-cat, picks-none, chosen-picks}
use Rattle.format.proofs.WordLaws.{from-and}
use Rattle.slots.specs.declared.Bits.{Bits}
use Rattle.slots.specs.Source.{slot_of}
use Rattle.nesting.specs.Rows.{between, hands_on, picks_of, Sifted, AtList}
use Rattle.nesting.proofs.ListAt.{list-spans}
use Rattle.nesting.proofs.Tree.{handed-spans}
use Rattle.marks.specs.Marks.{Marked}
use Rattle.marks.proofs.Stored.{length-rows, filled-wrote}
use Rattle.marks.proofs.Marking.{marked-none, marked-as, marked-then, marked-packed}
use Rattle.nesting.proofs.Picks.{none-past}
use Rattle.list_marks.specs.Spans.{in_spans}
use Rattle.list_marks.proofs.Spans.{spans-append, spans-none, spans-past, spans-kept}

-- ---- picked rows, word by word

below-picked : (p : ℕ → Bool) (len : ℕ) → ((j : ℕ) → len ≤ j → p j ≡ false) → (n i : ℕ) → Below len (picks_from p n i)
unfolding picks_from
below-picked p len past zero i = none
below-picked p len past (suc n) i = go (p i) refl (below-picked p len past n (suc i))
  where
    go : (t : Bool) → p i ≡ t → Below len (picks_from p n (suc i)) → Below len (pick t i (picks_from p n (suc i)))
    go true e g = dite (dec_le len i) (λ l. absurd (false≢true (sym (past i l) ∙ e))) (λ l. more (let k : i < len = omega arith in k) g)
    go false e g = g

-- p picks, v says valid
module _ (p v : ℕ → Bool) where
  abbrev both : ℕ → Bool
  both r = p r && v r

  -- the rows of a word of both
  pub word_rows : (c : ℕ) {x y : ℕ} → x ≡ word_from p 64 c → y ≡ bit_and x (word_from v 64 c) → set_rows c y ≡ picks_from both 64 c
  word_rows c ex ey = rw (ey, ex, from-and p v 64 c) (set-from both c)

  pub word_below : (len : ℕ) → ((j : ℕ) → len ≤ j → p j ≡ false) → (c : ℕ) {x y : ℕ} → x ≡ word_from p 64 c → y ≡ bit_and x (word_from v 64 c) → Below len (set_rows c y)
  word_below len past c ex ey = rw (word_rows c ex ey) (below-picked both len (λ j l. rw (past j l)) 64 c)

  -- marked by offsets o
  pub words-none : (o : ℕ → ℕ) {s : List ℕ} → Marked (in_spans o (picks_from both 0 0)) s s
  unfolding picks_from
  words-none o = marked-none (λ k. spans-none o [] k refl)

  module _ (o : ℕ → ℕ) {old mid : List ℕ} (c d : ℕ) (e : d ≡ c + 64) (m : Marked (in_spans o (picks_from both c 0)) old mid) where
    rows_more : picks_from both d 0 ≡ picks_from both c 0 ++ picks_from both 64 c
    rows_more = ap (λ (n : ℕ). picks_from both n 0) e ∙ picks-cat both c 64 0 ∙ ap (λ (k : ℕ). picks_from both c 0 ++ picks_from both 64 k) (zero-add c)

    pub words_more : {new : List ℕ} {x y : ℕ} → x ≡ word_from p 64 c → y ≡ bit_and x (word_from v 64 c)
        → Marked (in_spans o (set_rows c y)) mid new → Marked (in_spans o (picks_from both d 0)) old new
    words_more ex ey n =
        marked-as (marked-then m n)
        (λ k.
        ap (in_spans o (picks_from both c 0) k ||◌) (ap (λ (q : List ℕ). in_spans o q k) (word_rows c ex ey))
        ∙ sym (ap (λ (q : List ℕ). in_spans o q k) rows_more ∙ spans-append o (picks_from both c 0) (picks_from both 64 c) k))

    pub words_same : {x : ℕ} → x ≡ 0 → x ≡ word_from p 64 c → Marked (in_spans o (picks_from both d 0)) old mid
    words_same z ex =
        let empty : picks_from both 64 c ≡ [] = sym (word_rows c (sym z ∙ ex) refl) ∙ set-none c (bit_and 0 (word_from v 64 c)) refl in
        let same : picks_from both d 0 ≡ picks_from both c 0 = rows_more ∙ ap (picks_from both c 0 ++◌) empty ∙ append-nil (picks_from both c 0) in
        rw same m

  pub words-all : (o : ℕ → ℕ) {old new : List ℕ} (len k : ℕ) → len ≤ k → ((j : ℕ) → len ≤ j → p j ≡ false) → Marked (in_spans o (picks_from both k 0)) old new → Marked (in_spans o (picks_from both len 0)) old new
  words-all o len k l past m =
      let e : k ≡ len + (k - len) = omega arith in
      let empty : picks_from both (k - len) (0 + len) ≡ [] = picks-none both (k - len) (0 + len) (record { at = λ j f g. rw (past j (omega arith)) }) in
      let same : picks_from both k 0 ≡ picks_from both len 0 =
      ap (λ (n : ℕ). picks_from both n 0) e ∙ picks-cat both len (k - len) 0 ∙ ap (picks_from both len 0 ++◌) empty ∙ append-nil (picks_from both len 0) in
      rw same at m

-- ---- the child rows that the list hands on

module _ {b : List ℕ} {w i : ℕ} (a : AtList b w i) (s : List ℕ) (bits : Bits) where
  abbrev kept : List ℕ
  kept = picks_from (λ q. slot_of s bits q && valid b i q) bits.len 0

  spans-handed : (x : ℕ) → in_spans (first_number w b i) kept x ≡ hands_on b i (picks_of s bits) x
  unfolding kept_spans
  spans-handed x =
      sym (handed-spans b i w a.is_list (picks_of s bits) x
      ∙ ap (λ (q : List ℕ). between (kept_spans w b i q) x (suc x)) (chosen-picks (slot_of s bits) bits.len)
      ∙ spans-kept w b i (slot_of s bits) bits.len 0 x)

  -- zeros, then marks: the bitmap of them
  module _ (sifted : Sifted (picks_of s bits) (rows b i)) where
    rest : (x : ℕ) → rows b (suc i) ≤ x → in_spans (first_number w b i) kept x ≡ false
    rest x l =
        spans-past (first_number w b i) (rows b i) (rows b (suc i)) x (list-spans a).inside l kept
        (below-picked (λ q. slot_of s bits q && valid b i q) (rows b i) (λ j h. rw (none-past s bits (rows b i) sifted j h)) bits.len 0)

    pub region-packed : (old : List ℕ) {mid new : List ℕ} → length old ≡ bytes_for (rows b (suc i)) → mid ≡ replicate (length old) 0 → Marked (in_spans (first_number w b i) kept) mid new
        → new ≡ packed (slots_from (hands_on b i (picks_of s bits)) (rows b (suc i)) 0)
    unfolding over
    region-packed old long z m =
        let p : ℕ → Bool = hands_on b i (picks_of s bits) in
        let n : ℕ = rows b (suc i) in
        let wrote = marked-packed {at = 0} p n (length old) long (omega arith) (filled-wrote 0 z) m (λ k h. absurd (omega arith)) (λ k h. rest k (omega arith)) (λ x h. ap (in_spans (first_number w b i) kept) (omega arith) ∙ spans-handed x) in
        let all : length (packed (slots_from p n 0)) ≡ length old = length-rows p n ∙ sym long in
        wrote-front wrote (omega arith) ∙ rw (all, drop-length old) (append-nil _)
