-- A bitmap in scratch as a bit source, and what tells the rows of a node. Assumes nothing.
use Prim.Native.Nat.{ℕ, suc, ◌+◌, ◌*◌, ◌^◌, ◌≤◌, ◌<◌}
use mathlib.Core.Bool.{Bool, true, false, ◌||◌, true≢false}
use mathlib.Core.List.{List, [], ◌∷◌}
use mathlib.Core.Logic.{◌⊎◌, inl, inr, ⊎_elim}
use mathlib.Core.Path.{◌≡◌, refl, sym, ap, ◌∙◌}
use native.Mathlib.Nat.{zero-add}
use native.Mathlib.Numerals.{add-one}
use native.Mathlib.Omega.{arith}
use borrow.Author.Tests.{eqb-true, lt-ltb}
use lib.Dec.{eqb}
use lib.ListN.{length, get_or}
use Rattle.std.proofs.lemmas.Option.{none-some}
use Rattle.format.specs.Bytes.{chosen, bit_in, packed}
use Rattle.format.specs.Node.{node_count, kind, kind_number, of_kind, rows, parent}
use Rattle.format.specs.Accepted.{Sound, Shares, Carries}
use Rattle.format.specs.Answer.{takes_scratch}
use Rattle.format.specs.Slots.{slots_from, picks_from, count_up}
use Rattle.format.specs.Kept.{kept_rows, carried}
use Rattle.format.proofs.Accepted.{and_first}
use Rattle.format.proofs.Laws.{kept-root}
use Rattle.format.proofs.SlotLaws.{chosen-picks, picks-ext, picks-all}
use Rattle.slots.specs.Source.{slot_of, Lies}
use Rattle.slots.proofs.Reading.{slot_is, set-plain}
use Rattle.nesting.specs.declared.Handing.{Handing}
use Rattle.nesting.specs.declared.Handing.TheVariants.{Rows, All}
use Rattle.nesting.specs.Hands.{Apart, Hands}
use Rattle.nesting.specs.Rows.{keeps, hands_on, by_offsets, picks_of, Sifted, Top}
use Rattle.nesting.proofs.ByKind.{of-runs, of-nested32, of-nested64, of_others, not-shared}
use Rattle.nesting.proofs.Direct.{level-not}
use Rattle.nesting.proofs.RunRows.{carried-chosen}
use Rattle.nesting.proofs.Scratch.{takes_one}
use Rattle.nesting.proofs.Tree.{kept-all, kept-carried, kept-sifted, handed}
use Rattle.fill.specs.Scratch.{Bitmap, plain_bits, takes_bitmap, Earlier}
use Rattle.fill.specs.Tells.{AsRoot, AllOrNone}

-- a bitmap's bits pick the rows that it tells
module _ {t : ℕ → Bool} {n : ℕ} {s : List ℕ} {at : ℕ} (map : Bitmap t n s at (length s)) where
  slot-told : (j : ℕ) → j < n → slot_of s (plain_bits at n) j ≡ t j
  slot-told j h = slot_is s (plain_bits at n) j h ∙ set-plain s (plain_bits at n) j refl ∙ ap (λ (k : ℕ). bit_in s (8 * at + k)) (zero-add j) ∙ map.tells j h

  plain-picks : picks_of s (plain_bits at n) ≡ chosen t n
  plain-picks = chosen-picks (slot_of s (plain_bits at n)) n ∙ picks-ext _ _ n 0 (λ j _ l. slot-told j (omega arith)) ∙ sym (chosen-picks t n)

  plain-lies : length s < 2 ^ 60 → Lies s (plain_bits at n)
  plain-lies small = record { small = small; values = omega (arith, map.inside); validity = λ at e. absurd (none-some at e) }

-- ---- which nodes take scratch

pub bitmap-takes : (b : List ℕ) (p : ℕ) → takes_bitmap b p ≡ true → takes_scratch b p ≡ true
unfolding takes_bitmap
bitmap-takes b p k = and_first _ _ k

takes-number : (b : List ℕ) (i : ℕ) → takes_scratch b i ≡ true → (kind_number b i ≡ 9) ⊎ ((kind_number b i ≡ 13) ⊎ (kind_number b i ≡ 14))
unfolding takes_scratch of_kind
takes-number b i e = go (eqb (kind_number b i) 9) refl (eqb (kind_number b i) 13) refl e
  where
    go : (u : Bool) → eqb (kind_number b i) 9 ≡ u → (v : Bool) → eqb (kind_number b i) 13 ≡ v → (u || v || eqb (kind_number b i) 14) ≡ true → (kind_number b i ≡ 9) ⊎ ((kind_number b i ≡ 13) ⊎ (kind_number b i ≡ 14))
    go true p v q r = inl (eqb-true _ 9 p)
    go false p true q r = inr (inl (eqb-true _ 13 q))
    go false p false q r = inr (inr (eqb-true _ 14 r))

module _ (b : List ℕ) (i : ℕ) (e : takes_scratch b i ≡ true) where
  takes-shares : Shares (kind b i) → ⊥
  takes-shares =
      ⊎_elim (λ n. not-shared b i (λ q. omega arith) (λ q. omega arith))
      (⊎_elim (λ n. not-shared b i (λ q. omega arith) (λ q. omega arith)) (λ n. not-shared b i (λ q. omega arith) (λ q. omega arith)))
      (takes-number b i e)

  takes-apart : Apart (kind b i) → ⊥
  takes-apart a =
      ⊎_elim (λ n. a.no_runs (of-runs b i n)) (⊎_elim (λ n. a.no_list 4 (of-nested32 b i n)) (λ n. a.no_list 8 (of-nested64 b i n))) (takes-number b i e)

-- so it hands on neither its rows nor all of them
pub takes-other : (b : List ℕ) (i : ℕ) {h : Handing} → takes_scratch b i ≡ true → Hands b i h → (h ≡ Rows) ⊎ (h ≡ All) → ⊥
takes-other b i t g = ⊎_elim (λ e. takes-shares b i t (rw e at g)) (λ e. takes-apart b i t (rw e at g))

-- ---- what node i hands on is what its child keeps

module _ {b root : List ℕ} (sound : Sound b) (rooted : Sifted root (rows b 0)) {i : ℕ} (h : i < node_count b) {rs : List ℕ} (e : rs ≡ kept_rows b root i) where
  pub picked-sifted : Sifted rs (rows b i)
  picked-sifted = rw e (kept-sifted b root sound rooted i h)

  pub picked-handed : takes_scratch b i ≡ true → {region : List ℕ} → region ≡ packed (slots_from (hands_on b i rs) (rows b (i + 1)) 0) → region ≡ packed (slots_from (keeps b root (i + 1)) (rows b (i + 1)) 0)
  picked-handed t r =
      r ∙ ap (λ (p : ℕ → Bool). packed (slots_from p (rows b (i + 1)) 0)) (handed b i sound h (takes_one b i t) root (sym e) ∙ ap (keeps b root) (sym (add-one i)))

-- ---- node t keeps node i's rows, and no struct or union is above it

all-up : (rs : List ℕ) (n : ℕ) → (length (carried rs n) ≡ 0 → ⊥) → count_up n 0 ≡ carried rs n
unfolding carried
all-up [] n f = absurd (f refl)
all-up (r ∷ rs) n f = sym (carried-chosen (r ∷ rs) n ∙ chosen-picks _ n ∙ picks-all _ n 0 (record { at = λ j a l. lt-ltb 0 (length (r ∷ rs)) (omega arith) }))

module _ {b : List ℕ} (root : List ℕ) (sound : Sound b) {i t : ℕ} (top : Top b i t) where
  pub as-root : t ≡ 0 → AsRoot b root i
  as-root e = record { same = sym (top.level.same root) ∙ ap (kept_rows b root) e ∙ kept-root b root; long = sym top.level.long ∙ ap (rows b) e }

  module _ (some : 0 < t) where
    -- it is the child of a runs node or list, and node i is not copied by offsets: it has a bitmap
    module _ (takes : takes_scratch b (parent b t) ≡ true) (plain : by_offsets b i ≡ false) {s places : List ℕ} (e : Earlier b root i s places) where
      map-above : Bitmap (keeps b root t) (rows b t) s (get_or places t 0) (length s)
      unfolding takes_bitmap
      map-above =
          let only : t ≡ suc (parent b t) = sound.shape.only t some top.level.inside (takes_one b (parent b t) takes) in
          rw only (e.bitmaps (parent b t) (omega (arith, sound.shape.above t some, top.level.low)) (rw (takes, ← only, level-not top.level plain)))

      pub above-lies : Lies s (plain_bits (get_or places t 0) (rows b t))
      above-lies = plain-lies map-above e.few

      pub above-picks : Sifted root (rows b 0) → picks_of s (plain_bits (get_or places t 0) (rows b t)) ≡ kept_rows b root i
      above-picks rooted = plain-picks map-above ∙ sym (kept-all b root sound rooted t top.level.inside) ∙ top.level.same root

    -- it is a carried child
    module _ (none : takes_scratch b (parent b t) ≡ false) where
      pub all-or-none : AllOrNone b root i t
      unfolding takes_scratch of_kind
      all-or-none =
          let carries : Carries (kind b (parent b t)) =
          of_others b (parent b t) (sound.shape.inner t some top.level.inside) (λ e. true≢false (rw e at none)) (λ e. true≢false (rw e at none)) (λ e. true≢false (rw e at none))
          (top.last some) in
          let own = kept-carried b root t some carries in
          record { inside = top.level.inside; same = top.level.same root; long = top.level.long; all = λ f. all-up _ (rows b t) (rw own at f) ∙ sym own }
