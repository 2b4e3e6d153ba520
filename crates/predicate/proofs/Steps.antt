-- Each case of a selection gives its next block, and what is left stays in step with its source. Assumes nothing.
use Rattle.std.proofs.Common.{◌≡◌, ℕ, ◌+◌, ◌-◌, ◌<◌, ◌≤◌, Bool, true, false, List, [], ◌∷◌, ◌++◌, length, get_or, drop, sym, refl, ap, ◌∙◌, append-nil, take_all, length-drop, arith}
use Rattle.std.specs.Prelude.{Some}
use native.Mathlib.Nat.{sub-zero}
use Rattle.format.specs.Bytes.{bytes_at}
use Rattle.format.specs.Rows.{set_rows, Below, none}
use Rattle.format.specs.Slots.{after, word_from, picks_from, runs_from, count_up, starts_and_ends, FirstRun}
use Rattle.format.proofs.Numbers.{bytes-none, length-bytes}
use Rattle.format.proofs.RowLaws.{set-from, below_left, below-picks, list-more}
use Rattle.format.proofs.SlotLaws.{all_none, picks-all, picks-none}
use Rattle.slots.specs.Source.{slot_of}
use Rattle.predicate.specs.declared.stored.StoredRuns.{StoredRuns}
use Rattle.predicate.specs.declared.stored.StoredRows.{StoredRows}
use Rattle.predicate.specs.declared.Selection.{Selection}
use Rattle.predicate.specs.declared.Selection.TheVariants.{Nothing, Everything, Words, Runs, Rows}
use Rattle.predicate.specs.declared.Block.{Block}
use Rattle.predicate.specs.declared.Block.TheVariants.{Run, Word, Listed}
use Rattle.predicate.specs.declared.Blocks.{Blocks}
use Rattle.predicate.specs.Selection.{selected, reach}
use Rattle.predicate.specs.Blocks.{kept_by, picks_on, edges_on, block_rows, rows_left, Lists, HasLeft, Inside, GoesOn, Agrees, InStep, Begun, Within, OfWords, Leaves, GivesBlock}
use Rattle.predicate.proofs.Picks.{picks_start, edges-start, picks-span, picks-end, picks-over, picks-upto, picks-word, picks-head, edges-head, edges-empty}

-- ---- at the start

-- a stored list has them all
whole : (xs : List ℕ) → bytes_at xs 0 (length xs - 0) ≡ xs
unfolding bytes_at
whole xs = rw sub-zero (take_all _ xs (omega arith))

runs-start : (stored : StoredRuns) {place index : ℕ} → place ≡ 0 → index ≡ 0 → Lists stored.ends.now index (edges_on (slot_of stored.bytes.now stored.bits) stored.bits.len place)
runs-start stored p i = rw (p, i) (record { room = omega arith; entries = whole stored.ends.now ∙ stored.holds ∙ sym (edges-start _ stored.bits.len) })

has-start : (sel : Selection) {place index : ℕ} → place ≡ 0 → index ≡ 0 → HasLeft sel place index
has-start Nothing p i = tt
has-start (Everything n) p i = tt
has-start (Words source) p i = tt
has-start (Runs stored) p i = runs-start stored p i
has-start (Rows stored) p i = rw (p, i) (record { room = omega arith; entries = whole stored.rows.now ∙ stored.holds ∙ sym (picks_start _ stored.bits.len) })

agrees-start : (sel : Selection) {place index : ℕ} → place ≡ 0 → index ≡ 0 → Agrees sel place index
agrees-start Nothing p i = tt
agrees-start (Everything n) p i = tt
agrees-start (Words source) p i = tt
agrees-start (Runs stored) p i = runs-start stored p i
agrees-start (Rows stored) p i = λ _. p

-- blocks in step stand among the rows
inside-reach : (sel : Selection) {place : ℕ} → place ≤ reach sel → Inside sel place
inside-reach Nothing h = tt
inside-reach (Everything n) h = h
inside-reach (Words source) h = h
inside-reach (Runs stored) h = h
inside-reach (Rows stored) h = h

pub step-inside : {s : Blocks} → InStep s → Inside s.sel s.place
step-inside {s} h = inside-reach s.sel h.inside

pub goes-start : {sel : Selection} {r : Blocks} → Begun sel r → GoesOn r
goes-start {sel} {r} b = record { inside = inside-reach r.sel (omega (arith, b.1)); agrees = has-start r.sel b.1 b.2 }

pub step-start : {sel : Selection} {r : Blocks} → Begun sel r → InStep r
step-start {sel} {r} b = record { inside = omega (arith, b.1); agrees = agrees-start r.sel b.1 b.2 }

-- what is left is all of the selection
selected-left : (sel : Selection) → picks_on (kept_by sel) (reach sel) 0 ≡ selected sel
selected-left Nothing = picks-over _ _ _ (omega arith)
selected-left (Everything n) = picks_start _ n ∙ picks-all _ n 0 (record { at = λ j l h. refl })
selected-left (Words source) = picks_start _ _
selected-left (Runs stored) = picks_start _ _
selected-left (Rows stored) = picks_start _ _

pub rows-start : {sel : Selection} {r : Blocks} → Begun sel r → rows_left r ≡ selected sel
rows-start {sel} {r} b = rw (b.0, b.1) (selected-left sel)

-- ---- a word of the mask, none of whose rows passes from len on

module _ (p : ℕ → Bool) {len base place x : ℕ} (past : (j : ℕ) → len ≤ j → p j ≡ false) (is : x ≡ word_from (after p place) 64 base) (a : base ≤ place) (l : place < base + 64) where
  -- the rows of what is left of it
  left-rows : picks_on p len place ≡ set_rows base x ++ picks_on p len (base + 64)
  left-rows = rw (is, set-from) (picks-word p len past base place a (omega arith))

  pub word-leaves : {q : ℕ} → base + 64 ≤ len → q ≡ base + 64 → Leaves p len place (set_rows base x) q
  word-leaves h e = record { rest = rw e left-rows; moves = omega arith; inside = omega arith }

  -- the last one
  pub last-leaves : {q : ℕ} → place < len → len ≤ base + 64 → q ≡ len → Leaves p len place (set_rows base x) q
  last-leaves k h e =
      record {
        rest = rw (e, picks-over p len len (omega arith)) (rw (picks-over p len (base + 64) h) at left-rows);
        moves = omega arith;
        inside = omega arith;
      }

-- ---- everything

pub all-gives : (n place : ℕ) → place < n → picks_on (λ i. true) n place ≡ count_up (n - place) place ++ picks_on (λ i. true) n n
all-gives n place l = picks-span n (omega arith) (omega arith) (omega arith) (all_none (omega arith)) (record { at = λ j l h. refl })

-- ---- stored runs

edges-pair : (rs : List (ℕ × ℕ)) → 0 < length (starts_and_ends rs) → 1 < length (starts_and_ends rs)
unfolding starts_and_ends
edges-pair [] l = absurd (omega arith)
edges-pair (r ∷ rs) l = omega arith

module _ (p : ℕ → Bool) (len place : ℕ) {list : List ℕ} {index : ℕ} (g : Lists list index (edges_on p len place)) where
  pub run-over : length list ≤ index → picks_on p len place ≡ []
  run-over l = picks-end (edges-empty (sym g.entries ∙ bytes-none _ _ _ (omega arith)))

  module _ (l : index < length list) where
    -- a start is followed by its end
    pub run_fits : index + 1 < length list
    unfolding edges_on
    run_fits =
        let many = length-bytes list index (length list - index) (omega arith) in
        let same = ap length g.entries in
        let two = edges-pair (runs_from p (len - place) place) (omega arith) in
        omega arith

    -- the two entries are the first run
    run-first : FirstRun p place len (get_or list index 0) (get_or list (index + 1) 0) × (edges_on p len (get_or list (index + 1) 0) ≡ bytes_at list (index + 2) (length list - (index + 2)))
    run-first =
        let two = run_fits in
        let one = list-more list (length list) index (index + 1) l (omega arith) refl in
        let next = list-more list (length list) (index + 1) (index + 2) two (omega arith) (omega arith) in
        let f = edges-head (sym g.entries ∙ one ∙ ap (λ (l : List ℕ). get_or list index 0 ∷ l) next) in
        (f.run, f.others)

    pub run-gives : Leaves p len place (count_up (get_or list (index + 1) 0 - get_or list index 0) (get_or list index 0)) (get_or list (index + 1) 0)
    run-gives =
        let f = run-first.0 in
        let low = f.low in
        let filled = f.filled in
        let high = f.high in
        record { rest = picks-span len low (omega arith) high f.before f.within; moves = omega arith; inside = high }

    pub run-within : Within len (Run (get_or list index 0) (get_or list (index + 1) 0))
    run-within = let f = run-first.0 in let m = f.filled in (omega arith, f.high)

    pub run-lists : Lists list (index + 2) (edges_on p len (get_or list (index + 1) 0))
    run-lists = record { room = omega (arith, run_fits); entries = sym run-first.1 }

-- ---- stored rows

module _ (p : ℕ → Bool) (len place : ℕ) {list : List ℕ} {index : ℕ} (g : Lists list index (picks_on p len place)) where
  pub list-over : length list ≤ index → picks_on p len place ≡ []
  list-over l = sym g.entries ∙ bytes-none _ _ _ (omega arith)

  -- those that are left are all given at once, some row
  module _ (inside : place ≤ len) (l : index < length list) where
    pub list-leaves : Leaves p len place (drop index list) len
    unfolding bytes_at
    list-leaves =
        let first = picks-head inside (sym g.entries ∙ list-more list (length list) index (index + 1) l (omega arith) refl) in
        let low = first.low in
        let high = first.high in
        let all : bytes_at list index (length list - index) ≡ drop index list = take_all _ (drop index list) (omega (arith, length-drop index list)) in
        record { rest = rw (picks-over p len len (omega arith), append-nil) (sym g.entries ∙ all); moves = omega arith; inside = omega arith }

    pub list-lists : Lists list (length list) (picks_on p len len)
    list-lists = record { room = omega arith; entries = rw (picks-over p len len (omega arith)) (bytes-none _ _ _ (omega arith)) }

-- all of them from the first on
pub list-gives : (stored : StoredRows) (place : ℕ) →
    let p = slot_of stored.bytes.now stored.bits in
    let len = stored.bits.len in
    place ≡ 0 → picks_on p len place ≡ stored.rows.now ++ picks_on p len len
list-gives stored place z =
    let p = slot_of stored.bytes.now stored.bits in
    let len = stored.bits.len in
    rw (z, picks-over p len len (omega arith), append-nil) (picks_start p len ∙ sym stored.holds)

-- ---- the words of a source

pub within : (len : ℕ) (block : Block) → OfWords len block → Within len block
within len (Run a e) h = h
within len (Word base x) h = h
within len (Listed rows) h = absurd h

-- ---- for a consumer

-- where none is kept, none is left
none-left : (place : ℕ) → Below 0 (picks_on (λ i. false) 0 place)
none-left place = rw (picks-over (λ i. false) 0 place (omega arith)) none

-- the rows of what is left lie below the selection's end
below-reach : (sel : Selection) (place : ℕ) → Inside sel place → Below (reach sel) (picks_on (kept_by sel) (reach sel) place)
unfolding picks_on
below-reach Nothing place h = none-left place
below-reach (Everything n) place h = below-picks (kept_by (Everything n)) n (n - place) place (omega arith)
below-reach (Words source) place h = below-picks (kept_by (Words source)) _ (source.bits.len - place) place (omega arith)
below-reach (Runs stored) place h = below-picks (kept_by (Runs stored)) _ (stored.bits.len - place) place (omega arith)
below-reach (Rows stored) place h = below-picks (kept_by (Rows stored)) _ (stored.bits.len - place) place (omega arith)

pub goes-below : (s : Blocks) → GoesOn s → Below (reach s.sel) (rows_left s)
goes-below s h = below-reach s.sel s.place h.inside

pub left-below : (s : Blocks) → InStep s → Below (reach s.sel) (rows_left s)
unfolding picks_on
left-below s h = below-picks (kept_by s.sel) (reach s.sel) (reach s.sel - s.place) s.place (omega (arith, h.inside))

-- what is left up to a further place, and from there on
upto-reach : (sel : Selection) (from to : ℕ) → from ≤ to → Inside sel to → picks_on (kept_by sel) (reach sel) from ≡ picks_from (kept_by sel) (to - from) from ++ picks_on (kept_by sel) (reach sel) to
upto-reach Nothing from to l h = rw (picks-over (λ i. false) 0 from (omega arith), picks-over (λ i. false) 0 to (omega arith), picks-none (λ i. false) (to - from) from (record { at = λ j a k. refl })) refl
upto-reach (Everything n) from to l h = picks-upto (kept_by (Everything n)) n from to l h
upto-reach (Words source) from to l h = picks-upto (kept_by (Words source)) _ from to l h
upto-reach (Runs stored) from to l h = picks-upto (kept_by (Runs stored)) _ from to l h
upto-reach (Rows stored) from to l h = picks-upto (kept_by (Rows stored)) _ from to l h

pub left-to : (s t : Blocks) → t.sel ≡ s.sel → s.place ≤ t.place → Inside t.sel t.place → rows_left s ≡ picks_from (kept_by s.sel) (t.place - s.place) s.place ++ rows_left t
left-to s t same l h = rw same (upto-reach s.sel s.place t.place l (rw same at h))

pub left-upto : (s t : Blocks) → t.sel ≡ s.sel → s.place ≤ t.place → GoesOn t → rows_left s ≡ picks_from (kept_by s.sel) (t.place - s.place) s.place ++ rows_left t
left-upto s t same l h = left-to s t same l h.inside

-- so do those of the next block
next-below : {s t : Blocks} {block : Block} → Below (reach s.sel) (rows_left s) → GivesBlock s (Some block) t → Below (reach s.sel) (block_rows block)
next-below {s} {t} {block} h g = below_left (block_rows block) (rows_left t) (rw g.gives.1 at h)

pub next-goes-below : {s t : Blocks} {block : Block} → GoesOn s → GivesBlock s (Some block) t → Below (reach s.sel) (block_rows block)
next-goes-below {s} h g = next-below (goes-below s h) g

pub block-below : {s t : Blocks} {block : Block} → InStep s → GivesBlock s (Some block) t → Below (reach s.sel) (block_rows block)
block-below {s} h g = next-below (left-below s h) g
