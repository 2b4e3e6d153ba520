-- A bitmap column word by word: what a turn pushes, and that it fits. Assumes nothing.
use Prim.Native.Nat.{ℕ, suc, ◌+◌, ◌-◌, ◌*◌, ◌≤◌, ◌<◌}
use mathlib.Core.Path.{◌≡◌, refl, sym, ap, ◌∙◌}
use mathlib.Core.Bool.{Bool}
use mathlib.Core.List.{List, [], ◌∷◌, ◌++◌, map, map-append, append-nil, append_assoc}
use mathlib.Core.Logic.{dite}
use native.Mathlib.Nat.{zero-add}
use native.Mathlib.Decide.{dec_le}
use native.Mathlib.Omega.{arith}
use lib.ListN.{length, get_or, take, length-append, length-map, length-take}
use lib.Seq.{take-suc}
use Rattle.format.specs.Bytes.{bit_in, packed}
use Rattle.format.specs.Slots.{word_from, picks_from, count_up}
use Rattle.format.specs.Rows.{set_rows}
use Rattle.format.specs.Words.{low_bits, gather}
use Rattle.format.proofs.SlotLaws.{picks-cat, picks-none, count-cat, up-cat, slots-up, length_up}
use Rattle.format.proofs.RowLaws.{set-from, set-none}
use Rattle.format.proofs.WordLaws.{from-shift, low-from, low-slots, gather-map}
use Rattle.format.proofs.Measure.{length-packed}
use Rattle.slots.specs.Source.{word_at}
use Rattle.slots.specs.declared.Source.{Source}
use Rattle.slots.specs.Slot.{slot_in}
use Rattle.slots.proofs.Reading.{slots-picks}
use Rattle.scan.specs.Asked.{Blank}
use Rattle.words.specs.Run.{LowestRun}
use Rattle.bitmaps.specs.declared.Bitmap.{Bitmap}
use Rattle.bitmaps.specs.Push.{Room, Packs, Adds, bit_from}
use Rattle.bitmaps.proofs.PushLaws.{packs-room, adds_none, adds_then, adds-room}

-- the bits of the picked rows of the first n slots
unfoldable pub taken : List ℕ → ℕ → Source → ℕ → List Bool
taken b from source n = map (bit_from b from) (picks_from (slot_in source) n 0)

module _ (b : List ℕ) (from : ℕ) (source : Source) where
  -- one word more
  pub taken_more : (w x v : ℕ) → x ≡ word_at source.bytes.now source.bits w → v ≡ w + 1 → taken b from source (64 * v) ≡ taken b from source (64 * w) ++ map (bit_from b from) (set_rows (64 * w) x)
  unfolding taken
  taken_more w x v ex e =
      let next : 64 * v ≡ 64 * w + 64 = omega arith in
      rw (next, picks-cat, zero-add, ex, set-from) (map-append (bit_from b from) (picks_from (slot_in source) (64 * w) 0) (picks_from (slot_in source) 64 (64 * w)))

  -- an empty word gives none
  pub taken_none : (w x v : ℕ) → x ≡ word_at source.bytes.now source.bits w → x ≡ 0 → v ≡ w + 1 → taken b from source (64 * v) ≡ taken b from source (64 * w)
  taken_none w x v ex z e = taken_more w x v ex e ∙ rw (set-none (64 * w) x z) (append-nil (taken b from source (64 * w)))

  -- nor do words that are passed over
  pub taken-over : {w k : ℕ} → Blank (slot_in source) w source.bits.len k → taken b from source (64 * k) ≡ taken b from source (64 * w)
  unfolding taken
  taken-over {w} {k} h =
      let sum : 64 * k ≡ 64 * w + (64 * k - 64 * w) = omega (arith, h.low) in
      let none = picks-none (slot_in source) (64 * k - 64 * w) (64 * w) (rw (← sum) h.all) in
      rw (sum, picks-cat, zero-add, none, append-nil)

  -- no more are taken than the whole column has, so a turn's word fits
  taken-le : (n : ℕ) → length (taken b from source n) ≤ length (taken b from source source.bits.len)
  unfolding taken
  taken-le n = simp length-map (dite (dec_le n source.bits.len) (λ (h : n ≤ source.bits.len). fewer n h) (λ h. let l : source.bits.len ≤ n = omega arith in rw (slots-picks source.bytes.now source.bits n l) (omega arith)))
    where
      fewer : (k : ℕ) → k ≤ source.bits.len → length (picks_from (slot_in source) k 0) ≤ length (picks_from (slot_in source) source.bits.len 0)
      fewer k h =
          let sum : k + (source.bits.len - k) ≡ source.bits.len = omega arith in
          let cat = rw sum at (count-cat (slot_in source) k (source.bits.len - k) 0) in
          omega arith

  pub word_room : {old : List ℕ} {at : ℕ} {to : Bitmap} (w x : ℕ) → x ≡ word_at source.bytes.now source.bits w → Packs (taken b from source (64 * w)) old at to
      → at + length (packed (taken b from source source.bits.len)) ≤ length old → Room to (length (set_rows (64 * w) x))
  word_room w x ex p fit =
      let whole = length-packed (taken b from source source.bits.len) in
      let rows = length-map (set_rows (64 * w) x) (bit_from b from) in
      let more = ap length (taken_more w x (w + 1) ex refl) ∙ length-append (taken b from source (64 * w)) (map (bit_from b from) (set_rows (64 * w) x)) in
      packs-room p _ (length (taken b from source source.bits.len)) (omega (arith, taken-le (64 * (w + 1)))) (rw (← whole) fit)

  -- past the last slot nothing more is taken
  pub taken-all : (n : ℕ) → source.bits.len ≤ n → taken b from source n ≡ taken b from source source.bits.len
  unfolding taken
  taken-all n h = ap (map (bit_from b from)) (slots-picks source.bytes.now source.bits n h)

-- ---- the bits of rows, whichever way they are told

module _ (b : List ℕ) (from : ℕ) where
  -- n rows from row i on
  pub run-bits : (i v n : ℕ) → v ≡ word_from (bit_in b) 64 (from + i) → n ≤ 64 → low_bits n v ≡ map (bit_from b from) (count_up n i)
  unfolding bit_from
  run-bits i v n e l = rw (e, from-shift) (low-slots (bit_from b from) n 64 i l ∙ slots-up (bit_from b from) n i)

  -- the rows of a word's set bits
  pub set-bits : (base v x : ℕ) → v ≡ word_from (bit_in b) 64 (from + base) → gather (low_bits 64 x) (low_bits 64 v) ≡ map (bit_from b from) (set_rows base x)
  unfolding bit_from set_rows
  set-bits base v x e =
      rw (e, from-shift, low-from (bit_from b from) 64 base, slots-up (bit_from b from) 64 base, gather-map (bit_from b from) (low_bits 64 x) (count_up 64 base))

  -- rows from row i on, and more behind them
  pub run_more : (i n m all j : ℕ) → all ≡ n + m → j ≡ i + n → map (bit_from b from) (count_up all i) ≡ map (bit_from b from) (count_up n i) ++ map (bit_from b from) (count_up m j)
  run_more i n m all j e f = rw (e, f, up-cat) (map-append (bit_from b from) (count_up n i) (count_up m (i + n)))

  pub run-size : (n i : ℕ) → length (map (bit_from b from) (count_up n i)) ≡ n
  run-size n i = rw (length-map, length_up)

-- where a word has one run, its rows are those of the run
pub one-run : {base word from to rest : ℕ} → LowestRun base word from to rest → rest ≡ 0 → set_rows base word ≡ count_up (to - from) from
one-run {base} {rest = rest} r z = r.rows ∙ rw (set-none base rest z) (append-nil _)

-- of the bits of a word's rows, those of the set bits of `rest` are still to be added
pub record Worded (b : List ℕ) (from base word : ℕ) (start to : Bitmap) (rest : ℕ) : Type 0 where
  pub done : List Bool
  pub adds : Adds done start to
  pub left : map (bit_from b from) (set_rows base word) ≡ done ++ map (bit_from b from) (set_rows base rest)

module _ {b : List ℕ} {from base word : ℕ} {start : Bitmap} where
  pub word_none : Worded b from base word start start word
  word_none = record { done = []; adds = adds_none; left = refl }

  module _ {to : Bitmap} {rest : ℕ} (h : Worded b from base word start to rest) where
    pub word-done : rest ≡ 0 → Adds (map (bit_from b from) (set_rows base word)) start to
    word-done z = rw (h.left, set-none base rest z, append-nil) h.adds

    -- its lowest run is added
    module _ {a e others : ℕ} (run : LowestRun base rest a e others) where
      run-off : map (bit_from b from) (set_rows base rest) ≡ map (bit_from b from) (count_up (e - a) a) ++ map (bit_from b from) (set_rows base others)
      run-off = rw run.rows (map-append (bit_from b from) (count_up (e - a) a) (set_rows base others))

      pub word_fits : Room start (length (set_rows base word)) → Room to (e - a)
      word_fits fit =
          let all = sym (length-map (set_rows base word) (bit_from b from)) ∙ ap length h.left ∙ length-append h.done _ in
          let parts = ap length run-off ∙ length-append (map (bit_from b from) (count_up (e - a) a)) _ in
          adds-room (length (set_rows base word)) (e - a) h.adds (omega (arith, all, parts, run-size b from (e - a) a)) fit

      pub word_more : {v : ℕ} {next : Bitmap} → v ≡ word_from (bit_in b) 64 (from + a) → Adds (low_bits (e - a) v) to next
          → Worded b from base word start next others
      word_more {v} ev p =
          let bits = run-bits b from a v (e - a) ev (omega (arith, run.low, run.high)) in
          record {
            done = h.done ++ map (bit_from b from) (count_up (e - a) a);
            adds = adds_then h.adds (rw bits at p);
            left = h.left ∙ rw run-off (sym (append_assoc h.done (map (bit_from b from) (count_up (e - a) a)) (map (bit_from b from) (set_rows base others))));
          }

-- the rows of the first k entries of a list, and one entry more
pub listed_more : (b : List ℕ) (from : ℕ) (rows : List ℕ) (k : ℕ) → k < length rows
    → map (bit_from b from) (take (k + 1) rows) ≡ map (bit_from b from) (take k rows) ++ map (bit_from b from) (count_up 1 (get_or rows k 0))
unfolding count_up
listed_more b from rows k h =
    let one : k + 1 ≡ suc k = omega arith in
    rw (one, take-suc rows k 0 h) (map-append (bit_from b from) (take k rows) (get_or rows k 0 ∷ []))

pub listed-size : (b : List ℕ) (from : ℕ) (rows : List ℕ) (k : ℕ) → k ≤ length rows → length (map (bit_from b from) (take k rows)) ≡ k
listed-size b from rows k h = rw (length-map, length-take) (omega arith)
