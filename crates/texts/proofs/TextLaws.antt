-- The laws of rows with own bytes: their sizes, their bytes and their rebuilt offsets row by row, and those of a run at once. Assumes nothing.
use Rattle.std.proofs.Common.{◌≡◌, ℕ, zero, suc, ◌+◌, ◌-◌, ◌*◌, ◌^◌, ◌<◌, ◌≤◌, List, [], ◌∷◌, ◌++◌, length, get_or, sym, refl, ap, ◌∙◌, ap₂, ⊎_elim, le_trans, le_refl, add-zero, add_assoc, mul-le-mul_left, mul-le-mul_right, zero-add, mul-suc, add-one, arith}
use Rattle.format.specs.Bytes.{table, sum_below, le, to_le, bytes_at}
use Rattle.format.specs.Write.{total, numbers, offsets, ends}
use Rattle.format.specs.Put.{Wrote}
use Rattle.format.specs.Rows.{set_rows, Below}
use Rattle.format.specs.Slots.{count_up}
use Rattle.words.specs.Run.{LowestRun}
use Rattle.words.proofs.Carry.{run-below}
use Rattle.format.proofs.Measure.{length-to_le}
use Rattle.format.proofs.Numbers.{table-front, table-ext, sum-front, numbers-none, numbers-cons, bytes-none, bytes_same, bytes-join, length-bytes}
use Rattle.format.proofs.Put.{Left, whole, less, room, done, kept}
use Rattle.format.proofs.RowLaws.{below_wider}
use Rattle.append.specs.Cells.{Among}
use Rattle.texts.specs.Texts.{offset, start_in, size, sizes_of, text, texts_of, ends_from, total_of, Offsets, Texts}
use Rattle.append.proofs.CellLaws.{among_first, each_none, each_more, each_append}

-- ---- the sum of sizes, and where each row ends

pub total-none : total_of [] ≡ 0
unfolding total_of total sum_below
total-none = refl

pub total-cons : (n : ℕ) (ns : List ℕ) → total_of (n ∷ ns) ≡ n + total_of ns
unfolding total_of total
total-cons n ns = sum-front (λ j. get_or (n ∷ ns) j 0) (length ns)

pub total-append : (xs ys : List ℕ) → total_of (xs ++ ys) ≡ total_of xs + total_of ys
total-append [] ys = rw (total-none, zero-add)
total-append (n ∷ xs) ys = rw (total-cons n (xs ++ ys), total-cons n xs, total-append xs ys) (sym (add_assoc n (total_of xs) (total_of ys)))

pub ends-append : (s : ℕ) (xs ys : List ℕ) → ends_from s (xs ++ ys) ≡ ends_from s xs ++ ends_from (s + total_of xs) ys
unfolding ends_from
ends-append s [] ys = rw (total-none, add-zero)
ends-append s (n ∷ xs) ys = rw (total-cons, ends-append (s + n) xs ys, add_assoc)

-- a sum of the first sizes, the first one off
total-step : (n : ℕ) (ns : List ℕ) (k : ℕ) → total (n ∷ ns) (suc k) ≡ n + total ns k
unfolding total
total-step n ns k = sum-front (λ j. get_or (n ∷ ns) j 0) k

total-zero : (ns : List ℕ) → total ns 0 ≡ 0
unfolding total sum_below
total-zero ns = refl

ends-table : (s : ℕ) (sizes : List ℕ) → table (λ k. s + total sizes (suc k)) (length sizes) ≡ ends_from s sizes
unfolding ends_from table
ends-table s [] = refl
ends-table s (n ∷ ns) =
    table-front (λ k. s + total (n ∷ ns) (suc k)) (length ns)
    ∙ ap₂ ◌∷◌ (ap (s +◌) (total-step n ns 0 ∙ ap (n +◌) (total-zero ns) ∙ add-zero n))
    (table-ext _ _ (length ns) (λ k l. ap (s +◌) (total-step n ns (suc k)) ∙ sym (add_assoc s n (total ns (suc k)))) ∙ ends-table (s + n) ns)

-- the ends of kept runs, and offsets rebuilt from 0, by the same steps
pub ends-from : (sizes : List ℕ) → ends sizes ≡ ends_from 0 sizes
unfolding ends
ends-from sizes = table-ext _ _ (length sizes) (λ k l. sym (zero-add (total sizes (suc k)))) ∙ ends-table 0 sizes

pub offsets-from : (sizes : List ℕ) → offsets sizes ≡ 0 ∷ ends_from 0 sizes
unfolding offsets ends
offsets-from sizes = table-front (total sizes) (length sizes) ∙ ap₂ ◌∷◌ (total-zero sizes) (ends-from sizes)

pub numbers-offsets : (w : ℕ) (sizes : List ℕ) → numbers w (offsets sizes) ≡ to_le w 0 ++ numbers w (ends_from 0 sizes)
numbers-offsets w sizes = ap (numbers w) (offsets-from sizes) ∙ numbers-cons w 0 (ends_from 0 sizes)

-- ---- sizes and bytes row by row

pub sizes-append : (o : ℕ → ℕ) (xs ys : List ℕ) → sizes_of o (xs ++ ys) ≡ sizes_of o xs ++ sizes_of o ys
unfolding sizes_of
sizes-append o [] ys = refl
sizes-append o (x ∷ xs) ys = ap (λ (l : List ℕ). size o x ∷ l) (sizes-append o xs ys)

sizes-none : (o : ℕ → ℕ) (rs : List ℕ) → rs ≡ [] → sizes_of o rs ≡ []
unfolding sizes_of
sizes-none o rs e = ap (sizes_of o) e

sizes-more : (o : ℕ → ℕ) (rs ts : List ℕ) (r : ℕ) → rs ≡ r ∷ ts → sizes_of o rs ≡ size o r ∷ sizes_of o ts
unfolding sizes_of
sizes-more o rs ts r e = ap (sizes_of o) e

pub texts-none : (o : ℕ → ℕ) (b : List ℕ) (start : ℕ) (rs : List ℕ) → rs ≡ [] → texts_of o b start rs ≡ []
unfolding texts_of
texts-none o b start rs e = each_none (text o b start) rs e

pub texts-more : (o : ℕ → ℕ) (b : List ℕ) (start : ℕ) {rs ts : List ℕ} {r : ℕ} → rs ≡ r ∷ ts → texts_of o b start rs ≡ bytes_at b (start + o r) (size o r) ++ texts_of o b start ts
unfolding texts_of text
texts-more o b start {rs} {ts} {r} e = each_more (text o b start) rs ts r e

pub texts-append : (o : ℕ → ℕ) (b : List ℕ) (start : ℕ) (xs ys : List ℕ) → texts_of o b start (xs ++ ys) ≡ texts_of o b start xs ++ texts_of o b start ys
unfolding texts_of
texts-append o b start xs ys = each_append (text o b start) xs ys

-- ---- offsets that do not fall

-- offsets that do not fall before n
pub record Rises (o : ℕ → ℕ) (n : ℕ) : Type 0 where
  pub next : (r : ℕ) → r < n → o r ≤ o (suc r)

pub rises : {w : ℕ} {b : List ℕ} {first n : ℕ} → Offsets w b first n → Rises (offset w b first) n
rises h = record { next = h.rising }

-- nor do they in data of entries of u bytes
pub starts-rise : (u : ℕ) {w : ℕ} {b : List ℕ} {first n : ℕ} → Offsets w b first n → Rises (start_in u w b first) n
unfolding start_in
starts-rise u h = record { next = λ r l. mul-le-mul_left u (h.rising r l) }

module _ (o : ℕ → ℕ) (n : ℕ) (up : Rises o n) where
  risen-by : (a k : ℕ) → a + k ≤ n → o a ≤ o (a + k)
  risen-by a zero h = rw add-zero (le_refl _)
  risen-by a (suc k) h =
      let last : a + suc k ≡ suc (a + k) = omega arith in
      rw last (le_trans (risen-by a k (omega arith)) (up.next (a + k) (omega arith)))

  pub risen : (a e : ℕ) → a ≤ e → e ≤ n → o a ≤ o e
  risen a e h l =
      let end : a + (e - a) ≡ e = omega arith in
      rw end at (risen-by a (e - a) (omega arith))

  -- a row's own bytes end before the last offset
  pub size-ends : (r : ℕ) → r < n → o r + size o r ≤ o n
  unfolding size
  size-ends r h = omega (arith, up.next r h, risen (suc r) n h (le_refl n))

  -- the own bytes of consecutive rows are one part of the data
  pub texts-run : (b : List ℕ) (start k a : ℕ) → a + k ≤ n → texts_of o b start (count_up k a) ≡ bytes_at b (start + o a) (o (a + k) - o a)
  unfolding count_up size
  texts-run b start zero a h = texts-none o b start [] refl ∙ sym (bytes-none _ _ _ (rw add-zero (omega arith)))
  texts-run b start (suc k) a h =
      let one = up.next a (omega arith) in
      let more = risen-by (suc a) k (omega arith) in
      let e : suc a + k ≡ a + suc k = omega arith in
      let last : o (suc a + k) ≡ o (a + suc k) = ap o e in
      texts-more o b start refl
      ∙ ap (bytes_at b (start + o a) (o (suc a) - o a) ++◌)
      (texts-run b start k (suc a) (omega arith) ∙ bytes_same b _ (start + o a + (o (suc a) - o a)) _ _ (omega arith) refl)
      ∙ sym (bytes-join b (start + o a) (o (suc a) - o a) (o (suc a + k) - o (suc a)))
      ∙ bytes_same _ _ _ _ _ refl (omega arith)

  -- and their sizes add up to what lies between the first offset and the last
  pub total-run : (k a : ℕ) → a + k ≤ n → o a + total_of (sizes_of o (count_up k a)) ≡ o (a + k)
  unfolding count_up size
  total-run zero a h = omega (arith, ap total_of (sizes-none o [] refl) ∙ total-none, ap o (add-zero a))
  total-run (suc k) a h =
      let one = up.next a (omega arith) in
      let e : suc a + k ≡ a + suc k = omega arith in
      let last : o (suc a + k) ≡ o (a + suc k) = ap o e in
      omega (arith, ap total_of (sizes-more o (a ∷ count_up k (suc a)) (count_up k (suc a)) a refl) ∙ total-cons (o (suc a) - o a) _, total-run k (suc a) (omega arith))

-- ---- what a loop over rows asks at its first row r

module _ {w : ℕ} {b : List ℕ} {first : ℕ} {rs ts : List ℕ} {r : ℕ} (h : Among (Offsets w b first) rs) (e : rs ≡ r ∷ ts) where
  pub offset-fits : first + w * r + w + w ≤ length b
  offset-fits = omega (arith, mul-suc w r, mul-suc w h.len, mul-le-mul_left w (among_first h e), h.holds.inside)

  pub offset-rises : offset w b first r ≤ offset w b first (suc r)
  offset-rises = h.holds.rising r (among_first h e)

-- ---- a run of rows, whose first offset is p and whose last is q

-- a usize numbers the rows, and their offsets lie in b
pub rows_few : {u w : ℕ} {b : List ℕ} {first start n : ℕ} → Texts u w b first start n → n ≤ length b
rows_few {n = n} h = ⊎_elim
    (λ e. omega (arith, rw e at h.offsets.inside))
    (λ e. omega (arith, rw e at h.offsets.inside))
    h.width

pub offset-in : {u w : ℕ} {b : List ℕ} {first start n : ℕ} (r : ℕ) → r ≤ n → Texts u w b first start n → first + w * r + w ≤ length b
offset-in {u} {w} {n = n} r l h = omega (arith, h.offsets.inside, mul-suc w n, mul-le-mul_left w l)

pub start-in : {u w : ℕ} {b : List ℕ} {first start n : ℕ} (r : ℕ) → r ≤ n → Texts u w b first start n → start_in u w b first r ≤ length b
start-in {u} {w} {b} {first} {start} {n} r l h = omega (arith, risen (start_in u w b first) n (starts-rise u h.offsets) r n l (le_refl n), h.within)

pub offsets-number : {w : ℕ} {b : List ℕ} {first : ℕ} {rs : List ℕ} → 1 ≤ w → length b < 2 ^ 64 → Among (Offsets w b first) rs → Below (2 ^ 64 - 1) rs
offsets-number {w} {b} {first} some l a =
    let few : a.len < length b = omega (arith, a.holds.inside, mul-le-mul_right (suc a.len) some) in
    below_wider (omega arith) a.below

-- where the code finds row r's own bytes
pub start_is : (u w : ℕ) (b : List ℕ) (first r : ℕ) {x : ℕ} → x ≡ offset w b first r → u * x ≡ start_in u w b first r
unfolding start_in
start_is u w b first r e = ap (u *◌) e

-- fewer rows
pub offsets-fewer : {w : ℕ} {b : List ℕ} {first n : ℕ} (m : ℕ) → m ≤ n → Offsets w b first n → Offsets w b first m
offsets-fewer {w} {b} {first} {n} m l h = record {
  inside = omega (arith, h.inside, mul-suc w m, mul-suc w n, mul-le-mul_left w l);
  rising = λ r k. h.rising r (omega arith);
}

pub texts-fewer : {u w : ℕ} {b : List ℕ} {first start n : ℕ} (m : ℕ) → m ≤ n → Texts u w b first start n → Texts u w b first start m
texts-fewer {u} {w} {b} {first} {start} {n} m l h = record {
  width = h.width;
  offsets = offsets-fewer m l h.offsets;
  within = omega (arith, h.within, risen (start_in u w b first) n (starts-rise u h.offsets) m n l (le_refl n));
}

module _ {u w : ℕ} {b : List ℕ} {first start : ℕ} {rs ts : List ℕ} {r : ℕ} (h : Among (Texts u w b first start) rs) (e : rs ≡ r ∷ ts) where
  pub text-fits : start + start_in u w b first r + size (start_in u w b first) r ≤ length b
  text-fits = omega (arith, size-ends (start_in u w b first) h.len (starts-rise u h.holds.offsets) r (among_first h e), h.holds.within)

  -- the row is a run of its own, the first of what is left to write
  pub row-texts : (r ≤ r + 1) × Texts u w b first start (r + 1)
  row-texts = (omega arith, texts-fewer (r + 1) (omega (arith, among_first h e)) h.holds)

-- a row by itself is a run
pub run-one : (r : ℕ) (ts : List ℕ) → count_up (r + 1 - r) r ++ ts ≡ r ∷ ts
unfolding count_up
run-one r ts =
    let one : r + 1 - r ≡ 1 = omega arith in
    rw one

-- each row, and the one behind it, is a number
pub texts-number : {u w : ℕ} {b : List ℕ} {first start : ℕ} {rs : List ℕ} → length b < 2 ^ 64 → Among (Texts u w b first start) rs → Below (2 ^ 64 - 1) rs
texts-number l a = below_wider (omega (arith, rows_few a.holds)) a.below

-- a word's lowest run
pub run-texts-fit : {u w : ℕ} {b : List ℕ} {first start base word from to rest : ℕ} → LowestRun base word from to rest → Among (Texts u w b first start) (set_rows base word)
    → (from ≤ to) × Texts u w b first start to
run-texts-fit {to = to} h a = (omega (arith, h.filled), texts-fewer to (run-below h a.below) a.holds)

module _ {u w : ℕ} {b : List ℕ} {first start a e p q : ℕ} (h : Texts u w b first start e) (up : a ≤ e) (low : p ≡ start_in u w b first a) (high : q ≡ start_in u w b first e) where
  pub run-order : p ≤ q
  run-order = omega (arith, risen (start_in u w b first) e (starts-rise u h.offsets) a e up (le_refl e))

  pub run_inside : start + p + (q - p) ≤ length b
  run_inside = omega (arith, run-order, h.within)

  pub run-texts : bytes_at b (start + p) (q - p) ≡ texts_of (start_in u w b first) b start (count_up (e - a) a)
  run-texts =
      let end : a + (e - a) ≡ e = omega arith in
      let whole : texts_of (start_in u w b first) b start (count_up (e - a) a) ≡ bytes_at b (start + start_in u w b first a) (start_in u w b first e - start_in u w b first a) =
      rw end at (texts-run (start_in u w b first) e (starts-rise u h.offsets) b start (e - a) a (omega arith)) in
      rw (low, high) (sym whole)

  pub run_length : length (texts_of (start_in u w b first) b start (count_up (e - a) a)) ≡ q - p
  run_length = ap length (sym run-texts) ∙ length-bytes b (start + p) (q - p) run_inside

-- the ends of a run's rows are its offsets, all moved by the same distance
module _ {w : ℕ} {b : List ℕ} {first a e row : ℕ} (h : Offsets w b first e) (after : a ≤ row) (before : row < e) where
  up : (offset w b first a ≤ offset w b first row) × (offset w b first row ≤ offset w b first (row + 1))
  up = (risen (offset w b first) e (rises h) a row after (omega arith), rw add-one (h.rising row before))

  pub run-rises : offset w b first a ≤ offset w b first (row + 1)
  run-rises = omega (arith, up.0, up.1)

  pub run_more : (start : ℕ) → offset w b first (row + 1) - offset w b first a + start ≡ offset w b first row - offset w b first a + start + size (offset w b first) row
  unfolding size
  run_more start = omega (arith, up.0, up.1, ap (offset w b first) (add-one row))

-- the offset behind row r's
pub offset-next : (w : ℕ) (b : List ℕ) (first r : ℕ) → le w b (first + w * r + w) ≡ offset w b first (suc r)
unfolding offset
offset-next w b first r = ap (le w b) (omega (arith, mul-suc w r))

-- ---- a loop that writes where rows end: `sum` is where the row before ends, `rs` are the rows left, `all` all of them

pub record Ending (w : ℕ) (o : ℕ → ℕ) (start : ℕ) (all old : List ℕ) (at : ℕ) (new : List ℕ) (here sum : ℕ) (rs : List ℕ) : Type 0 where
  pub sums : sum + total_of (sizes_of o rs) ≡ start + total_of (sizes_of o all)
  pub left : Left old at (numbers w (ends_from start (sizes_of o all))) new here (numbers w (ends_from sum (sizes_of o rs)))

pub begins : {w : ℕ} {o : ℕ → ℕ} {start : ℕ} {all old : List ℕ} {at : ℕ} → Ending w o start all old at old at start all
begins = record { sums = refl; left = whole refl refl }

pub begins-at : {w : ℕ} {o : ℕ → ℕ} {start sum : ℕ} {all old : List ℕ} {at : ℕ} → sum ≡ start → Ending w o start all old at old at sum all
begins-at e = rw e begins

module _ {w : ℕ} {o : ℕ → ℕ} {start : ℕ} {all old : List ℕ} {at : ℕ} {new : List ℕ} {here sum : ℕ} {rs : List ℕ} (h : Ending w o start all old at new here sum rs) where
  module _ {ts : List ℕ} {r : ℕ} (e : rs ≡ r ∷ ts) where
    total-off : total_of (sizes_of o rs) ≡ size o r + total_of (sizes_of o ts)
    total-off = ap total_of (sizes-more o rs ts r e) ∙ total-cons (size o r) (sizes_of o ts)

    numbers-off : numbers w (ends_from sum (sizes_of o rs)) ≡ to_le w (sum + size o r) ++ numbers w (ends_from (sum + size o r) (sizes_of o ts))
    unfolding ends_from
    numbers-off = ap (λ (l : List ℕ). numbers w (ends_from sum l)) (sizes-more o rs ts r e) ∙ numbers-cons w (sum + size o r) (ends_from (sum + size o r) (sizes_of o ts))

    pub end_fits : sum + size o r ≤ start + total_of (sizes_of o all)
    end_fits = omega (arith, h.sums, total-off)

    pub end-room : at + length (numbers w (ends_from start (sizes_of o all))) ≤ length old → here + w ≤ length new
    end-room fit = rw (length-to_le w (sum + size o r)) at (room (to_le w (sum + size o r)) _ h.left numbers-off fit)

    pub turns : {last : List ℕ} {next more : ℕ} → more ≡ sum + size o r → Wrote new here (to_le w more) last next → Ending w o start all old at last next more ts
    turns {last} {next} {more} q wrote = record {
      sums = omega (arith, h.sums, total-off);
      left = rw q (less h.left numbers-off (rw q at wrote));
    }

  pub ended : {next : ℕ} → rs ≡ [] → next ≡ here → Wrote old at (numbers w (ends_from start (sizes_of o all))) new next × (sum ≡ start + total_of (sizes_of o all))
  unfolding ends_from
  ended e n = (
    done h.left (ap (λ (l : List ℕ). numbers w (ends_from sum l)) (sizes-none o rs e) ∙ numbers-none w) n,
    omega (arith, h.sums, ap total_of (sizes-none o rs e) ∙ total-none),
  )

  pub same : length new ≡ length old
  same = kept h.left
