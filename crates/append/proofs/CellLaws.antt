-- The laws of `specs/Cells`: zeros, and the bytes of rows with the first row off, joined, or all of a run at once. Assumes nothing.
use Prim.Native.Nat.{ℕ, zero, suc, ◌+◌, ◌-◌, ◌*◌, ◌^◌, ◌%◌, ◌≤◌, ◌<◌}
use mathlib.Core.Path.{◌≡◌, refl, sym, ap, ◌∙◌}
use mathlib.Core.List.{List, [], ◌∷◌, ◌++◌, map, append-nil, append_assoc}
use native.Mathlib.Nat.{mul-add, add-sub_of_le, mul-le-mul_left, mul-zero, mul-suc}
use native.Mathlib.Omega.{arith}
use native.Mathlib.Numerals.{add-one}
use lib.ListN.{length, drop, get_or, length-replicate}
use lib.Seq.{drop-cons}
use Rattle.format.specs.Bytes.{join, to_le, bytes_at, raised, padded}
use Rattle.format.specs.Write.{numbers}
use Rattle.format.specs.Rows.{set_rows, Below}
use Rattle.format.specs.Slots.{count_up}
use Rattle.format.proofs.Numbers.{numbers-cons, bytes-none, bytes_same, bytes-join, length-bytes}
use Rattle.format.proofs.RowLaws.{below-first, below-others, below_wider, below_left, below_right}
use Rattle.format.specs.Put.{Wrote}
use Rattle.format.proofs.Put.{Left, whole, less, done, room}
use Rattle.append.specs.Cells.{zeros, padding, entry, entries_of, word_rows, Among, Entries}

-- ---- numbers

pub to_le-same : (w v n : ℕ) → w ≡ v → to_le w n ≡ to_le v n
to_le-same w v n e = ap (λ (k : ℕ). to_le k n) e

-- the numbers of a list from index i on
pub numbers_more : (w : ℕ) (ns : List ℕ) (i : ℕ) → i < length ns → numbers w (drop i ns) ≡ to_le w (get_or ns i 0) ++ numbers w (drop (i + 1) ns)
numbers_more w ns i h = rw (add-one, drop-cons ns i 0 h) (numbers-cons w _ _)

-- ---- zeros

pub zeros-same : (n m : ℕ) → n ≡ m → zeros n ≡ zeros m
zeros-same n m e = ap zeros e

pub zeros-none : (n : ℕ) → n ≡ 0 → zeros n ≡ []
unfolding zeros
zeros-none n e = ap zeros e

pub zeros-more : (n m : ℕ) → n ≡ m + 1 → zeros n ≡ 0 ∷ zeros m
unfolding zeros
zeros-more n m e =
    let e' : n ≡ suc m = omega arith in
    ap zeros e'

pub length-zeros : (n : ℕ) → length (zeros n) ≡ n
unfolding zeros
length-zeros n = length-replicate n 0

pub gap : (at : ℕ) → raised at - at ≡ (8 - at % 8) % 8
unfolding raised
gap at = omega arith

pub padding-zeros : (at : ℕ) → zeros ((8 - at % 8) % 8) ≡ padding at
unfolding padding
padding-zeros at = ap zeros (sym (gap at))

pub length-padding : (at : ℕ) → length (padding at) ≡ raised at - at
unfolding padding
length-padding at = length-zeros _

pub padded-is : (xs : List ℕ) → padded xs ≡ xs ++ padding (length xs)
unfolding padded padding zeros
padded-is xs = refl

-- ---- rows one by one

module _ {P : ℕ → Type 0} {rs : List ℕ} where
  pub among_first : {ts : List ℕ} {r : ℕ} (h : Among P rs) → rs ≡ r ∷ ts → r < h.len
  among_first h e = below-first (rw e at h.below)

  pub among-others : {ts : List ℕ} {r : ℕ} → Among P rs → rs ≡ r ∷ ts → Among P ts
  among-others h e = record { len = h.len; below = below-others (rw e at h.below); holds = h.holds }

  pub among-left : (xs ys : List ℕ) → Among P rs → rs ≡ xs ++ ys → Among P xs
  among-left xs ys h e = record { len = h.len; below = below_left xs ys (rw e at h.below); holds = h.holds }

  pub among-right : (xs ys : List ℕ) → Among P rs → rs ≡ xs ++ ys → Among P ys
  among-right xs ys h e = record { len = h.len; below = below_right xs ys (rw e at h.below); holds = h.holds }

-- ---- rows word by word

pub words-none : (base : ℕ) (xs : List ℕ) → xs ≡ [] → word_rows base xs ≡ []
unfolding word_rows
words-none base xs e = ap (word_rows base) e

pub words-one : (base x : ℕ) → word_rows base (x ∷ []) ≡ set_rows base x
unfolding word_rows
words-one base x = append-nil (set_rows base x)

-- word k, and those behind it
pub words_more : (base : ℕ) (xs : List ℕ) (k j : ℕ) → k < length xs → j ≡ k + 1
    → word_rows (base + 64 * k) (drop k xs) ≡ set_rows (base + 64 * k) (get_or xs k 0) ++ word_rows (base + 64 * j) (drop j xs)
unfolding word_rows
words_more base xs k j h e =
    let next : j ≡ suc k = omega arith in
    let row : base + 64 * k + 64 ≡ base + 64 * suc k = omega arith in
    rw (next, drop-cons xs k 0 h) (ap (λ (i : ℕ). set_rows (base + 64 * k) (get_or xs k 0) ++ word_rows i (drop (suc k) xs)) row)

-- a word at the end
pub words_last : (base : ℕ) (xs : List ℕ) (x : ℕ) → word_rows base (xs ++ (x ∷ [])) ≡ word_rows base xs ++ set_rows (base + 64 * length xs) x
unfolding word_rows
words_last base [] x = append-nil (set_rows base x) ∙ ap (λ (i : ℕ). set_rows i x) (omega arith)
words_last base (y ∷ xs) x =
    let row : base + 64 + 64 * length xs ≡ base + 64 * suc (length xs) = omega arith in
    rw (words_last (base + 64) xs x, row) (sym (append_assoc (set_rows base y) (word_rows (base + 64) xs) _))

pub each_none : (f : ℕ → List ℕ) (rs : List ℕ) → rs ≡ [] → join (map f rs) ≡ []
unfolding join
each_none f rs e = ap (λ (l : List ℕ). join (map f l)) e

pub each_more : (f : ℕ → List ℕ) (rs ts : List ℕ) (r : ℕ) → rs ≡ r ∷ ts → join (map f rs) ≡ f r ++ join (map f ts)
unfolding join
each_more f rs ts r e = ap (λ (l : List ℕ). join (map f l)) e

pub each_append : (f : ℕ → List ℕ) (xs ys : List ℕ) → join (map f (xs ++ ys)) ≡ join (map f xs) ++ join (map f ys)
unfolding join
each_append f [] ys = refl
each_append f (x ∷ xs) ys = rw (each_append f xs ys) (sym (append_assoc (f x) (join (map f xs)) (join (map f ys))))

-- ---- entries

pub entries_none : (w : ℕ) (b : List ℕ) (first : ℕ) (rs : List ℕ) → rs ≡ [] → entries_of w b first rs ≡ []
unfolding entries_of
entries_none w b first rs e = each_none (entry w b first) rs e

pub entries-more : (w : ℕ) (b : List ℕ) (first : ℕ) {rs ts : List ℕ} {r : ℕ} → rs ≡ r ∷ ts → entries_of w b first rs ≡ bytes_at b (first + w * r) w ++ entries_of w b first ts
unfolding entries_of entry
entries-more w b first {rs} {ts} {r} e = each_more (entry w b first) rs ts r e

pub entries-append : (w : ℕ) (b : List ℕ) (first : ℕ) (xs ys : List ℕ) → entries_of w b first (xs ++ ys) ≡ entries_of w b first xs ++ entries_of w b first ys
unfolding entries_of
entries-append w b first xs ys = each_append (entry w b first) xs ys

-- the bytes before a row and those of the rows from it on
pub run-bytes : (w a e : ℕ) → a ≤ e → w * a + w * (e - a) ≡ w * e
run-bytes w a e h = sym (mul-add w a (e - a)) ∙ ap (w *◌) (add-sub_of_le h)

-- the entries of consecutive rows are one part of the buffer
pub entries-run : (w : ℕ) (b : List ℕ) (first n a : ℕ) → entries_of w b first (count_up n a) ≡ bytes_at b (first + w * a) (w * n)
unfolding count_up
entries-run w b first zero a = entries_none w b first [] refl ∙ sym (bytes-none _ _ _ (mul-zero w))
entries-run w b first (suc n) a =
    entries-more w b first refl
    ∙ ap (λ (l : List ℕ). bytes_at b (first + w * a) w ++ l) (entries-run w b first n (suc a) ∙ bytes_same _ _ _ _ _ (omega (arith, mul-suc w a)) refl)
    ∙ sym (bytes-join b (first + w * a) w (w * n))
    ∙ bytes_same _ _ _ _ _ refl (omega (arith, mul-suc w n))

-- a run among the first n rows lies in the buffer
pub run_fits : {w : ℕ} {b : List ℕ} {first n : ℕ} (e : ℕ) → e ≤ n → Entries w b first n → first + w * e ≤ length b
run_fits {w} e l h = omega (arith, h.inside, mul-le-mul_left w l)

-- ---- loops over rows: f are the bytes that rows give

-- of the bytes of rows rs, those of rows ts are left to write
pub record RowsLeft (P : ℕ → Type 0) (f : List ℕ → List ℕ) (rs old : List ℕ) (at : ℕ) (new : List ℕ) (here : ℕ) (ts : List ℕ) : Type 0 where
  pub among : Among P ts
  pub left : Left old at (f rs) new here (f ts)

-- none are written yet
pub rows-all : {P : ℕ → Type 0} {f : List ℕ → List ℕ} {rs ts old : List ℕ} {at : ℕ} → Among P rs → ts ≡ rs → RowsLeft P f rs old at old at ts
rows-all {f = f} a e = record { among = rw e a; left = whole refl (ap f e) }

module _ {P : ℕ → Type 0} {f : List ℕ → List ℕ} {rs old : List ℕ} {at : ℕ} {new : List ℕ} {here : ℕ} {ts : List ℕ} (g : RowsLeft P f rs old at new here ts) where
  -- there is room for the first part of them
  module _ (xs ys : List ℕ) (e : ts ≡ xs ++ ys) (joins : f (xs ++ ys) ≡ f xs ++ f ys) where
    pub part-needs : at + length (f rs) ≤ length old → Among P xs × (here + length (f xs) ≤ length new)
    part-needs fit = (among-left xs ys g.among e, room (f xs) (f ys) g.left (ap f e ∙ joins) fit)

    -- which was written
    pub part-more : {last : List ℕ} {to : ℕ} → Wrote new here (f xs) last to → RowsLeft P f rs old at last to ys
    part-more q = record { among = among-right xs ys g.among e; left = less g.left (ap f e ∙ joins) q }

  pub rows-done : f ts ≡ [] → Wrote old at (f rs) new here
  rows-done e = done g.left e refl

-- entries of w bytes
abbrev pub Entering : ℕ → List ℕ → ℕ → List ℕ → List ℕ → ℕ → List ℕ → ℕ → List ℕ → Type 0
Entering w b first = RowsLeft (Entries w b first) (entries_of w b first)

-- each row, and the one behind it, is a number
pub entries-number : {w : ℕ} {b : List ℕ} {first : ℕ} {rs : List ℕ} → Among (Entries w b first) rs → Below (2 ^ 64 - 1) rs
entries-number a = below_wider (omega (arith, a.holds.small)) a.below

module _ {w : ℕ} {b : List ℕ} {first : ℕ} {rs old : List ℕ} {at : ℕ} {new : List ℕ} {here : ℕ} {ts us : List ℕ} {r : ℕ} (g : Entering w b first rs old at new here ts) (e : ts ≡ r ∷ us) where
  -- the first of them lies in the buffer and fits
  pub entry-fits : first + w * r + w ≤ length b
  entry-fits = omega (arith, mul-suc w r, mul-le-mul_left w (among_first g.among e), g.among.holds.inside)

  pub entry-needs : at + length (entries_of w b first rs) ≤ length old → (here + w ≤ length new) × (first + w * r + w ≤ length b)
  entry-needs fit =
      let all = room (bytes_at b (first + w * r) w) (entries_of w b first us) g.left (entries-more w b first e) fit in
      (rw (length-bytes b (first + w * r) w entry-fits) at all, entry-fits)

  -- and was written
  pub entry_more : {last : List ℕ} {to : ℕ} → Wrote new here (bytes_at b (first + w * r) w) last to → Entering w b first rs old at last to us
  entry_more q = record { among = among-others g.among e; left = less g.left (entries-more w b first e) q }
