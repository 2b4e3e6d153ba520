-- A list without a bitmap: its kept rows hand on what lies between their offsets. Assumes nothing.
use Prim.Native.Nat.{ℕ, suc, ◌-◌, ◌*◌, ◌≤◌, ◌<◌}
use mathlib.Core.Bool.{Bool, true, false}
use mathlib.Core.List as std
use mathlib.Core.List.{[], ◌∷◌, map}
use mathlib.Core.Path.{◌≡◌, refl, sym, ap, ◌∙◌}
use mir.Val.{bool_byte}
use native.Mathlib.Omega.{arith}
use lib.ListN.{length, length-append}
use Rattle.format.specs.Bytes.{join}
use Rattle.format.specs.Node.{node_count, rows, valid, has_no_bitmap, first_number}
use Rattle.format.specs.Kept.{kept_rows, span_size, span, kept_spans}
use Rattle.format.proofs.SpanLaws.{length-span}
use Rattle.nesting.specs.declared.Counted.{Counted}
use Rattle.nesting.specs.declared.lists.List.{List}
use Rattle.nesting.specs.Rows.{AtList, picks_in}
use Rattle.nesting.proofs.ListAt.{list-spans, child-kept, child-in, child-few}
use Rattle.spans.specs.Spans.{spans, Rises}
use Rattle.stretches.specs.Stretches.{bytes_in}
use Rattle.stretches.proofs.Ranges.{kept-few}

module _ (counted : Counted) (list : List) (here : list.journal.now.bytes.now ≡ bytes_in counted) where
  list-at : AtList (bytes_in counted) list.width list.node
  list-at = rw here at list.at

  pub list-inside : list.node < node_count (bytes_in counted)
  list-inside = list-at.inside

  -- where the child rows of a row start
  abbrev pub starts : ℕ → ℕ
  starts = first_number list.width (bytes_in counted) list.node

  pub starts-rise : Rises starts (rows (bytes_in counted) list.node)
  starts-rise = record { next = λ r l. (list-spans list-at).rise r l }

  pub start-here : (r : ℕ) {x : ℕ} → x ≡ first_number list.width list.journal.now.bytes.now list.node r → x ≡ starts r
  start-here r e = rw here at e

  -- its kept rows' child rows
  module _ (bare : has_no_bitmap (bytes_in counted) list.node ≡ true) where
    long : (r : ℕ) → length (span list.width (bytes_in counted) list.node r) ≡ starts (suc r) - starts r
    unfolding span_size valid
    long r = length-span list.width (bytes_in counted) list.node r ∙ rw bare

    spans-joined : (rs : std.List ℕ) → spans starts rs ≡ length (join (map (span list.width (bytes_in counted) list.node) rs))
    unfolding spans join
    spans-joined [] = refl
    spans-joined (r ∷ rs) = rw (length-append (span list.width (bytes_in counted) list.node r), long r, spans-joined rs)

    pub listed : spans starts (kept_rows (bytes_in counted) (picks_in counted.source) list.node) ≡ length (kept_rows (bytes_in counted) (picks_in counted.source) (suc list.node))
    unfolding kept_spans
    listed = spans-joined (kept_rows (bytes_in counted) (picks_in counted.source) list.node) ∙ ap length (sym (child-kept list-at (picks_in counted.source)))

  pub listed-few : length (kept_rows (bytes_in counted) (picks_in counted.source) (suc list.node)) ≤ 1_048_576
  listed-few = omega (arith, kept-few counted (suc list.node) (child-in list-at), child-few list-at)

-- a list that keeps the root's rows hands on their child rows
pub listed-count : (root : std.List ℕ) {b : std.List ℕ} {w p n : ℕ} → AtList b w p → ((rs : std.List ℕ) → kept_rows b rs p ≡ rs) → n ≡ length (kept_spans w b p root) → n ≡ length (kept_rows b root (suc p))
listed-count root {b} {w} {p} a s e = e ∙ ap length (sym (child-kept a root ∙ ap (kept_spans w b p) (s root)))

-- a stretch has no more kept rows than rows
pub stretch-fits : (t : Bool) (d : ℕ) → d * bool_byte t ≤ d
stretch-fits true d = omega arith
stretch-fits false d = omega arith
