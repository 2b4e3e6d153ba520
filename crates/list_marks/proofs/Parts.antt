-- A part of a buffer, marked. Assumes nothing.
use Prim.Native.Nat.{ℕ, ◌+◌, ◌≤◌}
use mathlib.Core.Bool.{Bool}
use mathlib.Core.List.{List}
use mathlib.Core.Path.{◌≡◌, sym}
use native.Mathlib.Omega.{arith}
use borrow.Rule.Slice.PartMut.{put_same}
use lib.ListN.{length, take, drop, length-drop}
use lib.Seq.{length-take-le}
use Rattle.marks.specs.Marks.{Marked, MarkedPart}

pub part-long : (at size : ℕ) (s : List ℕ) → at + size ≤ length s → length (take size (drop at s)) ≡ size
part-long at size s fit = length-take-le size (drop at s) (omega (arith, length-drop at s))

-- nothing is marked yet
pub part-start : {t : ℕ → Bool} (at size : ℕ) (s : List ℕ) → at + size ≤ length s → Marked t (take size (drop at s)) (take size (drop at s)) → MarkedPart t at size s s
part-start at size s fit k = record { part = take size (drop at s); marked = k; whole = sym (put_same at size s) }

-- the same marks, told otherwise
pub part-as : {t u : ℕ → Bool} {at size : ℕ} {old new : List ℕ} (m : MarkedPart t at size old new)
    → (Marked t (take size (drop at old)) m.part → Marked u (take size (drop at old)) m.part) → MarkedPart u at size old new
part-as m f = record { part = m.part; marked = f m.marked; whole = m.whole }
