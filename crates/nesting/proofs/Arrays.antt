-- Arrays filled node by node. Assumes nothing.
use Prim.Native.Nat.{ℕ, ◌≤◌}
use mathlib.Core.List.{List}
use native.Mathlib.Omega.{arith}
use Rattle.pack.specs.Tree.{Holds}

pub holds-less : {f : ℕ → ℕ} {n k : ℕ} {xs : List ℕ} → Holds f n xs → k ≤ n → Holds f k xs
holds-less s h = record { at = λ i l. s.at i (omega arith) }
