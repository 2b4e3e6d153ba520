-- Sizes that fit: what refusal 6 tells by not coming, of a node that was read. Assumes nothing.
use Prim.Native.Nat.{ℕ, ◌+◌, ◌*◌, ◌^◌, ◌≤◌, ◌<◌}
use mathlib.Core.Bool.{false}
use mathlib.Core.List.{List}
use mathlib.Core.Path.{◌≡◌}
use native.Mathlib.Nat.{mul-le-mul}
use native.Mathlib.Omega.{arith}
use Rattle.format.specs.Node.{node_count, places}
use Rattle.format.specs.Verdict.{wrong_rows}
use Rattle.pack.specs.declared.Node.{Node}
use Rattle.pack.specs.Read.{node_of}
use Rattle.format.proofs.Accepted.{places-few}

-- a product of two 32-bit numbers leaves room for a third
pub product-fits : (p n : ℕ) → p < 2 ^ 32 → n < 2 ^ 32 → p * n + 2 ^ 32 ≤ 2 ^ 64
product-fits p n hp hn =
    let a : p ≤ 4294967295 = omega arith in
    let b : n ≤ 4294967295 = omega arith in
    let h : p * n ≤ 4294967295 * 4294967295 = mul-le-mul a b in
    omega arith

-- the rows of a node that was read are few
pub few-rows : (b : List ℕ) (i : ℕ) → i < node_count b → (n : Node) → n ≡ node_of b i → wrong_rows b ≡ false → n.skip + n.rows ≤ 1_048_576
unfolding places
few-rows b i below n read e = rw read (places-few b i below e)
