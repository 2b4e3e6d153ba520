-- What a search over a range of numbers answers: the first that passes, or the range's end. Assumes nothing.
use Prim.Native.Nat.{ℕ, zero, suc, ◌+◌, ◌-◌, ◌≤◌}
use mathlib.Core.Bool.{Bool, true, false}
use mathlib.Core.List.{◌∷◌}
use mathlib.Core.Path.{◌≡◌, refl}
use native.Mathlib.Omega.{arith}
use Rattle.std.specs.Prelude.{Option, Some, None}
use Rattle.std.specs.Option.{option_map, unwrap_or}
use Rattle.std.specs.List.{find, range_with_len}
use Rattle.format.specs.Slots.{Sought}
use Rattle.format.proofs.SlotLaws.{all_none, all_one, all_join}

module _ (test : ℕ → Bool) where
  first : (n a : ℕ) → Sought test a (a + n) true (unwrap_or (find test (range_with_len a n)) (a + n))
  first zero a = record { low = omega arith; high = omega arith; passed = all_none (omega arith); here = λ l. absurd (omega arith) }
  first (suc n) a = go (test a) refl (first n (a + 1))
    where
      go : (t : Bool) → test a ≡ t → Sought test (a + 1) (a + 1 + n) true (unwrap_or (find test (range_with_len (a + 1) n)) (a + 1 + n))
          → Sought test a (a + suc n) true (unwrap_or (find test (a ∷ range_with_len (a + 1) n)) (a + suc n))
      go true e _ = rw e (record { low = omega arith; high = omega arith; passed = all_none (omega arith); here = λ _. e })
      go false e rest =
          let z : a + 1 + n ≡ a + suc n = omega arith in
          let r = rw z at rest in
          rw e (record { low = omega (arith, r.low); high = r.high; passed = all_join (all_one e) r.passed; here = r.here })

  pub sought : (a b : ℕ) (r : Option ℕ) → a ≤ b → option_map (λ x. x) r ≡ find test (range_with_len a (b - a)) → Sought test a b true (unwrap_or r b)
  sought a b r l e =
      let z : a + (b - a) ≡ b = omega arith in
      rw (same r, e) (rw z at (first (b - a) a))
    where
      same : (r : Option ℕ) → r ≡ option_map (λ x. x) r
      same None = refl
      same (Some x) = refl
