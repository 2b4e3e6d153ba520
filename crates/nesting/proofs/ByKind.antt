-- What a node's kind by number says of what it hands on; its rows are few. Assumes nothing.
use Prim.Native.Nat.{ℕ, ◌<◌, ◌≤◌}
use mathlib.Core.List.{List}
use mathlib.Core.Path.{◌≡◌, refl, ap}
use native.Mathlib.Omega.{arith}
use Rattle.format.specs.declared.Kind.{Kind}
use Rattle.format.specs.declared.Kind.TheVariants.{Bits, Native, Fixed, Bytes32, Bytes64, Views, Lists32, Lists64, Runs, Struct, Union, Dictionary, Nested32, Nested64, Unknown}
use Rattle.format.specs.Node.{node_count, kind_number, kind_of, kind, rows, skip, places}
use Rattle.format.specs.Accepted.{Sound, Shares, Carries, Nests, Inner}
use Rattle.format.specs.Accepted as is
use Rattle.format.proofs.Accepted.{number_of, number-kind, kind-number}

module _ (b : List ℕ) (i : ℕ) where
  pub of-runs : kind_number b i ≡ 9 → kind b i ≡ Runs
  unfolding kind_of
  of-runs e = kind-number b i 9 e

  -- a node that hands on its own rows is known by its number
  pub not-shared : (kind_number b i ≡ 10 → ⊥) → (kind_number b i ≡ 11 → ⊥) → Shares (kind b i) → ⊥
  not-shared g h s = go (kind b i) refl s
    where
      go : (k : Kind) → kind b i ≡ k → Shares k → ⊥
      go Struct e is.Shares.struct = g (number-kind b i Struct e (λ q. let z : ◌≡◌ {A = ℕ} 10 0 = ap number_of q in omega arith))
      go Union e is.Shares.union = h (number-kind b i Union e (λ q. let z : ◌≡◌ {A = ℕ} 11 0 = ap number_of q in omega arith))
      go Bits e s = elim s [ ]
      go Native e s = elim s [ ]
      go Fixed e s = elim s [ ]
      go Bytes32 e s = elim s [ ]
      go Bytes64 e s = elim s [ ]
      go Views e s = elim s [ ]
      go Lists32 e s = elim s [ ]
      go Lists64 e s = elim s [ ]
      go Runs e s = elim s [ ]
      go Dictionary e s = elim s [ ]
      go Nested32 e s = elim s [ ]
      go Nested64 e s = elim s [ ]
      go Unknown e s = elim s [ ]

  -- so is a list
  pub of-nested32 : kind_number b i ≡ 13 → Nests 4 (kind b i)
  unfolding kind_of
  of-nested32 e = rw (kind-number b i 13 e) is.Nests.nested32

  pub of-nested64 : kind_number b i ≡ 14 → Nests 8 (kind b i)
  unfolding kind_of
  of-nested64 e = rw (kind-number b i 14 e) is.Nests.nested64

  pub not-nested : (kind_number b i ≡ 13 → ⊥) → (kind_number b i ≡ 14 → ⊥) → (w : ℕ) → Nests w (kind b i) → ⊥
  not-nested g h w s = go w (kind b i) refl s
    where
      go : (w : ℕ) (k : Kind) → kind b i ≡ k → Nests w k → ⊥
      go _ Nested32 e is.Nests.nested32 = g (number-kind b i Nested32 e (λ q. let z : ◌≡◌ {A = ℕ} 13 0 = ap number_of q in omega arith))
      go _ Nested64 e is.Nests.nested64 = h (number-kind b i Nested64 e (λ q. let z : ◌≡◌ {A = ℕ} 14 0 = ap number_of q in omega arith))
      go w Bits e s = elim s [ ]
      go w Native e s = elim s [ ]
      go w Fixed e s = elim s [ ]
      go w Bytes32 e s = elim s [ ]
      go w Bytes64 e s = elim s [ ]
      go w Views e s = elim s [ ]
      go w Lists32 e s = elim s [ ]
      go w Lists64 e s = elim s [ ]
      go w Runs e s = elim s [ ]
      go w Struct e s = elim s [ ]
      go w Union e s = elim s [ ]
      go w Dictionary e s = elim s [ ]
      go w Unknown e s = elim s [ ]

  -- a node with children that hands on neither its rows nor its runs nor list rows carries them
  pub of_others : Inner (kind b i) → (kind_number b i ≡ 9 → ⊥) → (kind_number b i ≡ 13 → ⊥) → (kind_number b i ≡ 14 → ⊥) → (Shares (kind b i) → ⊥) → Carries (kind b i)
  of_others (is.Inner.shared s) f m n g = absurd (g s)
  of_others (is.Inner.by_runs e) f m n g = absurd (f (number-kind b i Runs e (λ q. let z : ◌≡◌ {A = ℕ} 9 0 = ap number_of q in omega arith)))
  of_others (is.Inner.carried c) f m n g = c
  of_others (is.Inner.by_spans w s) f m n g = absurd (not-nested m n w s)

-- rows and skip are small
module _ {b : List ℕ} (s : Sound b) (i : ℕ) (h : i < node_count b) where
  pub rows-small : rows b i ≤ 1_048_576
  unfolding places
  rows-small = omega (arith, s.agree.limit i h)

  pub skip-small : skip b i ≤ 1_048_576
  unfolding places
  skip-small = omega (arith, s.agree.limit i h)
