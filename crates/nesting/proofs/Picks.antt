-- The picks of a bit source as the root's kept rows. Assumes nothing.
use Prim.Native.Nat.{ℕ, suc, ◌+◌, ◌-◌, ◌≤◌}
use mathlib.Core.Bool.{false}
use mathlib.Core.List.{List}
use mathlib.Core.Path.{◌≡◌, sym, ap, ◌∙◌}
use mathlib.Core.Logic.{dite}
use native.Mathlib.Decide.{dec_le}
use native.Mathlib.Omega.{arith}
use lib.ListN.{length}
use Rattle.format.specs.Bytes.{any_below, chosen}
use Rattle.format.specs.Slots.{picks_from}
use Rattle.format.proofs.SlotLaws.{chosen-picks}
use Rattle.slots.specs.declared.Bits.{Bits}
use Rattle.slots.specs.Source.{slot_of}
use Rattle.scan.specs.Asked.{any_in}
use Rattle.slots.proofs.Reading.{slot-past}
use Rattle.nesting.specs.Rows.{between, picks_of, Sifted}
use Rattle.nesting.proofs.Between.{empty, above, told, any-chosen, sifted, sifted-more, chosen_more}

module _ (s : List ℕ) (b : Bits) where
  pub picks-sifted : (n : ℕ) → b.len ≤ n → Sifted (picks_of s b) n
  picks-sifted n h = sifted-more (sifted (slot_of s b) b.len) n h

  -- no slot past the last is picked, so the range need not be cut
  far : (m : ℕ) → b.len ≤ m → chosen (slot_of s b) m ≡ picks_of s b
  far m h = chosen_more (slot_of s b) b.len m h (slot-past s b)

  pub any-picks : (lo hi : ℕ) → any_in (slot_of s b) lo hi ≡ between (picks_of s b) lo hi
  unfolding any_below
  any-picks lo hi =
      dite (dec_le hi lo)
      (λ h. let e : hi - lo ≡ 0 = omega arith in rw (e, empty (picks_of s b) lo hi h))
      (λ h. let e : lo + (hi - lo) ≡ hi = omega arith in
      sym (ap (between (picks_of s b) lo) (sym e) ∙ ap (λ (rs : List ℕ). between rs lo (lo + (hi - lo))) (sym (far (b.len + hi) (omega arith)))
      ∙ any-chosen (slot_of s b) (b.len + hi) lo (hi - lo) (omega arith)))

  pub count-picks : length (picks_from (slot_of s b) b.len 0) ≡ length (picks_of s b)
  count-picks = ap length (sym (chosen-picks (slot_of s b) b.len))

-- none is picked past the rows
pub none-past : (s : List ℕ) (bits : Bits) (n : ℕ) → Sifted (picks_of s bits) n → (r : ℕ) → n ≤ r → slot_of s bits r ≡ false
none-past s bits n sifted r l =
    dite (dec_le bits.len r) (λ h. slot-past s bits r h)
    (λ h.
    sym (told (slot_of s bits) bits.len r (omega arith))
    ∙ ap (λ (q : List ℕ). between q r (suc r)) sifted.is
    ∙ above (λ k. between (picks_of s bits) k (suc k)) n r (suc r) l)
