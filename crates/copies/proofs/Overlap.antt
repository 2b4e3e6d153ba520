-- Two moves that meet or overlap write what one copy of both would: what is written twice is the same both times. Assumes nothing.
use Prim.Native.Nat.{ℕ, suc, ◌+◌, ◌-◌, ◌≤◌, ◌<◌}
use mathlib.Core.Path.{◌≡◌, refl, sym, ap, ◌∙◌}
use mathlib.Core.List.{List, [], ◌∷◌, ◌++◌, append_assoc}
use native.Mathlib.Omega.{arith}
use lib.ListN.{length, set, length-append}
use lib.Seq.{set-set, set_comm}
use Rattle.format.specs.Bytes.{bytes_at}
use Rattle.format.specs.Put.{put, Wrote}
use Rattle.format.proofs.Numbers.{bytes_same, bytes-join, length-bytes}
use Rattle.format.proofs.Put.{put-append, then, named}

-- a store before what is written
put-set : (old : List ℕ) (p q : ℕ) (bs : List ℕ) (b : ℕ) → p < q → set (put old q bs) p b ≡ put (set old p b) q bs
unfolding put
put-set old p q [] b h = refl
put-set old p q (c ∷ bs) b h =
    let apart : q ≡ p → ⊥ = λ e. omega arith in
    put-set (set old q c) p (suc q) bs b (omega arith) ∙ ap (λ (l : List ℕ). put l (suc q) bs) (set_comm old q p c b apart)

put-twice : (old : List ℕ) (p : ℕ) (bs : List ℕ) → put (put old p bs) p bs ≡ put old p bs
unfolding put
put-twice old p [] = refl
put-twice old p (b ∷ bs) =
    ap (λ (l : List ℕ). put l (suc p) bs) (put-set (set old p b) p (suc p) bs b (omega arith) ∙ ap (λ (l : List ℕ). put l (suc p) bs) (set-set old p b b))
    ∙ put-twice (set old p b) (suc p) bs

module _ (src : List ℕ) (from m k w : ℕ) (h : k ≤ m) (reach : m ≤ k + w) (fit : from + k + w ≤ length src) where
  front : bytes_at src from m ≡ bytes_at src from k ++ bytes_at src (from + k) (m - k)
  front = bytes_same src from from m (k + (m - k)) refl (omega arith) ∙ bytes-join src from k (m - k)

  back : bytes_at src (from + k) w ≡ bytes_at src (from + k) (m - k) ++ bytes_at src (from + m) (k + w - m)
  back =
      bytes_same src (from + k) (from + k) w (m - k + (k + w - m)) refl (omega arith)
      ∙ bytes-join src (from + k) (m - k) (k + w - m)
      ∙ ap (bytes_at src (from + k) (m - k) ++◌) (bytes_same src (from + k + (m - k)) (from + m) (k + w - m) (k + w - m) (omega arith) refl)

  pub overlap : {old mid new : List ℕ} {at here next : ℕ} → Wrote old at (bytes_at src from m) mid here → Wrote mid (at + k) (bytes_at src (from + k) w) new next
      → Wrote old at (bytes_at src from (k + w)) new next
  overlap {old} {mid} {new} {at} {here} {next} p q =
      let a = bytes_at src from k in
      let b = bytes_at src (from + k) (m - k) in
      let c = bytes_at src (from + m) (k + w - m) in
      let la : length a ≡ k = length-bytes src from k (omega arith) in
      let lb : length b ≡ m - k = length-bytes src (from + k) (m - k) (omega arith) in
      let lm : length (bytes_at src from m) ≡ m = length-bytes src from m (omega arith) in
      let was : mid ≡ put (put old at a) (at + k) b = p.bytes ∙ ap (put old at) front ∙ put-append old at a b ∙ ap (λ (n : ℕ). put (put old at a) (at + n) b) la in
      let again : put mid (at + k) b ≡ mid = ap (λ (l : List ℕ). put l (at + k) b) was ∙ put-twice (put old at a) (at + k) b ∙ sym was in
      let place : at + k + length b ≡ here = omega (arith, p.place) in
      let last : Wrote mid here c new next = record {
        bytes = q.bytes ∙ ap (put mid (at + k)) back ∙ put-append mid (at + k) b c ∙ ap (λ (l : List ℕ). put l (at + k + length b) c) again ∙ ap (λ (n : ℕ). put mid n c) place;
        place = omega (arith, q.place, p.place, ap length back ∙ length-append b c);
      } in
      named (then p last) (ap (◌++ c) front ∙ append_assoc a b c ∙ ap (a ++◌) (sym back) ∙ sym (bytes-join src from k w))
