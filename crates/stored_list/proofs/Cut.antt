-- A list cut to what was stored at its front has those entries and no more. Assumes nothing.
use Rattle.std.proofs.Common.{◌≡◌, ℕ, ◌≤◌, List, length, take, drop, sym, arith, take_at}
use Rattle.format.specs.Bytes.{over}
use Rattle.format.specs.Put.{Wrote}
use Rattle.format.proofs.Put.{wrote-front, same_size}

pub cut : {old xs new : List ℕ} {n : ℕ} → Wrote old 0 xs new n → length xs ≤ length old → take n new ≡ xs
unfolding over
cut {old} {xs} {new} {n} w h =
    let q : n ≡ length xs = omega (arith, w.place) in
    rw (wrote-front w h) (take_at xs (drop (length xs) old) n (sym q))

-- so it can be cut there
pub cut_fits : {old xs new : List ℕ} {n : ℕ} → Wrote old 0 xs new n → length xs ≤ length old → n ≤ length new
cut_fits w h = omega (arith, w.place, same_size w)
