-- A word's rows under another base, and its lowest run whatever base they have. Assumes nothing.
use Rattle.std.proofs.Common.{◌≡◌, ℕ, zero, suc, ◌+◌, ◌-◌, ◌<◌, ◌≤◌, ◌∷◌, ◌++◌, map, refl, sym, ap, ◌∙◌, ap₂, add-zero, arith}
use mathlib.Core.List.{map-append}
use Rattle.format.specs.Rows.{set_rows}
use Rattle.format.specs.Slots.{count_up}
use Rattle.format.specs.Words.{low_bits, gather}
use Rattle.format.proofs.WordLaws.{gather-map}
use Rattle.words.specs.Run.{LowestRun}

up-moved : (base n i : ℕ) → count_up n (base + i) ≡ map (base +◌) (count_up n i)
unfolding count_up
up-moved base zero i = refl
up-moved base (suc n) i =
    let next : suc (base + i) ≡ base + suc i = omega arith in
    rw next (ap ((base + i) ∷◌) (up-moved base n (suc i)))

-- the rows of a word, moved by a base
pub set-moved : (base x : ℕ) → set_rows base x ≡ map (base +◌) (set_rows 0 x)
unfolding set_rows
set-moved base x = ap (λ (i : ℕ). gather (low_bits 64 x) (count_up 64 i)) (sym (add-zero base)) ∙ ap (gather (low_bits 64 x)) (up-moved base 64 0) ∙ gather-map (base +◌) (low_bits 64 x) (count_up 64 0)

-- bits `from` up to `to` are the word's lowest, all set; `rest` is the word without them: so under every base
pub record LowestBits (word from to rest : ℕ) : Type 0 where
  pub filled : from < to
  pub high : to ≤ 64
  pub less : rest < word
  pub rows : (base : ℕ) → set_rows base word ≡ count_up (to - from) (base + from) ++ set_rows base rest

-- what `lowest_run` promises with base 0
pub lowest-bits : {word from to rest : ℕ} → LowestRun 0 word from to rest → LowestBits word from to rest
lowest-bits {word} {from} {to} {rest} h =
    record {
      filled = h.filled;
      high = h.high;
      less = h.less;
      rows = λ base.
          set-moved base word ∙ ap (map (base +◌)) h.rows ∙ map-append (base +◌) (count_up (to - from) from) (set_rows 0 rest)
          ∙ ap₂ ◌++◌ (sym (up-moved base (to - from) from)) (sym (set-moved base rest));
    }
