-- Own bytes of rows are those of the first rows, and then those of the others. Assumes nothing.
use Prim.Native.Nat.{ℕ}
use mathlib.Core.List.{List, []}
use mathlib.Core.Path.{refl}
use Rattle.texts.specs.Texts.{texts_of}
use Rattle.texts.proofs.TextLaws.{texts-none, texts-append}
use Rattle.columns.proofs.Walk.{Cuts}

pub texts-cut : (o : ℕ → ℕ) (b : List ℕ) (from : ℕ) → Cuts (texts_of o b from)
texts-cut o b from = record { none = texts-none o b from [] refl; parts = texts-append o b from }
