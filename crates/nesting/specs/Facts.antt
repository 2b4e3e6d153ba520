-- That the facts which values of this crate carry have one proof at most. Assumes nothing.
use Rattle.std.specs.Prelude.{ℕ, List}
use mathlib.Core.Path.{refl}
use Rattle.std.proofs.Props.{props}
use Rattle.format.specs.declared.Kind.{Kind}
use Rattle.format.specs.declared.Kind.TheVariants as of
use Rattle.format.specs.Accepted.{Nests}
use Rattle.format.specs.Accepted as is
use Rattle.journal.specs.Sound.{Sound-prop}
use Rattle.nesting.specs.Rows.{Ready, AtRuns, AtList}

Nests-prop : (w : ℕ) (k : Kind) → IsProp (Nests w k)
Nests-prop _ of.Nested32 is.Nests.nested32 is.Nests.nested32 = refl
Nests-prop _ of.Nested64 is.Nests.nested64 is.Nests.nested64 = refl
Nests-prop w of.Bits x y = elim x [ ]
Nests-prop w of.Native x y = elim x [ ]
Nests-prop w of.Fixed x y = elim x [ ]
Nests-prop w of.Bytes32 x y = elim x [ ]
Nests-prop w of.Bytes64 x y = elim x [ ]
Nests-prop w of.Views x y = elim x [ ]
Nests-prop w of.Lists32 x y = elim x [ ]
Nests-prop w of.Lists64 x y = elim x [ ]
Nests-prop w of.Runs x y = elim x [ ]
Nests-prop w of.Struct x y = elim x [ ]
Nests-prop w of.Union x y = elim x [ ]
Nests-prop w of.Dictionary x y = elim x [ ]
Nests-prop w of.Unknown x y = elim x [ ]

pub Ready-prop : (b root counts : List ℕ) (n : ℕ) → IsProp (Ready b root counts n)
Ready-prop b root counts n = Prim.hlevel (props, Sound-prop)

pub AtRuns-prop : (b : List ℕ) (i : ℕ) → IsProp (AtRuns b i)
AtRuns-prop b i = Prim.hlevel (props, Sound-prop)

pub AtList-prop : (b : List ℕ) (w i : ℕ) → IsProp (AtList b w i)
AtList-prop b w i = Prim.hlevel (props, Sound-prop, Nests-prop)
