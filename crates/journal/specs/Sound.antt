-- That a journal is accepted has one proof at most, so that a value can carry it. Assumes nothing.
use Rattle.std.specs.Prelude.{ℕ, List, Option, Some, None, ◌≡◌}
use mathlib.Core.Path.{refl, sym, ◌∙◌, path_j'}
use Rattle.std.proofs.lemmas.Option.{same_Some}
use Rattle.format.specs.declared.Kind.{Kind}
use Rattle.format.specs.declared.Kind.TheVariants.{Views, Lists32, Lists64, Runs, Struct, Union, Dictionary, Nested32, Nested64}
use Rattle.format.specs.Accepted.{Sound, Inner}
use Rattle.format.specs.Accepted as is
use Rattle.std.proofs.Props.{props}

-- what a node of a kind hands on, where it hands on anything
abbrev handed : (k : Kind) → Option (Inner k)
handed Struct = Some (is.Inner.shared is.Shares.struct)
handed Union = Some (is.Inner.shared is.Shares.union)
handed Runs = Some (is.Inner.by_runs refl)
handed Views = Some (is.Inner.carried is.Carries.views)
handed Lists32 = Some (is.Inner.carried is.Carries.lists32)
handed Lists64 = Some (is.Inner.carried is.Carries.lists64)
handed Dictionary = Some (is.Inner.carried is.Carries.dictionary)
handed Nested32 = Some (is.Inner.by_spans 4 is.Nests.nested32)
handed Nested64 = Some (is.Inner.by_spans 8 is.Nests.nested64)
handed _ = None

only : {k : Kind} (x : Inner k) → Some x ≡ handed k
only (is.Inner.shared is.Shares.struct) = refl
only (is.Inner.shared is.Shares.union) = refl
only (is.Inner.by_runs e) = path_j' (λ k p. Some (is.Inner.by_runs p) ≡ handed k) refl e
only (is.Inner.carried is.Carries.views) = refl
only (is.Inner.carried is.Carries.lists32) = refl
only (is.Inner.carried is.Carries.lists64) = refl
only (is.Inner.carried is.Carries.dictionary) = refl
only (is.Inner.by_spans _ is.Nests.nested32) = refl
only (is.Inner.by_spans _ is.Nests.nested64) = refl

Inner-prop : (k : Kind) → IsProp (Inner k)
Inner-prop k x y = same_Some x y (only x ∙ sym (only y))

pub Sound-prop : (b : List ℕ) → IsProp (Sound b)
Sound-prop b = Prim.hlevel (props, Inner-prop)
