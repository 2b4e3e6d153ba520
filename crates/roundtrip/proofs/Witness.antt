-- The premises of the theorems can be met: by the runs of case P10, and by lists with a null among them. Their extracts are then accepted and read back as what was kept. Assumes nothing.
use Prim.Native.Nat.{ℕ, ◌<◌}
use mathlib.Core.List.{List, [], ◌∷◌, ◌++◌}
use mathlib.Core.Bool.{◌&&◌}
use lib.Dec.{leb, ltb, lit<, lit≤}
use lib.ListN.{get_or}
use Rattle.format.specs.Bytes as Bytes
use Rattle.format.specs.Bytes.{padded}
use Rattle.format.specs.Node as Node
use Rattle.format.specs.Node.{mark, no_bitmap}
use Rattle.format.specs.Verdict as Verdict
use Rattle.format.specs.Kept as Kept
use Rattle.format.specs.Write as Write
use Rattle.format.specs.Write.{numbers}
use Rattle.roundtrip.specs.Back.{Extracted, ReadBack}
use Rattle.roundtrip.proofs.Octets.{none, more, octets-append, octets-padded, octets-numbers, octet-at}
use Rattle.roundtrip.proofs.Roundtrip.{read_back}

-- run ends 2, 5, 6 over three values, skip 1, rows 4: the last run lies past the rows
journal : List ℕ
journal =
    padded (numbers 4 (2 ∷ 5 ∷ 6 ∷ [])) ++ padded (numbers 4 (70 ∷ 80 ∷ 90 ∷ []))
    ++ numbers 4 (9 ∷ 4 ∷ 4 ∷ 1 ∷ 1 ∷ no_bitmap ∷ 0 ∷ 0 ∷ 0 ∷ 0 ∷ [])
    ++ numbers 4 (2 ∷ 4 ∷ 3 ∷ 0 ∷ 0 ∷ no_bitmap ∷ 16 ∷ 0 ∷ 0 ∷ 0 ∷ [])
    ++ numbers 4 (32 ∷ 2 ∷ 4 ∷ mark ∷ [])

journal-bytes : (k : ℕ) → get_or journal k 0 < 256
unfolding journal
journal-bytes k =
    octet-at
    (octets-append
    (octets-append
    (octets-append (octets-append (octets-padded (octets-numbers 4 _)) (octets-padded (octets-numbers 4 _))) (octets-numbers 4 _))
    (octets-numbers 4 _))
    (octets-numbers 4 _))
    k

-- the mask F, T, T
abbrev two : List ℕ
two = 1 ∷ 2 ∷ []

premises-hold : Extracted journal two
unfolding Bytes.opened Node.opened Verdict.opened Kept.opened Write.opened journal
premises-hold =
    record {
      accepted = mathlib.Core.Path.refl;
      bytes = journal-bytes;
      picked = record { test = λ k. leb 1 k && ltb k 3; are = mathlib.Core.Path.refl };
      short = lit≤ tt;
    }

reads-back : ReadBack journal two
reads-back = read_back premises-hold

-- lists 70 80, null (with the child row 90 under it), 100: skip 1, rows 3; rows 0 and 1 are kept
lists : List ℕ
lists =
    padded (numbers 4 (9 ∷ 1 ∷ 3 ∷ 4 ∷ 5 ∷ [])) ++ padded (numbers 4 (60 ∷ 70 ∷ 80 ∷ 90 ∷ 100 ∷ [])) ++ padded (0x0A ∷ [])
    ++ numbers 4 (13 ∷ 0 ∷ 3 ∷ 1 ∷ 1 ∷ 48 ∷ 0 ∷ 0 ∷ 0 ∷ 1 ∷ [])
    ++ numbers 4 (2 ∷ 4 ∷ 5 ∷ 0 ∷ 0 ∷ no_bitmap ∷ 24 ∷ 0 ∷ 0 ∷ 0 ∷ [])
    ++ numbers 4 (56 ∷ 2 ∷ 3 ∷ mark ∷ [])

lists-bytes : (k : ℕ) → get_or lists k 0 < 256
unfolding lists
lists-bytes k =
    octet-at
    (octets-append
    (octets-append
    (octets-append
    (octets-append
    (octets-append (octets-padded (octets-numbers 4 _)) (octets-padded (octets-numbers 4 _)))
    (octets-padded (more (lit< tt) none)))
    (octets-numbers 4 _))
    (octets-numbers 4 _))
    (octets-numbers 4 _))
    k

lists-premises : Extracted lists (0 ∷ 1 ∷ [])
unfolding Bytes.opened Node.opened Verdict.opened Kept.opened Write.opened lists
lists-premises =
    record {
      accepted = mathlib.Core.Path.refl;
      bytes = lists-bytes;
      picked = record { test = λ k. ltb k 2; are = mathlib.Core.Path.refl };
      short = lit≤ tt;
    }

lists-read-back : ReadBack lists (0 ∷ 1 ∷ [])
lists-read-back = read_back lists-premises
