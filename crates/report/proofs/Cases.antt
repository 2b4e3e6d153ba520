-- The specification's two lines, and one of zeros, as one table proved by one statement, by computation. Assumes nothing.
use Rattle.std.proofs.Common.{◌≡◌, ℕ, List, [], ◌∷◌, map, Result, refl}
use Rattle.std.specs.Prelude.{codes}
use Rattle.std.specs.Fmt.{digits}
use Rattle.format.specs.declared.Route.TheVariants.{None, Indices}
use Rattle.format.specs.declared.Pack.TheVariants.{Journal}
use Rattle.format.specs.declared.Done.{Done}
use Rattle.format.specs.declared.Refused.{Refused}
use Rattle.format.specs.Reason.{reason_of}
use Rattle.format.specs.Answer.{done_with, refused_for}
use Rattle.report.specs.Report.{line_of}

answers : List (Result Done Refused)
answers =
    -- P1; six against five
    done_with 2 5 Indices 64
    ∷ refused_for (reason_of 10) Journal
    -- nothing kept
    ∷ done_with 0 0 None 56
    ∷ []

lines : List (List ℕ)
lines =
    codes "rows 2 of 5 route indices bytes 64\n"
    ∷ codes "refused 10 journal\n"
    ∷ codes "rows 0 of 0 route none bytes 56\n"
    ∷ []

all_lines : map line_of answers ≡ lines
unfolding digits reason_of answers lines
all_lines = refl
