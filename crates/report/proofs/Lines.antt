-- A line from its parts, as they are written one after the other, and how long it is. Assumes nothing.
use Rattle.std.proofs.Common.{◌≡◌, ℕ, List, ◌^◌, ◌<◌, ◌≤◌, ◌++◌, Ok, Err, length, append_assoc, length-append, lit≤, arith, rules}
use Rattle.std.specs.Prelude.{codes}
use Rattle.std.specs.Fmt.{decimal}
use Rattle.format.specs.declared.Route.{Route}
use Rattle.format.specs.declared.Route.TheVariants.{None, All, Slices, Indices}
use Rattle.format.specs.declared.Pack.{Pack}
use Rattle.format.specs.declared.Pack.TheVariants.{Mask, Journal}
use Rattle.format.specs.declared.Done.{Done}
use Rattle.format.specs.declared.Refused.{Refused}
use Rattle.format.specs.declared.Reason.{Reason}
use Rattle.format.specs.Reason.{reason_number}
use Rattle.format.specs.Names.{route_name, pack_name}
use Rattle.report.specs.Report.{line_of, longest_name, line_room}
use Rattle.report.proofs.Decimal.{size-most}

nine : (a b c d e f g h i : List ℕ) → (((((a ++ b) ++ (c ++ d)) ++ e) ++ f) ++ (g ++ h)) ++ i ≡ (a ++ b ++ c ++ d ++ e ++ f ++ g ++ h) ++ i
nine a b c d e f g h i = simp append_assoc

pub done-line : (d : Done) → (((((codes "rows " ++ decimal d.kept) ++ (codes " of " ++ decimal d.slots)) ++ codes " route ") ++ route_name d.route) ++ (codes " bytes " ++ decimal d.bytes)) ++ codes "\n" ≡ line_of (Ok d)
done-line d = nine (codes "rows ") (decimal d.kept) (codes " of ") (decimal d.slots) (codes " route ") (route_name d.route) (codes " bytes ") (decimal d.bytes) (codes "\n")

pub refused-line : (r : Refused) → (((codes "refused " ++ decimal (reason_number r.reason)) ++ codes " ") ++ pack_name r.pack) ++ codes "\n" ≡ line_of (Err r)
refused-line r = simp append_assoc

-- ---- how long a line is

route-within : (route : Route) → length (route_name route) ≤ longest_name
route-within None = lit≤ tt
route-within All = lit≤ tt
route-within Slices = lit≤ tt
route-within Indices = lit≤ tt

pack-within : (pack : Pack) → length (pack_name pack) ≤ longest_name
pack-within Mask = lit≤ tt
pack-within Journal = lit≤ tt

-- a refusal's number is 20 at most
reason-within : (reason : Reason) → reason_number reason < 2 ^ 64
reason-within reason = search rules

pub done-within : (d : Done) → d.kept < 2 ^ 64 → d.slots < 2 ^ 64 → d.bytes < 2 ^ 64 → length (line_of (Ok d)) ≤ line_room
done-within d k s b = simp length-append (omega (arith, size-most d.kept k, size-most d.slots s, size-most d.bytes b, route-within d.route))

pub refused-within : (r : Refused) → length (line_of (Err r)) ≤ line_room
refused-within r = simp length-append (omega (arith, size-most (reason_number r.reason) (reason-within r.reason), pack-within r.pack))
