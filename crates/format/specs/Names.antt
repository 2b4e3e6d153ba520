-- Routes, packs and answers in text, and packs in numbers (docs/FORMAT.md, 10). Assumes nothing.
use Rattle.std.specs.Prelude.{ℕ, List, ◌++◌, codes}
use Rattle.std.specs.Fmt.{decimal}
use Rattle.format.specs.declared.Route.{Route}
use Rattle.format.specs.declared.Route.TheVariants.{None, All, Slices, Indices}
use Rattle.format.specs.declared.Pack.{Pack}
use Rattle.format.specs.declared.Pack.TheVariants.{Mask, Journal}
use Rattle.format.specs.declared.Refused.{Refused}
use Rattle.format.specs.declared.Done.{Done}
use Rattle.format.specs.Reason.{reason_number}

-- the number of each pack, where an answer is given by numbers
abbrev pub pack_number : Pack → ℕ
pack_number Mask = 0
pack_number Journal = 1

-- the specification's words for routes and packs
abbrev pub route_name : Route → List ℕ
route_name None = codes "none"
route_name All = codes "all"
route_name Slices = codes "slices"
route_name Indices = codes "indices"

abbrev pub pack_name : Pack → List ℕ
pack_name Mask = codes "mask"
pack_name Journal = codes "journal"

-- kept, mask length, route, extract length; and a refusal's number and pack
abbrev pub done_text : Done → List ℕ
done_text d = codes "rows " ++ decimal d.kept ++ codes " of " ++ decimal d.slots ++ codes " route " ++ route_name d.route ++ codes " bytes " ++ decimal d.bytes

abbrev pub refused_text : Refused → List ℕ
refused_text r = codes "refused " ++ decimal (reason_number r.reason) ++ codes " " ++ pack_name r.pack
