-- `bits::add_four` meets its contract: by the tables' rules, each computed over the whole table. Assumes nothing.
use mathlib.Core.Path.{refl}
use native.Mathlib.Omega.{arith}
use lib.Count.{ones}
use Rattle.format.specs.Words.{low_bits, word_of, gather, compress}
use Rattle.bits.specs.declared.TheConstants.{FOURS, COUNTS}
use Rattle.bits.specs.Fours.{four_of, count_of, Table}
use Rattle.bits.proofs.Ruled.{table-holds}
use Rattle.bits.proofs.FourLaws.{shift-lt, entry_lt, added, added-lt}
use Rattle.bits.proofs.add_four.Goals as goal

entries : Table four_of FOURS
unfolding compress low_bits gather word_of
entries = table-holds four_of FOURS refl refl

counted : Table count_of COUNTS
unfolding ones
counted = table-holds count_of COUNTS refl refl

pub overflow_shl-result : goal.overflow_shl-result
overflow_shl-result c = shift-lt c.args.place c.requires.1 counted

pub overflow_cast-result-2 : goal.overflow_cast-result-2
overflow_cast-result-2 c = record { fits = omega (arith, entry_lt c.args.place c.requires.1 entries) }

pub returns : goal.returns
returns c = added c.args.place c.requires.1 c.args.out c.requires.0 entries counted

pub overflow_add-result : goal.overflow_add-result
overflow_add-result c = rw (returns c) (record { fits = added-lt c.args.place c.requires.1 c.args.out c.requires.0 })

pub overflow_cast-result : goal.overflow_cast-result
overflow_cast-result c = record { fits = omega (arith, overflow_shl-result c) }
