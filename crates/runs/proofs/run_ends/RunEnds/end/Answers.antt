-- `runs::run_ends::RunEnds::end` meets its contract: the run's end lies in the slice. Assumes nothing.
use Rattle.words.proofs.Widths.{wider}
use Rattle.runs.specs.Groups.{end_at}
use Rattle.runs.proofs.GroupLaws.{end-inside}
use Rattle.runs.proofs.run_ends.RunEnds.end.Goals as goal

pub read_number-end-requires : goal.read_number-end-requires
read_number-end-requires c = record { is_width = wider _ c.args.self.lie.width; inside = end-inside c.args.self.lie _ c.requires }

pub returns : goal.returns
unfolding end_at
returns c = cc
