-- `node_body::data_size` meets its contract: of byte columns alone. Assumes nothing.
use mathlib.Core.Logic.{inl, inr}
use Rattle.node_body.proofs.AddLaws.{no-data}
use Rattle.node_body.proofs.data_size.Goals as goal

pub returns-in-Bytes32 : goal.returns-in-Bytes32
returns-in-Bytes32 c = elim c.in-Bytes32.is [ inl e ↦ rw e | inr e ↦ rw e ]

pub returns-in_default : goal.returns-in_default
returns-in_default c = no-data c.args.kind _ _ c.in_default.not-Bytes32 c.in_default.not-Bytes64
