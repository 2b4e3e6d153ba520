-- `checker::fields::bad_fields` meets its contract: each arm is its kind's row. Assumes nothing.
use Rattle.std.proofs.Common.{refl, inl, inr}
use Rattle.checker.proofs.Fits.{four, no_kind, row_is, six, three}
use Rattle.checker.proofs.fields.bad_fields.Goals as goal

pub returns-in-Bits : goal.returns-in-Bits
returns-in-Bits c = row_is _ _ c.node_at-n.ensures c.from.ensures c.in-Bits.is c.carries_counts-counts.ensures refl refl c.misfits.ensures

pub returns-in-Native : goal.returns-in-Native
returns-in-Native c = row_is _ _ c.node_at-n.ensures c.from.ensures c.in-Native.is c.carries_counts-counts.ensures (six _ _ _ _ _ _ _) refl c.misfits-in-Native.ensures

pub returns-in-Fixed : goal.returns-in-Fixed
returns-in-Fixed c = row_is _ _ c.node_at-n.ensures c.from.ensures c.in-Fixed.is c.carries_counts-counts.ensures refl refl c.misfits-in-Fixed.ensures

pub returns-in-Bytes32 : goal.returns-in-Bytes32
returns-in-Bytes32 c = elim c.in-Bytes32.is [ inl e ↦ row_is _ _ c.node_at-n.ensures c.from.ensures e c.carries_counts-counts.ensures refl refl c.misfits-in-Bytes32.ensures | inr e ↦ row_is _ _ c.node_at-n.ensures c.from.ensures e c.carries_counts-counts.ensures refl refl c.misfits-in-Bytes32.ensures ]

pub returns-in-Views : goal.returns-in-Views
returns-in-Views c = row_is _ _ c.node_at-n.ensures c.from.ensures c.in-Views.is c.carries_counts-counts.ensures refl refl c.misfits-in-Views.ensures

pub returns-in-Lists32 : goal.returns-in-Lists32
returns-in-Lists32 c = elim c.in-Lists32.is [ inl e ↦ row_is _ _ c.node_at-n.ensures c.from.ensures e c.carries_counts-counts.ensures refl refl c.misfits-in-Lists32.ensures | inr e ↦ row_is _ _ c.node_at-n.ensures c.from.ensures e c.carries_counts-counts.ensures refl refl c.misfits-in-Lists32.ensures ]

pub returns-in-Runs : goal.returns-in-Runs
returns-in-Runs c = row_is _ _ c.node_at-n.ensures c.from.ensures c.in-Runs.is c.carries_counts-counts.ensures (three _ _ _ _) refl c.misfits-in-Runs.ensures

pub returns-in-Struct : goal.returns-in-Struct
returns-in-Struct c = row_is _ _ c.node_at-n.ensures c.from.ensures c.in-Struct.is c.carries_counts-counts.ensures refl refl c.misfits-in-Struct.ensures

pub returns-in-Union : goal.returns-in-Union
returns-in-Union c = row_is _ _ c.node_at-n.ensures c.from.ensures c.in-Union.is c.carries_counts-counts.ensures refl refl c.misfits-in-Union.ensures

pub returns-in-Dictionary : goal.returns-in-Dictionary
returns-in-Dictionary c = row_is _ _ c.node_at-n.ensures c.from.ensures c.in-Dictionary.is c.carries_counts-counts.ensures (four _ _ _ _ _) refl c.misfits-in-Dictionary.ensures

pub returns-in-Nested32 : goal.returns-in-Nested32
returns-in-Nested32 c = elim c.in-Nested32.is [ inl e ↦ row_is _ _ c.node_at-n.ensures c.from.ensures e c.carries_counts-counts.ensures refl refl c.misfits-in-Nested32.ensures | inr e ↦ row_is _ _ c.node_at-n.ensures c.from.ensures e c.carries_counts-counts.ensures refl refl c.misfits-in-Nested32.ensures ]

pub returns-in-Unknown : goal.returns-in-Unknown
returns-in-Unknown c = no_kind _ _ c.node_at-n.ensures c.from.ensures c.in-Unknown.is
