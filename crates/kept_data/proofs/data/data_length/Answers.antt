-- `data_length` meets its contract. Assumes nothing.
use Rattle.std.proofs.Common.{refl, sym, ◌∙◌}
use Rattle.format.specs.Verdict.{one_of}
use Rattle.kept_data.proofs.DataBytes.{texts32, texts64, length32, length64, length_none}
use Rattle.kept_data.proofs.data.data_length.Goals as goal

pub text_bytes-requires-clause-wide : goal.text_bytes-requires-clause-wide
unfolding one_of
text_bytes-requires-clause-wide c = refl

pub text_bytes-requires-clause-offsets : goal.text_bytes-requires-clause-offsets
text_bytes-requires-clause-offsets c = texts32 c.args.counted.ready.sound c.requires.inside (sym c.kind.ensures ∙ c.in-Bytes32.is)

pub text_bytes-requires-in-Bytes64-clause-wide : goal.text_bytes-requires-in-Bytes64-clause-wide
unfolding one_of
text_bytes-requires-in-Bytes64-clause-wide c = refl

pub text_bytes-requires-in-Bytes64-clause-offsets : goal.text_bytes-requires-in-Bytes64-clause-offsets
text_bytes-requires-in-Bytes64-clause-offsets c = texts64 c.args.counted.ready.sound c.requires.inside (sym c.kind.ensures ∙ c.in-Bytes64.is)

pub returns-in-Bytes32 : goal.returns-in-Bytes32
returns-in-Bytes32 c = length32 c.args.counted.ready.sound c.requires.inside (sym c.kind.ensures ∙ c.in-Bytes32.is) _ _ c.text_bytes.ensures

pub returns-in-Bytes64 : goal.returns-in-Bytes64
returns-in-Bytes64 c = length64 c.args.counted.ready.sound c.requires.inside (sym c.kind.ensures ∙ c.in-Bytes64.is) _ _ c.text_bytes-in-Bytes64.ensures

pub returns-in_default : goal.returns-in_default
returns-in_default c = length_none _ _ _ (λ q. c.in_default.not-Bytes32 (c.kind.ensures ∙ q)) (λ q. c.in_default.not-Bytes64 (c.kind.ensures ∙ q))
