use Rattle.std.proofs.Common.{string_bytes, arith}
use Rattle.fault_sentences.proofs.Sentences.{refused_says}
use Rattle.fault_sentences.proofs.told.schema_sentence.Goals as goal

pub returns-then-schema-gt-MAX_BYTES : goal.returns-then-schema-gt-MAX_BYTES
returns-then-schema-gt-MAX_BYTES c =
    refused_says string_bytes c.args.fault.now c.args.schema.now c.sentence.result (omega arith) c.sentence.ensures
