use Rattle.std.proofs.Common.{string_bytes}
use Rattle.gq_schema.specs.Types.{tree_of}
use Rattle.fault_sentences.proofs.Sentences.{bindings_says}
use Rattle.fault_sentences.proofs.told.sentence.Goals as goal

pub returns-in-Ok : goal.returns-in-Ok
returns-in-Ok c =
    bindings_says string_bytes c.args.fault.now c.args.schema.now c.args.bindings.now (tree_of c.in-Ok.read) c.bindings_sentence.result c.if-not-fault.false c.in-Ok.ensures.found c.in-Ok.ensures.only c.bindings_sentence.ensures
