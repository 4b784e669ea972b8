use Rattle.std.proofs.Common.{◌∷◌, ◌∙◌, [], refl}
use Rattle.std.proofs.lemmas.Result.{err_from_is_err_and}
use Rattle.schema_syntax.proofs.Steps.{fails_earlier}
use Rattle.schema_syntax.specs.declared.word.SchemaWord.TheVariants as word
use Rattle.schema_syntax.specs.Machine.{A, ATypeName, RootBody, ObjectBody, InterfaceBody, EnumBody, a_union_then}
use Rattle.schema_syntax.proofs.Bodies.{definition_opens, definition_is}
use Rattle.schema_syntax.proofs.parser.Parser.definition.Goals as goal

pub returns-in_err-schema-in-Schema-clause-reads : goal.returns-in_err-schema-in-Schema-clause-reads
returns-in_err-schema-in-Schema-clause-reads c = let p = err_from_is_err_and c.from_residual.result c.from_residual.ensures.1 in rw (p.1, p.2)
    (λ stack. fails_earlier _ _ _ (definition_opens word.Schema (RootBody ∷ []) _ _ _ _ _ stack c.in-Some.ensures c.in-Schema.ensures refl) (c.in_err-schema-in-Schema.ensures.reads stack))

pub returns-in_ok-schema-in-Schema-clause-reads : goal.returns-in_ok-schema-in-Schema-clause-reads
returns-in_ok-schema-in-Schema-clause-reads c = (
  definition_is c.in-Some.ensures c.in-Schema.ensures (c.in_ok-schema-in-Schema.ensures.reads.0),
  λ stack. definition_opens word.Schema (RootBody ∷ []) _ _ _ _ _ stack c.in-Some.ensures c.in-Schema.ensures refl ∙ c.in_ok-schema-in-Schema.ensures.reads.1 stack,
)

pub returns-in_err-object-in-Object-clause-reads : goal.returns-in_err-object-in-Object-clause-reads
returns-in_err-object-in-Object-clause-reads c = let p = err_from_is_err_and c.from_residual-in_err-object-in-Object.result c.from_residual-in_err-object-in-Object.ensures.1 in rw (p.1, p.2)
    (λ stack. fails_earlier _ _ _ (definition_opens word.Object (A ATypeName ∷ ObjectBody ∷ []) _ _ _ _ _ stack c.in-Some.ensures c.in-Object.ensures refl) (c.in_err-object-in-Object.ensures.reads stack))

pub returns-in_ok-object-in-Object-clause-reads : goal.returns-in_ok-object-in-Object-clause-reads
returns-in_ok-object-in-Object-clause-reads c = (
  definition_is c.in-Some.ensures c.in-Object.ensures (c.in_ok-object-in-Object.ensures.reads.0 _),
  λ stack. definition_opens word.Object (A ATypeName ∷ ObjectBody ∷ []) _ _ _ _ _ stack c.in-Some.ensures c.in-Object.ensures refl ∙ c.in_ok-object-in-Object.ensures.reads.1 stack,
)

pub returns-in_err-interface-in-Interface-clause-reads : goal.returns-in_err-interface-in-Interface-clause-reads
returns-in_err-interface-in-Interface-clause-reads c = let p = err_from_is_err_and c.from_residual-in_err-interface-in-Interface.result c.from_residual-in_err-interface-in-Interface.ensures.1 in rw (p.1, p.2)
    (λ stack. fails_earlier _ _ _ (definition_opens word.Interface (A ATypeName ∷ InterfaceBody ∷ []) _ _ _ _ _ stack c.in-Some.ensures c.in-Interface.ensures refl) (c.in_err-interface-in-Interface.ensures.reads stack))

pub returns-in_ok-interface-in-Interface-clause-reads : goal.returns-in_ok-interface-in-Interface-clause-reads
returns-in_ok-interface-in-Interface-clause-reads c = (
  definition_is c.in-Some.ensures c.in-Interface.ensures (c.in_ok-interface-in-Interface.ensures.reads.0 _),
  λ stack. definition_opens word.Interface (A ATypeName ∷ InterfaceBody ∷ []) _ _ _ _ _ stack c.in-Some.ensures c.in-Interface.ensures refl ∙ c.in_ok-interface-in-Interface.ensures.reads.1 stack,
)

pub returns-in_err-union_type-in-Union-clause-reads : goal.returns-in_err-union_type-in-Union-clause-reads
returns-in_err-union_type-in-Union-clause-reads c = let p = err_from_is_err_and c.from_residual-in_err-union_type-in-Union.result c.from_residual-in_err-union_type-in-Union.ensures.1 in rw (p.1, p.2)
    (λ stack. fails_earlier _ _ _ (definition_opens word.Union (A ATypeName ∷ a_union_then) _ _ _ _ _ stack c.in-Some.ensures c.in-Union.ensures refl) (c.in_err-union_type-in-Union.ensures.reads stack))

pub returns-in_ok-union_type-in-Union-clause-reads : goal.returns-in_ok-union_type-in-Union-clause-reads
returns-in_ok-union_type-in-Union-clause-reads c = (
  definition_is c.in-Some.ensures c.in-Union.ensures (c.in_ok-union_type-in-Union.ensures.reads.0 _),
  λ stack. definition_opens word.Union (A ATypeName ∷ a_union_then) _ _ _ _ _ stack c.in-Some.ensures c.in-Union.ensures refl ∙ c.in_ok-union_type-in-Union.ensures.reads.1 stack,
)

pub returns-in_err-enum_type-in-Enum-clause-reads : goal.returns-in_err-enum_type-in-Enum-clause-reads
returns-in_err-enum_type-in-Enum-clause-reads c = let p = err_from_is_err_and c.from_residual-in_err-enum_type-in-Enum.result c.from_residual-in_err-enum_type-in-Enum.ensures.1 in rw (p.1, p.2)
    (λ stack. fails_earlier _ _ _ (definition_opens word.Enum (A ATypeName ∷ EnumBody ∷ []) _ _ _ _ _ stack c.in-Some.ensures c.in-Enum.ensures refl) (c.in_err-enum_type-in-Enum.ensures.reads stack))

pub returns-in_ok-enum_type-in-Enum-clause-reads : goal.returns-in_ok-enum_type-in-Enum-clause-reads
returns-in_ok-enum_type-in-Enum-clause-reads c = (
  definition_is c.in-Some.ensures c.in-Enum.ensures (c.in_ok-enum_type-in-Enum.ensures.reads.0 _),
  λ stack. definition_opens word.Enum (A ATypeName ∷ EnumBody ∷ []) _ _ _ _ _ stack c.in-Some.ensures c.in-Enum.ensures refl ∙ c.in_ok-enum_type-in-Enum.ensures.reads.1 stack,
)
