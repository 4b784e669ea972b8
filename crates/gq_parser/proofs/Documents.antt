-- A document, definition by definition.
use Rattle.std.proofs.Common.{◌≡◌, ◌≢◌, ◌<◌, List, [], ◌∷◌, ◌++◌, length, map, refl, ap, subst, ◌∙◌, arith}
use Rattle.std.proofs.lemmas.List.{append-nil}
use Rattle.gq_lexer.specs.declared.token.Punct.TheVariants.{BraceLeft}
use Rattle.gq_parser.specs.declared.keyword.Keyword.TheVariants.{Query, Mutation, Subscription, Fragment}
use Rattle.gq_parser.specs.declared.definition.Definition.{Definition}
use Rattle.gq_parser.specs.declared.definition.Definition.TheVariants as definition
use Rattle.gq_parser.specs.declared.tree.Document as rust
use Rattle.gq_parser.specs.Word.{Punct, Name, Token, at}
use Rattle.gq_parser.specs.Tree.{Operation, operation_of, fragment_of, document_of}
use Rattle.gq_parser.specs.Tree as tree
use Rattle.gq_parser.specs.Grammar.{AreDefinitions, no_more_definitions, next_operation, next_fragment, IsDocument}
use Rattle.gq_parser.specs.Fault.{IsShallow, most_brackets}
use Rattle.gq_parser.specs.Machine.{ADefinition, one, read}
use Rattle.gq_parser.specs.Parsing.{IsDefinition, Adds, IsDocumentFront}
use Rattle.gq_parser.proofs.Views.{map_push}
use Rattle.gq_parser.proofs.Whole.{shallow_from}

-- the definitions of a document so far were read from the tokens between these two points
abbrev pub IsRead : rust.Document → List Token → List Token → Type 0
IsRead d before now = IsDocumentFront most_brackets (map operation_of d.operations.items) (map fragment_of d.fragments.items) before now

joined : (d : Definition) (old new : rust.Document) (before now after : List Token) → Adds d old new → IsDefinition d now after → IsRead old before now
    → (os : List tree.Operation) (fs : List tree.Fragment) → AreDefinitions os fs after → AreDefinitions (map operation_of new.operations.items ++ os) (map fragment_of new.fragments.items ++ fs) before
joined (definition.Operation o) old new before now after adds is front os fs rest = rw (adds.0, adds.1, map_push operation_of _ _ os) (front.joins (operation_of o ∷ os) fs (next_operation is rest))
joined (definition.Fragment f) old new before now after adds is front os fs rest = rw (adds.0, adds.1, map_push fragment_of _ _ fs) (front.joins os (fragment_of f ∷ fs) (next_fragment is rest))

-- a definition more may come
definition_next : (tokens : List Token) → tokens ≢ [] → read most_brackets [] tokens ≡ read most_brackets (one ADefinition) tokens
definition_next [] h = absurd (h refl)
definition_next (at p (Punct BraceLeft) ∷ tokens) h = refl
definition_next (at p (Name Query n) ∷ tokens) h = refl
definition_next (at p (Name Mutation n) ∷ tokens) h = refl
definition_next (at p (Name Subscription n) ∷ tokens) h = refl
definition_next (at p (Name Fragment n) ∷ tokens) h = refl
definition_next (at p _ ∷ tokens) h = refl

pub none_read : (d : rust.Document) (before : List Token) → d.operations.items ≡ [] → d.fragments.items ≡ [] → IsRead d before before
none_read d before e e' = record { joins = λ os fs rest. rw (e, e') rest; reads = refl; shrinks = omega arith }

pub one_more : (d : Definition) (old new : rust.Document) (before now after : List Token) → Adds d old new → IsDefinition d now after → read most_brackets (one ADefinition) now ≡ read most_brackets [] after → length after < length now → after ≢ []
    → IsRead old before now → IsRead new before after
one_more d old new before now after adds is goes shorter more front = record {
  joins = joined d old new before now after adds is front;
  reads = front.reads ∙ goes ∙ definition_next after more;
  shrinks = omega (arith, front.shrinks);
}

-- the last definition was read
pub whole : (d : Definition) (old new : rust.Document) (before now after : List Token) → Adds d old new → IsDefinition d now after → read most_brackets (one ADefinition) now ≡ read most_brackets [] after → length after < length now → after ≡ []
    → IsRead old before now → IsDocument (document_of new) before × IsShallow most_brackets before
whole d old new before now after adds is goes shorter none front = (
  record {
    some = λ e. some_left before (omega (arith, front.shrinks)) e;
    are = subst (λ os. AreDefinitions os (map fragment_of new.fragments.items) before) (append-nil (map operation_of new.operations.items))
        (subst (λ fs. AreDefinitions (map operation_of new.operations.items ++ []) fs before) (append-nil (map fragment_of new.fragments.items))
        (joined d old new before now after adds is front [] [] (rw none no_more_definitions)));
  },
  shallow_from before (front.reads ∙ goes ∙ ap (read most_brackets []) none),
)
  where
    some_left : (tokens : List Token) → 0 < length tokens → tokens ≡ [] → ⊥
    some_left [] h e = absurd (omega arith)
    some_left (t ∷ tokens) h e = cc
