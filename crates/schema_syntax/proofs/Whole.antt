-- Documents and their faults.
use Rattle.std.proofs.Common.{◌≡◌, ◌<◌, Bool, true, false, List, [], ◌∷◌, ◌++◌, length, map, Option, Some, None, Ok, refl, sym, ap, subst, ◌∙◌, inl, inr, arith}
use Rattle.std.proofs.lemmas.List.{append-nil}
use Rattle.gq_parser.specs.Word.{Name, Text, Token, at}
use Rattle.gq_parser.specs.Fault.{IsShallow}
use Rattle.schema_syntax.specs.declared.word.SchemaWord.{SchemaWord}
use Rattle.schema_syntax.specs.declared.word.SchemaWord.TheVariants as word
use Rattle.schema_syntax.specs.declared.fault.TokenFault.{TokenFault}
use Rattle.schema_syntax.specs.declared.fault.TokenFault.TheVariants.{Unexpected, NotServed, NoMemory}
use Rattle.schema_syntax.specs.declared.tree.Definition as rust
use Rattle.schema_syntax.specs.Word.{word_of}
use Rattle.schema_syntax.specs.Tree.{Definition, definition_of}
use Rattle.schema_syntax.specs.Grammar.{IsDescription, IsDefinition, definition, IsDocument, no_more_definitions, next_definition}
use Rattle.schema_syntax.specs.Fault.{CanCome, IsUnservedWord, IsUnserved, directive, a_word, list, IsRefused, IsCut, IsStop}
use Rattle.schema_syntax.specs.Fault as fault
use Rattle.schema_syntax.specs.Machine.{Symbol, ADefinition, Shift, moved, body_move, one, read}
use Rattle.schema_syntax.specs.Parsing.{Fails, Reads, Describes, IsNoText, IsDefinitionRead, IsDocumentFront}
use Rattle.schema_syntax.proofs.Means.{Means, ends}
use Rattle.schema_syntax.proofs.Served.{Comes}
use Rattle.schema_syntax.proofs.Faults.{RefusedAt, StopsAt, Ends, read_ends, read_done}
use Rattle.schema_syntax.proofs.Lists.{is_description, same_shift}
use Rattle.schema_syntax.proofs.Unique.{document_one}

means_document : {tokens : List Token} → Means [] tokens → (ds : List Definition) × IsDocument ds tokens
means_document (ends h) = (_, h)

can_come : (good next : List Token) → Comes [] good next → CanCome good next
can_come good next c = let d = means_document c.means in record { definitions = d.0; more = c.more; spelled = c.spelled; is = d.1 }

comes : (good next : List Token) → CanCome good next → Comes [] good next
comes good next c = record { more = c.more; spelled = c.spelled; means = ends c.is }

word_can : (good : List Token) (t : Token) → IsUnservedWord (Comes [] good) t → IsUnservedWord (CanCome good) t
word_can good t (fault.definition h c) = fault.definition h (can_come good _ c)
word_can good t (fault.operation h (inl c)) = fault.operation h (inl (can_come good _ c))
word_can good t (fault.operation h (inr c)) = fault.operation h (inr (can_come good _ c))
word_can good t (fault.implements h c d) = fault.implements h (can_come good _ c) (λ x. d (comes good _ x))
word_can good t (fault.float h c) = fault.float h (can_come good _ c)

word_comes : (good : List Token) (t : Token) → IsUnservedWord (CanCome good) t → IsUnservedWord (Comes [] good) t
word_comes good t (fault.definition h c) = fault.definition h (comes good _ c)
word_comes good t (fault.operation h (inl c)) = fault.operation h (inl (comes good _ c))
word_comes good t (fault.operation h (inr c)) = fault.operation h (inr (comes good _ c))
word_comes good t (fault.implements h c d) = fault.implements h (comes good _ c) (λ x. d (can_come good _ x))
word_comes good t (fault.float h c) = fault.float h (comes good _ c)

unserved_can : (good bad : List Token) → IsUnserved (Comes [] good) good bad → IsUnserved (CanCome good) good bad
unserved_can good bad (directive d) = directive (λ c. d (comes good _ c))
unserved_can good bad (a_word {t = t} d u) = a_word (λ c. d (comes good _ c)) (word_can good t u)
unserved_can good bad (list d e) = list (λ c. d (comes good _ c)) e

unserved_comes : (good bad : List Token) → IsUnserved (CanCome good) good bad → IsUnserved (Comes [] good) good bad
unserved_comes good bad (directive d) = directive (λ c. d (can_come good _ c))
unserved_comes good bad (a_word {t = t} d u) = a_word (λ c. d (can_come good _ c)) (word_comes good t u)
unserved_comes good bad (list d e) = list (λ c. d (can_come good _ c)) e

refused_is : (good bad : List Token) → RefusedAt 128 [] good bad → IsRefused good bad
refused_is good [] r = λ ds h. r (ends h)
refused_is good (t ∷ rest) r = elim r [ inl d ↦ inl (λ c. d (comes good _ c)) | inr d ↦ inr d ]

cut : (tokens : List Token) (stop : TokenFault) (s : StopsAt 128 [] tokens stop) → IsCut tokens s.good s.bad
cut tokens stop s = record { whole = s.whole; viable = can_come s.good [] s.viable; shallow = s.shallow; together = s.together }

stops_at : (tokens : List Token) (stop : TokenFault) → StopsAt 128 [] tokens stop → IsStop tokens stop
stops_at tokens (Unexpected place) s = record {
  good = s.good;
  bad = s.bad;
  cut = cut tokens (Unexpected place) s;
  placed = s.why.0;
  refused = refused_is s.good s.bad s.why.1;
  served = λ u. s.why.2.served (unserved_comes s.good s.bad u);
}
stops_at tokens (NotServed place) s = record {
  good = s.good;
  bad = s.bad;
  cut = cut tokens (NotServed place) s;
  placed = s.why.0;
  unserved = elim s.why.1 [ inl u ↦ unserved_can s.good s.bad u | inr f ↦ absurd (f.not_plain tt) ];
}
stops_at tokens NoMemory s = tt

pub is_stop : (tokens : List Token) (e : TokenFault) → Fails e (read 128 [] tokens) → IsStop tokens e
is_stop tokens (Unexpected place) e = stops_at tokens (Unexpected place) (subst (Ends 128 [] tokens) e (read_ends 128 [] tokens tt))
is_stop tokens (NotServed place) e = stops_at tokens (NotServed place) (subst (Ends 128 [] tokens) e (read_ends 128 [] tokens tt))
is_stop tokens NoMemory e = tt

none_some : {e : TokenFault} {o : Option TokenFault} → o ≡ Some e → o ≡ None → ⊥
none_some h g = cc

-- tokens that come whole do not fail
pub finds_err : (tokens : List Token) (e : TokenFault) (ds : List Definition) → Fails e (read 128 [] tokens) → IsDocument ds tokens → IsShallow 128 tokens → e ≡ NoMemory
finds_err tokens (Unexpected place) ds e h shallow = absurd (none_some e (read_done 128 [] tokens (ends h) shallow))
finds_err tokens (NotServed place) ds e h shallow = absurd (none_some e (read_done 128 [] tokens (ends h) shallow))
finds_err tokens NoMemory ds e h shallow = refl

-- ---- the loop

definition_shift : (s : SchemaWord) (stack : List Symbol) (skipped skipped' : Shift) → moved (body_move s) stack skipped ≡ moved (body_move s) stack skipped'
definition_shift word.Schema stack skipped skipped' = refl
definition_shift word.Object stack skipped skipped' = refl
definition_shift word.Interface stack skipped skipped' = refl
definition_shift word.Union stack skipped skipped' = refl
definition_shift word.Enum stack skipped skipped' = refl
definition_shift word.Unserved stack skipped skipped' = refl
definition_shift _ stack skipped skipped' = refl

definition_comes : (tokens : List Token) → 0 < length tokens → IsNoText tokens → read 128 [] tokens ≡ read 128 (one ADefinition) tokens
definition_comes [] some h = absurd (omega arith)
definition_comes (at p (Text s) ∷ tokens) some h = absurd h
definition_comes (at p (Name k n) ∷ tokens) some h = same_shift 128 p k n [] (one ADefinition) tokens (definition_shift (word_of n) [] _ _)
definition_comes (at p _ ∷ tokens) some h = refl

pub described : (before after : List Token) (b : Bool) → 0 < length before → Describes before after b → read 128 [] before ≡ read 128 (one ADefinition) after
described before after true some h = rw h.is refl
described before after false some h = definition_comes before some h.1 ∙ ap (read 128 (one ADefinition)) (sym h.0)

definition_at : {d : Definition} {before mid after : List Token} → IsDescription before mid → IsDefinitionRead d mid after → IsDefinition d before after
definition_at {before = before} desc r = definition (subst (λ x. IsDescription before x) r.begins desc) r.is

abbrev definitions_are : List rust.Definition → List Definition
definitions_are ds = map definition_of ds

definitions_push : (xs : List rust.Definition) (x : rust.Definition) (others : List Definition) → definitions_are (xs ++ x ∷ []) ++ others ≡ definitions_are xs ++ definition_of x ∷ others
definitions_push [] x others = refl
definitions_push (y ∷ xs) x others = ap (λ zs. definition_of y ∷ zs) (definitions_push xs x others)

pub front_init : (before : List Token) (xs : List rust.Definition) → xs ≡ [] → IsDocumentFront 128 (definitions_are xs) before before
front_init before xs e = record { joins = λ others h. rw e h; reads = refl }

pub front_more : (before now mid after : List Token) (b : Bool) (xs ys : List rust.Definition) (x : rust.Definition) → IsDocumentFront 128 (definitions_are xs) before now → 0 < length now → Describes now mid b
    → Reads (λ d. IsDefinitionRead (definition_of d)) 128 (one ADefinition) 128 [] mid after (Ok x) → ys ≡ xs ++ x ∷ [] → IsDocumentFront 128 (definitions_are ys) before after
front_more before now mid after b xs ys x front some d h is = record {
  joins = λ others rest. rw (is, definitions_push xs x others) (front.joins (definition_of x ∷ others) (next_definition (definition_at (is_description now mid b d) h.0) rest));
  reads = front.reads ∙ described now mid b some d ∙ h.1 [];
}

pub front_fails : (before now mid : List Token) (b : Bool) (xs : List rust.Definition) (e : TokenFault) → IsDocumentFront 128 (definitions_are xs) before now → 0 < length now → Describes now mid b
    → ((stack : List Symbol) → Fails e (read 128 (ADefinition ∷ stack) mid)) → Fails e (read 128 [] before)
front_fails before now mid b xs e front some d h = subst (λ o. Fails e o) (sym (front.reads ∙ described now mid b some d)) (h [])

pub front_end : (before now : List Token) (xs : List rust.Definition) → IsDocumentFront 128 (definitions_are xs) before now → now ≡ [] → IsDocument (definitions_are xs) before × IsShallow 128 before
front_end before now xs front e = (
  subst (λ ds. IsDocument ds before) (append-nil (definitions_are xs)) (front.joins [] (rw e no_more_definitions)),
  subst (Ends 128 [] before) (front.reads ∙ ap (read 128 []) e) (read_ends 128 [] before tt),
)

pub finds_ok : (before : List Token) (xs : List rust.Definition) (ds : List Definition) → IsDocument (definitions_are xs) before → IsDocument ds before → definitions_are xs ≡ ds
finds_ok before xs ds h h' = document_one h h'
