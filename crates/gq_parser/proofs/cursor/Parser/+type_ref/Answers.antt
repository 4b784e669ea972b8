use Rattle.std.proofs.Common.{◌≡◌, ◌∙◌, [], ◌∷◌, suc, ◌-◌, refl, sym, arith}
use Rattle.gq_lexer.specs.declared.token.Punct.TheVariants.{BracketLeft}
use Rattle.gq_parser.specs.Keywords.{keyword_of}
use Rattle.gq_parser.specs.Word.{Punct, Name, at}
use Rattle.gq_parser.specs.Tree.{type_of}
use Rattle.gq_parser.specs.Grammar.{IsType, list_of}
use Rattle.gq_parser.specs.Machine.{AType, ABracket, MaybeBang, one}
use Rattle.gq_parser.proofs.Front.{earlier}
use Rattle.gq_parser.proofs.Views.{type_list}
use Rattle.gq_parser.proofs.Steps.{type_opens, is_bang, bang_comes, room_back}
use Rattle.gq_parser.proofs.cursor.Parser.+type_ref.Goals as goal

pub list_type-returns-clause-reads : goal.list_type-returns-clause-reads
list_type-returns-clause-reads t c =
    let item = c.in_ok-item.ensures.reads in
    let closed = c.in_ok-bracket.ensures.reads c.args.room in (
      rw (type_list, c.in_ok-item-2.ensures.ok) (list_of (rw closed.0.1 at item.0) (is_bang _ _ _ c.eat-non_null.ensures)),
      λ stack. item.1 (ABracket ∷ MaybeBang ∷ stack) ∙ closed.1 (MaybeBang ∷ stack) ∙ bang_comes _ (suc c.args.room) _ _ stack c.eat-non_null.ensures,
    )

pub type_ref-returns-in-Some-clause-reads : goal.type_ref-returns-in-Some-clause-reads
type_ref-returns-in-Some-clause-reads t c =
    let n = c.in-Some.field-0.value.now in
    let e = c.in-Some.ensures in
    earlier (λ t. IsType (type_of t)) (λ t before. IsType (type_of t) (at c.in-Some.field-0.place (Name (keyword_of n) n) ∷ before)) c.args.room c.args.room c.args.room c.args.room (one AType) (one MaybeBang) [] [] c.args.self.now c.take_name.new.self c.named_type.new.self c.named_type.result
    (λ t h. rw e h) (λ stack. rw e refl) (λ stack. refl) (c.named_type.ensures.reads c.args.room (keyword_of n))

pub type_ref-returns-clause-reads : goal.type_ref-returns-clause-reads
type_ref-returns-clause-reads t c =
    let some : c.args.room ≡ suc (c.args.room - 1) = omega arith in
    let e = sym c.in_default.ensures.0 ∙ c.in-Some-take.ensures in
    earlier (λ t. IsType (type_of t)) (λ t before. IsType (type_of t) (at c.in-Some-take.place (Punct BracketLeft) ∷ before)) c.args.room (c.args.room - 1) c.args.room (suc (c.args.room - 1)) (one AType) (AType ∷ ABracket ∷ one MaybeBang) [] [] c.args.self.now c.take.new.self c.list_type.new.self c.list_type.result
    (λ t h. rw e h) (λ stack. type_opens stack some e) (λ stack. room_back stack _ some) c.list_type.ensures.reads
