-- Lemmas on what contracts see of a completed text, as its lists grow.
use Rattle.std.proofs.Common.{◌≡◌, ◌==◌, ◌<◌, ◌≤◌, Some, ℕ, zero, suc, Bool, true, false, if◌then◌else◌, refl, List, [], ◌∷◌, ◌++◌, map, take, drop, length, get_or, sym, ◌∙◌, ap, arith, append-nil}
use Rattle.std.specs.Prelude.{reverse}
use Rattle.std.proofs.lemmas.List.{map-append, reverse-append}
use Rattle.json.specs.Token.{Token}
use Rattle.json.specs.Print.{print, print_from, token_text}
use Rattle.answer_json.specs.declared.field_error.PathSegment.{PathSegment}
use Rattle.schema_syntax.specs.Tree.{Definition}
use Rattle.plan_program.specs.PlanPrograms.{or_bad}
use Rattle.plan_walk.specs.LeafTypes.{leaf_at, cell_at}
use Rattle.plan_walk.specs.declared.leaf_type.LeafType.{LeafType}
use Rattle.execution.specs.Program.{Leaf, Value, Kind, Part, Key, Item}
use Rattle.gq_resolve.specs.ReadBack.{next_item}
use Rattle.answer_json.specs.Answer.{part_of}
use Rattle.gq_resolve.specs.Texted.{OpenOf, WrittenOf, nulled, closed, left, ended_in, level_seen, levels_seen}
use Rattle.gq_resolve.specs.declared.completed_text.OpenLevel.{OpenLevel}

-- the text of one token
pub one-printed : (t : Token) → print (t ∷ []) ≡ token_text t
unfolding print_from
one-printed t = append-nil (token_text t)

pub open-push : (ls : List OpenLevel) (l : OpenLevel) → levels_seen (ls ++ l ∷ []) ≡ level_seen l ∷ levels_seen ls
open-push ls l = ap reverse (map-append level_seen ls (l ∷ [])) ∙ reverse-append (map level_seen ls) (level_seen l ∷ [])

-- ---- paths

steps-taken : (n : ℕ) (path : List PathSegment) → map part_of (take n path) ≡ take n (map part_of path)
steps-taken zero path = refl
steps-taken (suc n) [] = refl
steps-taken (suc n) (step ∷ path) = ap (λ (steps : List Part). part_of step ∷ steps) (steps-taken n path)

-- the steps to an object or a list
pub steps-left : (old new : List PathSegment) (n : ℕ) → new ≡ take n old → map part_of new ≡ take n (map part_of old)
steps-left old new n is = ap (map part_of) is ∙ steps-taken n old

-- and one more
pub steps-entered : (old new : List PathSegment) (step : PathSegment) (n depth : ℕ) → n ≡ depth → new ≡ take n old ++ step ∷ [] → map part_of new ≡ take depth (map part_of old) ++ part_of step ∷ []
steps-entered old new step n depth e is =
    ap (map part_of) is ∙ map-append part_of (take n old) (step ∷ []) ∙ ap (λ (steps : List Part). steps ++ part_of step ∷ []) (steps-taken n old ∙ ap (λ (k : ℕ). take k (map part_of old)) e)

-- ---- ends

-- what was begun last ends, and is null or not
pub ended-null : (w : WrittenOf) (kind : Kind) (non_null : Bool) (seen : List OpenOf) (l : OpenOf) (ls : List OpenOf) (path : List Part) → seen ≡ l ∷ ls → path ≡ take l.depth w.path → w.muted ≡ true
    → nulled non_null l.muted l.before (record w { levels = ls; path = path }) ≡ ended_in seen kind non_null w
ended-null w kind non_null seen l ls path s p e =
    ap (λ (steps : List Part). nulled non_null l.muted l.before (record w { levels = ls; path = steps })) p
    ∙ sym (ap (λ (b : Bool). if b then nulled non_null l.muted l.before (left l ls w) else closed kind l.before (left l ls w)) e) ∙ ap (λ (x : List OpenOf). ended_in x kind non_null w) (sym s)

pub ended-kept : (w : WrittenOf) (kind : Kind) (non_null : Bool) (seen : List OpenOf) (l : OpenOf) (ls : List OpenOf) (path : List Part) → seen ≡ l ∷ ls → path ≡ take l.depth w.path → w.muted ≡ false
    → closed kind l.before (record w { levels = ls; path = path }) ≡ ended_in seen kind non_null w
ended-kept w kind non_null seen l ls path s p e =
    ap (λ (steps : List Part). closed kind l.before (record w { levels = ls; path = steps })) p
    ∙ sym (ap (λ (b : Bool). if b then nulled non_null l.muted l.before (left l ls w) else closed kind l.before (left l ls w)) e) ∙ ap (λ (x : List OpenOf). ended_in x kind non_null w) (sym s)

-- ---- cells

-- what a cell with a text is, where it is right at its type
pub cell-leaf : (defs : List Definition) (column : List ℕ) (ty : LeafType) (text : List ℕ) (leaf : Leaf) → (length text == 0) ≡ false → Some leaf ≡ leaf_at defs ty text → cell_at defs column ty (Some text) ≡ Value leaf
cell-leaf defs column ty [] leaf some is = absurd (cc some)
cell-leaf defs column ty (c ∷ cs) leaf some is = ap (or_bad column) (sym is)

-- ---- items

-- the number of the next item, by the step where the list stands
pub next-step : (path : List PathSegment) (depth : ℕ) (step : PathSegment) → depth < length path → step ≡ get_or path depth step → next_item (drop depth (map part_of path)) ≡ next_item (part_of step ∷ [])
next-step [] depth step lt is = absurd (omega (arith, lt))
next-step (s ∷ path) zero step lt is = rw is (same (part_of s) (map part_of path))
  where
    same : (part : Part) (rest : List Part) → next_item (part ∷ rest) ≡ next_item (part ∷ [])
    same (Key k) rest = refl
    same (Item n) rest = refl
next-step (s ∷ path) (suc depth) step lt is = next-step path depth step (omega (arith, lt)) is

-- none stands there
pub next-none : (path : List PathSegment) (depth : ℕ) → length path ≤ depth → next_item (drop depth (map part_of path)) ≡ 0
next-none [] zero le = refl
next-none [] (suc depth) le = refl
next-none (s ∷ path) zero le = absurd (omega (arith, le))
next-none (s ∷ path) (suc depth) le = next-none path depth (omega (arith, le))
