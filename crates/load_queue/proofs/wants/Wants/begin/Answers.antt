use Rattle.std.proofs.Common.{◌≡◌, ◌∙◌, ◌++◌, List, Result, Ok, Err, OnOk, if◌then◌else◌, ap, arith}
use Rattle.std.specs.Result.{is_ok}
use Rattle.std.proofs.lemmas.Result.{on_ok_weaker}
use Rattle.load_queue.specs.Wanted.{wanted_in}
use Rattle.load_queue.proofs.WantLaws.{none-in}
use Rattle.load_queue.proofs.wants.Wants.begin.Goals as goal

-- what is appended where nothing fails
appended : {T E A : Type 0} (r : Result T E) (old new xs : List A) → new ≡ (if is_ok r then old ++ xs else old) → OnOk r (new ≡ old ++ xs)
appended (Ok v) old new xs e = e
appended (Err f) old new xs e = tt

pub returns : goal.returns
returns c =
    let ws = c.loop-loader.self-inside.lists.items in
    let ms = c.args.memory.now.modes in
    let was = c.loop-loader.invariant in
    let none = none-in ws ms was.within (λ k other lt. was.begun k other (omega (arith, lt, was.all, c.loop-loader-test.false))) in
    on_ok_weaker c.extend_from_slice.result
    (λ e. ap (wanted_in ws) (e ∙ ap (λ xs. xs ++ c.modes-modes.result.now) c.clear.ensures.items ∙ c.modes-modes.ensures) ∙ none)
    (appended c.extend_from_slice.result c.clear.new.self.items c.extend_from_slice.new.self.items c.modes-modes.result.now c.extend_from_slice.ensures.items)
