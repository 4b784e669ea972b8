-- What stands right behind an element that passes, as a walk from left to right finds it.
use Rattle.std.proofs.Common.{Bool, cond, List, [], ◌++◌, take}
use Rattle.fault_sentences.specs.Behind.{behind}

-- the elements right behind one that passes, where the element before the list does, or doesn't
abbrev pub behind_from : {A : Type 0} → (A → Bool) → Bool → List A → List A
behind_from p before xs = cond before (take 1 xs) [] ++ behind p xs
