-- The bounds of shared rounds, by what a part of a program is.
use Rattle.std.proofs.Common.{◌≡◌, ◌≤◌, ◌<◌, List, [], length, sym, subst, refl}
use Rattle.load_memory.specs.Replies.{ReplyOf}
use Rattle.load_memory.specs.declared.key.KeyMode.{KeyMode}
use Rattle.execution.specs.Loads.{Memory, read}
use Rattle.execution.specs.Program.{Program, Is, Read, Under, chain}
use Rattle.execution.specs.Front.{front}
use Rattle.execution.specs.Rounds.{RuleOf, modes_of, any_answer, AreRounds, IsSparing, AreLimited, HasLoaders, own_rounds}
use Rattle.execution.specs.Logs.{LogOf, IsSharedLog, IsBoundedLog, IsSparingRun, longest_chain, count_of_own, IsPartOf, IsOfPart, HasParts}
use Rattle.execution.proofs.SharedLaws.{below-front, own-chain, own-sparing}
use Rattle.execution.proofs.FewestLaws.{all-rounds}

pub part-front : (modes : List KeyMode) (whole p : Program) (M : Memory) → IsPartOf p whole → front modes whole M ≡ [] → front modes p M ≡ []
part-front modes (Is own) p M among e = absurd among
part-front modes (Read load next) p M among e = absurd among
part-front modes (Under kind ps) p M among e = below-front modes kind ps p M among e

chain-of : (rules : List RuleOf) (whole p : Program) (M : Memory) (rounds : List (List ReplyOf)) (end : Memory)
    → AreLimited rules → HasLoaders (length rules) whole → AreRounds any_answer rules whole M rounds end → IsPartOf p whole
    → own_rounds rules p M rounds ≤ chain p (read (modes_of rules) end)
chain-of rules (Is own) p M rounds end positive within h among = absurd among
chain-of rules (Read load next) p M rounds end positive within h among = absurd among
chain-of rules (Under kind ps) p M rounds end positive within h among = own-chain any_answer rules kind ps p positive within among M rounds end h

pub part-chain : (log part : LogOf) → IsBoundedLog log → IsOfPart log part → count_of_own part ≤ longest_chain part
part-chain log part is of =
    subst (λ (l : LogOf). count_of_own l ≤ longest_chain l) (sym of.2) (chain-of log.rules log.program of.0 log.start log.rounds log.end is.limited is.within is.lawful.0 of.1)

sparing-of : (rules : List RuleOf) (whole p : Program) (M : Memory) (rounds : List (List ReplyOf)) (end : Memory) (steps : List Memory)
    → AreLimited rules → HasLoaders (length rules) whole → AreRounds any_answer rules whole M rounds end → IsPartOf p whole
    → IsSparing (modes_of rules) p end M steps → own_rounds rules p M rounds ≤ length steps
sparing-of rules (Is own) p M rounds end steps positive within h among run = absurd among
sparing-of rules (Read load next) p M rounds end steps positive within h among run = absurd among
sparing-of rules (Under kind ps) p M rounds end steps positive within h among run = own-sparing any_answer rules kind ps p positive within among M rounds end steps h run

pub part-sparing : (log part : LogOf) (steps : List Memory) → IsBoundedLog log → IsOfPart log part → IsSparingRun part steps → count_of_own part ≤ length steps
part-sparing log part steps is of =
    subst (λ (l : LogOf). IsSparingRun l steps → count_of_own l ≤ length steps) (sym of.2)
    (λ run. sparing-of log.rules log.program of.0 log.start log.rounds log.end steps is.limited is.within is.lawful.0 of.1 run)

rounds-of : (rules : List RuleOf) (whole : Program) (M : Memory) (rounds : List (List ReplyOf)) (end : Memory)
    → HasParts whole → AreRounds any_answer rules whole M rounds end → 0 < length rounds
    → (p : Program) × IsPartOf p whole × (own_rounds rules p M rounds ≡ length rounds)
rounds-of rules (Is own) M rounds end parts h some = absurd parts
rounds-of rules (Read load next) M rounds end parts h some = absurd parts
rounds-of rules (Under kind ps) M rounds end parts h some = all-rounds any_answer rules kind ps M rounds end h some

pub part-rounds : (log : LogOf) → IsSharedLog log → 0 < length log.rounds
    → (part : LogOf) × IsOfPart log part × (count_of_own part ≡ length log.rounds)
part-rounds log is some =
    let all : (p : Program) × IsPartOf p log.program × (own_rounds log.rules p log.start log.rounds ≡ length log.rounds) = rounds-of log.rules log.program log.start log.rounds log.end is.parts is.lawful.0 some in
    (record log { program = all.0 }, (all.0, all.1, refl), all.2)
