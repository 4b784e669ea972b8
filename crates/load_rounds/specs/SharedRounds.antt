-- Several requests over one session, in shared rounds: one log for all of them, and an answer for each.
use Rattle.std.specs.Prelude.{◌≡◌, ◌≤◌, ◌⊎◌, ◌++◌, ℕ, suc, max, false, List, [], ◌∷◌, map, length, Some, string_bytes}
use Rattle.std.specs.Global.{Vec}
use Rattle.load_memory.specs.Keys.{KeyOf}
use Rattle.load_memory.specs.Pairs.{PairOf}
use Rattle.load_memory.specs.Replies.{ReplyOf}
use Rattle.load_memory.specs.declared.key.KeyMode.{KeyMode}
use Rattle.load_queue.specs.Answers.{AnswerOf}
use Rattle.load_queue.specs.Loaders.{AreOnRecord}
use Rattle.execution.specs.Loads.{Load, Reader, Memory, read}
use Rattle.execution.specs.Program.{ListOf, Item, Program, Under, Programs, End, With, needs, chain}
use Rattle.execution.specs.Completion.{AnsweredOf}
use Rattle.execution.specs.Front.{front, missing, firsts}
use Rattle.execution.specs.Rounds.{IsSparing, own_rounds, without_failed}
use Rattle.execution.specs.Sessions.{AreApart, asked_cells, IsAnsweredIn}
use Rattle.load_rounds.specs.Sessions.{StateOf, rules_of, session_modes}
use Rattle.load_rounds.specs.Headline.{CountsLoads, MakesRounds, Headline}
use Rattle.execution.specs.Executes.{IsTextOf}
use Rattle.load_rounds.specs.declared.answer.Answer.{Answer}

-- says what is executed, and the text of a response of it
pub record RequestOf : Type 0 where
  pub program : Program
  pub text_of : AnsweredOf → List ℕ

-- the text of an answer, the rounds that were made for it, and the loads that it read
pub record ReportOf : Type 0 where
  pub text : List ℕ
  pub rounds : ℕ
  pub loads : ℕ

abbrev pub request_of : Program → (AnsweredOf → List ℕ) → RequestOf
request_of program text_of = record { program = program; text_of = text_of }

abbrev pub requests : {P : Type 0} → (P → Program)
    → (P → AnsweredOf → List ℕ) → List P → List RequestOf
requests program text_of plans = map (λ plan. request_of (program plan) (text_of plan)) plans

abbrev pub report_of : Answer → ReportOf
report_of a = record { text = string_bytes a.text; rounds = a.rounds; loads = a.loads }

-- all loads that several programs need, in order of the programs
abbrev pub needs_of_all : List Program → Reader → List Load
needs_of_all [] R = []
needs_of_all (p ∷ ps) R = needs p R ++ needs_of_all ps R

-- *Front*, of several programs: what is needed and missing, in order of the programs, of equal cache keys of a loader only the first
abbrev pub front_of_all : List KeyMode → List Program → Memory → List Load
front_of_all modes ps M = firsts modes (missing (read modes M) (needs_of_all ps (read modes M)))

-- Several programs are one: the items of a list, in order, each of nullable type. Its front is the front of all.
abbrev pub items_from : ℕ → List RequestOf → Programs
items_from n [] = End
items_from n (r ∷ rs) =
    With (record { part = Item n; non_null = false; place = record { line = 1; column = 1 } })
    r.program (items_from (suc n) rs)

abbrev pub together : List RequestOf → Program
together rs = Under ListOf (items_from 0 rs)

-- all of the plans as one program
abbrev pub joint : {P : Type 0} → (P → Program) → (P → AnsweredOf → List ℕ) → List P → Program
joint program text_of plans = together (requests program text_of plans)

-- each text is that of the execution by a reader
abbrev pub AreTexts : List RequestOf → Reader → List ReportOf → Type 0
AreTexts [] R [] = Unit {0}
AreTexts [] R (t ∷ ts) = ⊥
AreTexts (r ∷ rs) R [] = ⊥
AreTexts (r ∷ rs) R (t ∷ ts) = IsTextOf r.text_of r.program R t.text × AreTexts rs R ts

-- the greatest of the answers' rounds
abbrev pub greatest : List ReportOf → ℕ
greatest [] = 0
greatest (t ∷ ts) = max t.rounds (greatest ts)

module _ {S : Type 0} where
  -- One of the answers: its text is that of the execution over the memory at the return, and its loads are those that it reads there.
  -- Its rounds are those of the log in which something that it needed was missing: at most its own load chain, and no more than the
  -- steps of any sparing run of it alone.
  pub record IsShared (old new : StateOf S) (log : List (List ReplyOf)) (r : RequestOf)
      (report : ReportOf) : Type 0 where
    pub answered : IsTextOf r.text_of r.program (read (session_modes old) new.memory) report.text
    pub counted : own_rounds (rules_of old) r.program (without_failed old.memory) log
        ≡ report.rounds
    pub chained : report.rounds ≤ chain r.program (read (session_modes old) new.memory)
    pub fewest : (Ns : List Memory)
        → IsSparing (session_modes old) r.program new.memory (without_failed old.memory) Ns
        → report.rounds ≤ length Ns
    pub loads : CountsLoads old new r.program report.loads

  -- one answer to each request, in order
  abbrev pub AreShared : StateOf S → StateOf S → List (List ReplyOf)
      → List RequestOf → List ReportOf → Type 0
  AreShared old new log [] [] = Unit {0}
  AreShared old new log [] (t ∷ ts) = ⊥
  AreShared old new log (r ∷ rs) [] = ⊥
  AreShared old new log (r ∷ rs) (t ∷ ts) = IsShared old new log r t × AreShared old new log rs ts

  -- The headline, of several requests: one lawful log for all of them, in which no key is asked twice, and as many rounds as the
  -- answer with the most.
  pub record SharedHeadline (may : S → List KeyOf → AnswerOf → Type 0) (old new : StateOf S)
      (rs : List RequestOf) (reports : List ReportOf) : Type 0 where
    pub log : List (List ReplyOf)
    pub made : MakesRounds may old new (together rs) log
    pub complete : front (session_modes old) (together rs) new.memory ≡ []
    pub recorded : AreOnRecord old.loaders new.loaders
    pub answers : AreShared old new log rs reports
    pub pairs : (pair : PairOf) → new.memory pair.loader pair.key ≡ Some pair.outcome
        → (without_failed old.memory pair.loader pair.key ≡ Some pair.outcome)
        ⊎ IsAnsweredIn (session_modes old) pair log
    pub once : AreApart (asked_cells (rules_of old) (together rs) (without_failed old.memory) log)
    pub longest : length log ≡ greatest reports

  -- says what an answering call says of its answers
  abbrev pub AreAnswers : (S → List KeyOf → AnswerOf → Type 0)
      → StateOf S → StateOf S → List RequestOf → Vec Answer → Type 0
  AreAnswers may old new rs answers = SharedHeadline may old new rs (map report_of answers.items)

  -- the headline of one request alone, and the count of its loads
  abbrev pub IsAnsweredAlone : (S → List KeyOf → AnswerOf → Type 0)
      → StateOf S → StateOf S → RequestOf → ReportOf → Type 0
  IsAnsweredAlone may old new r report =
      Headline may old new r.program r.text_of report.text report.rounds
      × CountsLoads old new r.program report.loads

  -- the longest load chain of all requests, over the memory of a state
  abbrev pub longest_chain : List KeyMode → List RequestOf → StateOf S → ℕ
  longest_chain modes rs s = chain (together rs) (read modes s.memory)

  -- `rounds` rounds are no more than that chain is long
  abbrev pub AreWithinChain : StateOf S → StateOf S → List RequestOf → ℕ → Type 0
  AreWithinChain old new rs rounds = rounds ≤ longest_chain (session_modes old) rs new
