-- Lemmas on how words that have no parts end a run.
use Rattle.std.proofs.Common.{◌≡◌, ◌⊎◌, inl, inr, List, ℕ, [], ap, subst, ◌∙◌, refl, true}
use Rattle.std.specs.Prelude.{Ok}
use Rattle.clap.specs.Words.{App, FailsBy, HasKind, HasMatchesOf, IsAmong, fault_of, found_of, kind_of, matches_of, rows_of, is_simple, is_simple_and_free}
use Rattle.clap.specs.declared.error.Error.{Error}
use Rattle.clap.specs.declared.parser.matches.ArgMatches.{ArgMatches}
use Rattle.clap.specs.declared.error.kind.ErrorKind.{ErrorKind}
use Rattle.clap.specs.declared.error.kind.ErrorKind.TheVariants.{OutOfMemory}
use Rattle.clap.proofs.OnLiterals.{clap_on_literals}
use Rattle.query_command.specs.Command.{command_line}
use Rattle.query_command.specs.Words.{IsUnread, IsRefused, Refuses}
use Rattle.query_command.specs.declared.run_end.RunEnd.{RunEnd}
use Rattle.query_command.specs.declared.run_end.RunEnd.TheVariants as stop

-- `clap` says what it makes of each list of words
free : is_simple_and_free command_line ≡ true
unfolding clap_on_literals
free = refl

simple : is_simple command_line ≡ true
unfolding clap_on_literals
simple = refl

pub taken_by : {T : Type 0} (app : App) (words : List (List ℕ)) (m : T) → app ≡ command_line → (is_simple_and_free app ≡ true → FailsBy (fault_of app words) (Ok m)) → fault_of command_line words ≡ []
taken_by app words m same h = subst (λ (a : App). fault_of a words ≡ []) same (h (ap is_simple_and_free same ∙ free))

pub read_by : (app : App) (words : List (List ℕ)) (m : ArgMatches) → app ≡ command_line → HasMatchesOf app words m → rows_of (found_of m) ≡ matches_of command_line words
read_by app words m same h = subst (λ (a : App). rows_of (found_of m) ≡ matches_of a words) same (h (ap is_simple same ∙ simple)).0

pub refused_by : (app : App) (words : List (List ℕ)) (e : Error) → app ≡ command_line → (is_simple_and_free app ≡ true → HasKind (fault_of app words) e)
    → (kind_of e ≡ OutOfMemory) ⊎ IsAmong (kind_of e) (fault_of command_line words)
refused_by app words e same h = subst (λ (a : App). (kind_of e ≡ OutOfMemory) ⊎ IsAmong (kind_of e) (fault_of a words)) same (h (ap is_simple_and_free same ∙ free))

pub unread : (words : List (List ℕ)) (s : RunEnd) → fault_of command_line words ≡ [] → IsUnread (matches_of command_line words) s → IsRefused words s
unread words stop.Served taken h = absurd h
unread words (stop.Help text) taken h = absurd h
unread words (stop.Command text) taken h = inr (taken, h)
unread words (stop.World fault) taken h = absurd h
unread words (stop.Table fault) taken h = absurd h
unread words stop.File taken h = absurd h
unread words (stop.Serve fault) taken h = h

pub refused : (words : List (List ℕ)) (kind : ErrorKind) (s : RunEnd) → (kind ≡ OutOfMemory) ⊎ IsAmong kind (fault_of command_line words) → Refuses kind s → IsRefused words s
refused words kind stop.Served how h = absurd h
refused words kind (stop.Help text) (inl e) (inl f) = cc
refused words kind (stop.Help text) (inl e) (inr f) = cc
refused words kind (stop.Help text) (inr among) h = (kind, among, h)
refused words kind (stop.Command text) (inl e) h = absurd (h.1 e)
refused words kind (stop.Command text) (inr among) h = inl (kind, among, h)
refused words kind (stop.World fault) how h = absurd h
refused words kind (stop.Table fault) how h = absurd h
refused words kind stop.File how h = absurd h
refused words kind (stop.Serve fault) how h = h
