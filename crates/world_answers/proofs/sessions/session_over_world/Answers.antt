use Rattle.std.proofs.Common.{◌≡◌, ◌∙◌, List, [], map, sym, ap, arith}
use Rattle.std.proofs.lemmas.Result.{IfOk-weaker}
use Rattle.gq_bindings.specs.Seen.{loader_of}
use Rattle.csv_source.specs.Tables.{SourceOf, source_of_all}
use Rattle.load_queue.specs.Loaders.{LoaderOf}
use Rattle.load_rounds.specs.Sessions.{SessionOf}
use Rattle.world_answers.specs.Sessions.{loaders_over, whichever, over_whichever}
use Rattle.world_answers.proofs.Loading.{built-more, built-all, quiet-over}
use Rattle.world_answers.proofs.sessions.session_over_world.Goals as goal

pub loop-number-preserved : goal.loop-number-preserved
loop-number-preserved c =
    let w = c.args.world.now in
    let none : SourceOf = source_of_all [] in
    record {
      lines = c.loop-number.invariant.lines;
      built = built-more w.limit loader_of c.loaders-line-items.result.now c.line-item.result w.bindings.loaders w.sources c.loop-number.number none c.loop-number.loaders.items c.push.new.self.items c.in_ok-loader_of.field-0 c.as_str.result.now
          c.loop-number.invariant.lines (sym c.loaders.ensures.sources ∙ c.loaders.ensures.bindings) c.loop-number-test.true c.line-item.is c.loop-number.invariant.built c.as_str.ensures.value (c.in_ok-loader_of.ensures none) c.in_ok-push.ensures.items;
    }

pub new-requires : goal.new-requires
new-requires c =
    let w = c.args.world.now in
    let all : map whichever c.loop-number.loaders.items ≡ loaders_over w.limit w.bindings.loaders w.sources =
    built-all w.limit loader_of c.loaders-line-items.result.now w.bindings.loaders w.sources c.loop-number.number c.loop-number.loaders.items c.loop-number.invariant.lines (sym c.loaders.ensures.sources ∙ c.loaders.ensures.bindings) (omega arith) c.loop-number.invariant.built in
    quiet-over w.limit w.bindings.loaders w.sources c.loop-number.loaders.items all

pub returns-clause-opened : goal.returns-clause-opened
returns-clause-opened c =
    let w = c.args.world.now in
    let all : map whichever c.loop-number.loaders.items ≡ loaders_over w.limit w.bindings.loaders w.sources =
    built-all w.limit loader_of c.loaders-line-items.result.now w.bindings.loaders w.sources c.loop-number.number c.loop-number.loaders.items c.loop-number.invariant.lines (sym c.loaders.ensures.sources ∙ c.loaders.ensures.bindings) (omega arith) c.loop-number.invariant.built in
    let with : List (LoaderOf SourceOf) → SessionOf SourceOf = λ ls. record { loaders = ls; pairs = []; rounds = 0 } in
    IfOk-weaker c.new.result _ _ (λ s is. ap over_whichever is ∙ ap with all) c.new.ensures

pub returns-clause-each : goal.returns-clause-each
returns-clause-each c = IfOk-weaker c.new.result _ _ (λ s is. sym c.loaders.ensures.sources ∙ c.loaders.ensures.bindings) c.new.ensures
