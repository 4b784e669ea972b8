-- The command that `clap` reads.
use Rattle.std.specs.Prelude.{Some, true, pos, codes}
use Rattle.clap.specs.Words.{App, Rule, new_app, new_rule, with_rule}
use Rattle.clap.specs.declared.builder.action.ArgAction.TheVariants.{Append, SetTrue}
use Rattle.clap.specs.declared.builder.value_parser.ValueParser.TheVariants as parser

abbrev pub schema_rule : Rule
schema_rule = record (new_rule (codes "schema"))
    { long = Some (codes "schema"); value_names = 1; required = true }

abbrev pub bindings_rule : Rule
bindings_rule = record (new_rule (codes "bindings"))
    { long = Some (codes "bindings"); value_names = 1; required = true }

abbrev pub workers_rule : Rule
workers_rule = record (new_rule (codes "workers")) {
  long = Some (codes "workers");
  value_names = 1;
  parser = Some (parser.Signed (pos 1) (pos 16));
}

abbrev pub max_batch_rule : Rule
max_batch_rule = record (new_rule (codes "max-batch")) {
  long = Some (codes "max-batch");
  value_names = 1;
  parser = Some (parser.Signed (pos 1) (pos 65535));
}

abbrev pub max_answer_rule : Rule
max_answer_rule = record (new_rule (codes "max-answer")) {
  long = Some (codes "max-answer");
  value_names = 1;
  parser = Some (parser.Signed (pos 1) (pos 4294967295));
}

abbrev pub max_work_rule : Rule
max_work_rule = record (new_rule (codes "max-work")) {
  long = Some (codes "max-work");
  value_names = 1;
  parser = Some (parser.Signed (pos 1) (pos 4294967295));
}

abbrev pub explain_rule : Rule
explain_rule =
    record (new_rule (codes "explain")) { long = Some (codes "explain"); action = Some SetTrue }

abbrev pub trace_rule : Rule
trace_rule = record (new_rule (codes "trace")) { long = Some (codes "trace"); value_names = 1 }

abbrev pub requests_rule : Rule
requests_rule = record (new_rule (codes "REQUESTS")) { required = true }

abbrev pub table_rule : Rule
table_rule = record (new_rule (codes "NAME=F")) { action = Some Append }

-- the program without its name, which tells its version
abbrev pub unnamed : App
unnamed = let a : App = new_app (codes "query_cli") in
    record a { top = record a.top { no_binary_name = true; has_version = true } }

-- the options that have a file of the world or a number
abbrev pub numbers : App
numbers =
    with_rule (with_rule (with_rule (with_rule (with_rule (with_rule unnamed schema_rule)
    bindings_rule) workers_rule) max_batch_rule) max_answer_rule) max_work_rule

-- all options
abbrev pub options : App
options = with_rule (with_rule numbers explain_rule) trace_rule

-- two files, four numbers, a flag and a file of a trace if wanted, a file of requests, and any number of tables
abbrev pub command_line : App
command_line = with_rule (with_rule options requests_rule) table_rule
