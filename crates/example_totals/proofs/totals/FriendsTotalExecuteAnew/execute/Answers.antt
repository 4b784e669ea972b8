use Rattle.std.proofs.Common.{ap, string_bytes}
use Rattle.load_rounds.specs.Calls.{reader_of}
use Rattle.example_totals.specs.Totals.{total_of_friends}
use Rattle.example_totals.specs.Found.{found_of}
use Rattle.example_totals.proofs.Finding.{answers-lacking, answers-number, answers-fault}
use Rattle.example_totals.proofs.Loading.{total-nullable, total-within}
use Rattle.example_totals.proofs.totals.FriendsTotalExecuteAnew.execute.Goals as goal

-- ---- what it answers

pub returns-in-Missing-clause-executed : goal.returns-in-Missing-clause-executed
returns-in-Missing-clause-executed c =
    let customer = string_bytes c.args.self.now.customer in
    answers-lacking (total_of_friends customer) c.args.memory.now c.args.wants.now c.find_total.new.wants c.in_ok-total.total (total-nullable (reader_of c.args.memory.now) customer) c.in_ok-total.ensures (ap found_of c.in-Missing.is) c.requires.can.lined_up

pub returns-in_ok-text-in-Number-clause-executed : goal.returns-in_ok-text-in-Number-clause-executed
returns-in_ok-text-in-Number-clause-executed c =
    let customer = string_bytes c.args.self.now.customer in
    answers-number (total_of_friends customer) c.args.memory.now c.args.wants.now c.find_total.new.wants c.in_ok-total.total (total-nullable (reader_of c.args.memory.now) customer) c.in_ok-total.ensures c.in-Number.sum c.in_ok-text-in-Number.text (ap found_of c.in-Number.is) c.in_ok-text-in-Number.ensures.ok

pub returns-in_ok-text-in-Fault-clause-executed : goal.returns-in_ok-text-in-Fault-clause-executed
returns-in_ok-text-in-Fault-clause-executed c =
    let customer = string_bytes c.args.self.now.customer in
    answers-fault (total_of_friends customer) c.args.memory.now c.args.wants.now c.find_total.new.wants c.in_ok-total.total (total-nullable (reader_of c.args.memory.now) customer) c.in_ok-total.ensures c.in-Fault.text.now c.in_ok-text-in-Fault.text (ap found_of c.in-Fault.is) c.in_ok-text-in-Fault.ensures.ok

-- ---- it asks two loaders

pub returns-in_err-total-clause-within : goal.returns-in_err-total-clause-within
returns-in_err-total-clause-within c = total-within (string_bytes c.args.self.now.customer)

pub returns-in_err-text-in-Number-clause-within : goal.returns-in_err-text-in-Number-clause-within
returns-in_err-text-in-Number-clause-within c = total-within (string_bytes c.args.self.now.customer)

pub returns-in_err-text-in-Fault-clause-within : goal.returns-in_err-text-in-Fault-clause-within
returns-in_err-text-in-Fault-clause-within c = total-within (string_bytes c.args.self.now.customer)

pub returns-in-Missing-clause-within : goal.returns-in-Missing-clause-within
returns-in-Missing-clause-within c = total-within (string_bytes c.args.self.now.customer)

pub returns-in_ok-text-in-Number-clause-within : goal.returns-in_ok-text-in-Number-clause-within
returns-in_ok-text-in-Number-clause-within c = total-within (string_bytes c.args.self.now.customer)

pub returns-in_ok-text-in-Fault-clause-within : goal.returns-in_ok-text-in-Fault-clause-within
returns-in_ok-text-in-Fault-clause-within c = total-within (string_bytes c.args.self.now.customer)
