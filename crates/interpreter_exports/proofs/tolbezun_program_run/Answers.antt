-- `interpreter_exports::tolbezun_program_run` meets its contract: a refusal is reported, and else what the run leaves is copied.
use Rattle.std.proofs.Common.{rules}
use Rattle.run_record.specs.Record.{lists, Sized}
use Rattle.interpreter_exports.proofs.Reports.{refused, runnable, ran}
use Rattle.interpreter_exports.proofs.tolbezun_program_run.Goals as goal

pub returns-then-refusal-ne0 : goal.returns-then-refusal-ne0
returns-then-refusal-ne0 c =
    refused _ c.args.values.now (lists c.args.sources.now c.args.seen.now c.args.targets.now c.args.written.now) c.run_refusal-refusal.ensures c.if-refusal-ne0.true c.refused_number.ensures

pub run_program-run-requires : goal.run_program-run-requires
run_program-run-requires c =
    let h = runnable _ c.args.values.now (lists c.args.sources.now c.args.seen.now c.args.targets.now c.args.written.now) c.run_refusal-refusal.ensures c.if-refusal-ne0.false in
    (h.1, h.2)

pub returns : goal.returns
returns c =
    let z : Sized c.run_program-run.new.lists = search rules in
    ran _ c.args.values.now (lists c.args.sources.now c.args.seen.now c.args.targets.now c.args.written.now) c.run_refusal-refusal.ensures c.if-refusal-ne0.false c.run_program-run.ensures z
    c.copy_first.ensures c.copy_first-2.ensures c.copy_first-3.ensures c.copy_first-4.ensures c.number_of.ensures
