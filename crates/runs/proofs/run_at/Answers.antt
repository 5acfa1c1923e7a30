-- One instruction is carried out, or the run has ended.
use Rattle.std.proofs.Common.{rules, ◌≡◌, arith}
use borrow.Author.Rules.{sfits_of}
use Rattle.machine.specs.Instruction.{instruction_at}
use Rattle.machine.specs.Run.{effect}
use Rattle.interpreter.proofs.Loop.{operands, performable, ready, asked, begins, ends, goes_on, has_ended}
use Rattle.values.specs.Values.{lists_of, values_as_of}
use Rattle.values.proofs.Known.{looked-none, looked-more}
use Rattle.runs.proofs.run_at.Goals as goal

pub loop-run-init : goal.loop-run-init
loop-run-init c = rw c.new-run.ensures (begins _ _ c.requires.0, looked-none c.requires.2.right)

pub effect-e-requires : goal.effect-e-requires
effect-e-requires c = rw c.instruction_at.ensures (operands _ c.requires.1 (omega arith))

pub perform-run-requires : goal.perform-run-requires
perform-run-requires c =
    let e : c.effect-e.result ≡ effect (instruction_at c.args.program.now c.loop-run.run.place) c.loop-run.run.registers = rw c.instruction_at.ensures at c.effect-e.ensures in
    (ready _ _ c.requires.0 c.loop-run.invariant.0 (omega arith), rw e (performable _ c.requires.1 (omega arith) c.requires.0 _))

pub returns-then-ne : goal.returns-then-ne
returns-then-ne c =
    let e : c.effect-e.result ≡ effect (instruction_at c.args.program.now c.loop-run.run.place) c.loop-run.run.registers = rw c.instruction_at.ensures at c.effect-e.ensures in
    let v = asked (values_as_of (lists_of c.args.history.now) c.args.k) c.effect-e.result c.wanted.result (sfits_of c.wanted_value-v.type_inv) c.wanted.ensures.number c.wanted_value-v.ensures.0 in
    (has_ended _ _ c.requires.0 c.loop-run.invariant.0 (omega arith) e v c.perform-run.ensures (search rules), looked-more c.loop-run.invariant.1 c.wanted_value-v.ensures.1)

pub loop-run-preserved : goal.loop-run-preserved
loop-run-preserved c =
    let e : c.effect-e.result ≡ effect (instruction_at c.args.program.now c.loop-run.run.place) c.loop-run.run.registers = rw c.instruction_at.ensures at c.effect-e.ensures in
    let v = asked (values_as_of (lists_of c.args.history.now) c.args.k) c.effect-e.result c.wanted.result (sfits_of c.wanted_value-v.type_inv) c.wanted.ensures.number c.wanted_value-v.ensures.0 in
    (goes_on _ _ c.requires.0 c.loop-run.invariant.0 (omega arith) e v c.perform-run.ensures (search rules), looked-more c.loop-run.invariant.1 c.wanted_value-v.ensures.1)

pub returns : goal.returns
returns c = (ends _ _ c.requires.0 c.loop-run.invariant.0 (omega arith), c.loop-run.invariant.1)
