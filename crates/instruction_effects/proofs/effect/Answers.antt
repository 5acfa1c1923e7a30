-- `instruction_effects::effect` meets its contract: a range of operations has one form of effect.
use Rattle.std.proofs.Common.{◌∙◌, sym, ap, rules, arith, w32, to_z-of_z}
use borrow.Author.Rules.{sfits_of}
use mir.Val.{SFits}
use Rattle.machine.specs.declared.Effect.TheVariants.{Assign, Skip}
use Rattle.machine.specs.Run.{register_in, effect}
use Rattle.instruction_effects.specs.Effects.{result_of, distance_of}
use Rattle.bytecode.proofs.Numbers.{read_back}
use Rattle.instruction_effects.proofs.Effects.{effect-assigns, effect-loads, effect-stores, effect-skips}
use Rattle.instruction_effects.proofs.effect.Goals as goal

pub returns-then-k-eq0 : goal.returns-then-k-eq0
unfolding effect
returns-then-k-eq0 c = rw c.if-k-eq0.true

pub returns-then-k-lt11 : goal.returns-then-k-lt11
returns-then-k-lt11 c =
    let n : SFits w32 c.args.i.n = search rules in
    let x : SFits w32 (register_in c.args.run.registers c.args.i.b) = search rules in
    let y : SFits w32 (register_in c.args.run.registers c.args.i.c) = search rules in
    ap (Assign c.args.i.a) (read_back (result_of c.args.i.operation) n x y (sfits_of c.result.type_inv) c.result.ensures)
    ∙ sym (effect-assigns c.args.i c.args.run.registers (omega arith) (omega arith))

pub returns-then-k-lt13 : goal.returns-then-k-lt13
returns-then-k-lt13 c =
    let n : SFits w32 c.args.i.n = search rules in
    let x : SFits w32 (register_in c.args.run.registers c.args.i.b) = search rules in
    rw (to_z-of_z (sfits_of c.pick.type_inv), c.pick.ensures, to_z-of_z x, to_z-of_z n) (sym (effect-loads _ _ (omega arith) (omega arith)))

pub returns-then-k-lt15 : goal.returns-then-k-lt15
returns-then-k-lt15 c =
    let n : SFits w32 c.args.i.n = search rules in
    let x : SFits w32 (register_in c.args.run.registers c.args.i.b) = search rules in
    let z : SFits w32 (register_in c.args.run.registers c.args.i.a) = search rules in
    rw (to_z-of_z {w = w32} {z = c.pick-then-k-lt15.result} (sfits_of c.pick-then-k-lt15.type_inv), c.pick-then-k-lt15.ensures, to_z-of_z x, to_z-of_z n, to_z-of_z z)
    (sym (effect-stores _ _ (omega arith) (omega arith)))

pub returns : goal.returns
returns c =
    let n : SFits w32 c.args.i.n = search rules in
    let x : SFits w32 (register_in c.args.run.registers c.args.i.b) = search rules in
    ap Skip (read_back (λ n x y. distance_of c.args.i.operation n x) n x x (sfits_of c.distance.type_inv) c.distance.ensures)
    ∙ sym (effect-skips c.args.i c.args.run.registers (omega arith) (omega arith))
