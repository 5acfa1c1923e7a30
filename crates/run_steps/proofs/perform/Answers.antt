-- `run_steps::perform` meets its contract, one way out for each effect.
use Rattle.std.proofs.Common.{◌≡◌, ◌∙◌, ◌-◌, true, arith, rules, w32, to_z-of_z}
use mir.Val.{SFits}
use Rattle.machine.specs.Form.{is_below}
use Rattle.bytecode.proofs.Bounds.{distance-below}
use Rattle.bytecode.proofs.Numbers.{below-limit}
use Rattle.run_steps.proofs.Steps.{halts, assigns, skips}
use Rattle.run_steps.proofs.perform.Goals as goal

pub returns-in-Halt : goal.returns-in-Halt
returns-in-Halt c = rw (c.in-Halt.is, c.stop.ensures) (halts _ _ _ c.requires.0)

pub returns-in-Assign : goal.returns-in-Assign
returns-in-Assign c =
    let f : SFits w32 c.in-Assign.x = search rules in
    rw (c.in-Assign.is, ← to_z-of_z f, c.advance.ensures, c.assign.ensures) (assigns _ _ _ c.requires.0 _ _)

pub returns-in-Store : goal.returns-in-Store
returns-in-Store c =
    let f : SFits w32 c.in-Store.s = search rules in
    let g : SFits w32 c.in-Store.x = search rules in
    rw (c.in-Store.is, ← to_z-of_z f, ← to_z-of_z g) (c.store.ensures _)

pub returns-in-Skip : goal.returns-in-Skip
returns-in-Skip c =
    let f : SFits w32 c.in-Skip.n = search rules in
    let within : is_below c.in-Skip.n (32 - c.args.run.place) ≡ true = distance-below c.in-Skip.n _ 32 ∙ (rw c.in-Skip.is at c.requires.1) in
    rw (c.in-Skip.is, c.advance-in-Skip.ensures, to_z-of_z f)
    (skips _ _ _ c.requires.0 _ (omega (arith, below-limit c.in-Skip.n (32 - c.args.run.place) within)))
