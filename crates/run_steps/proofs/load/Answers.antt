-- `run_steps::load` meets its contract: each way out is a way of a load.
use Rattle.std.proofs.Common.{◌∙◌, sym, ap, pos, get_or, is_some, rules, arith, to_z-of_z, w32}
use mir.Val.{SFits}
use Rattle.run_record.specs.Record.{Sized}
use Rattle.run_steps.proofs.Steps.{in-reads, in-writes, load-of-none, load-of-written, load-back, load_again, load-first}
use Rattle.run_steps.proofs.load.Goals as goal

pub returns-in_default : goal.returns-in_default
returns-in_default c =
    rw (← to_z-of_z c.ranges.s, c.fault.ensures) (load-of-none _ _ _ c.requires.0 _ _ c.in_default.ensures.number (omega arith))

pub returns-then-run-eq0 : goal.returns-then-run-eq0
returns-then-run-eq0 c =
    let z : Sized c.args.lists.now = search in
    let own = in-writes c.requires.0 z c.first_place.ensures in
    rw (← to_z-of_z c.ranges.s, c.fault-then-run-eq0.ensures)
    (load-of-written _ _ _ c.requires.0 _ _ c.in-Some.ensures.number c.in-Some.ensures.below c.if-run-eq0.true (own.is-named (ap is_some c.in-Some-first_place.is)))

pub returns-in-Some-first_place : goal.returns-in-Some-first_place
returns-in-Some-first_place c =
    let z : Sized c.args.lists.now = search in
    let own = in-writes c.requires.0 z c.first_place.ensures in
    let f : SFits w32 (get_or c.args.lists.now.written c.in-Some-first_place.own (pos 0)) = search rules in
    rw (← to_z-of_z c.ranges.s, c.advance.ensures, c.assign.ensures)
    (load-back _ _ _ c.requires.0 _ _ c.in-Some.ensures.number c.in-Some.ensures.below c.if-run-eq0.false
    (own.is-named (ap is_some c.in-Some-first_place.is)) (own.value _ c.in-Some-first_place.is ∙ sym (to_z-of_z f)))

pub returns-then-is_some : goal.returns-then-is_some
returns-then-is_some c =
    let z : Sized c.args.lists.now = search in
    let own = in-writes c.requires.0 z c.first_place.ensures in
    let found = in-reads c.requires.0 z c.first_place-2.ensures in
    rw (← to_z-of_z c.ranges.s, ← to_z-of_z c.ranges.v, c.advance-then-is_some.ensures, c.assign-then-is_some.ensures)
    (load_again _ _ _ c.requires.0 _ _ c.in-Some.ensures.number c.in-Some.ensures.below
    (own.not_named (ap is_some c.in_default-first_place.is)) (found.is-named (sym c.is_some.ensures ∙ c.if-is_some.true)))

pub returns : goal.returns
returns c =
    let z : Sized c.args.lists.now = search in
    let own = in-writes c.requires.0 z c.first_place.ensures in
    let found = in-reads c.requires.0 z c.first_place-2.ensures in
    rw (← to_z-of_z c.ranges.s, ← to_z-of_z c.ranges.v, c.advance-2.ensures, c.assign-2.ensures, c.enter_read.ensures.0, c.enter_read.ensures.1)
    (load-first _ _ _ c.requires.0 _ _ c.in-Some.ensures.number z c.in-Some.ensures.below
    (own.not_named (ap is_some c.in_default-first_place.is)) (found.not_named (sym c.is_some.ensures ∙ c.if-is_some.false)))
