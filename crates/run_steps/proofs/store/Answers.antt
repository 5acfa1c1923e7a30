-- `run_steps::store` meets its contract: each way out is a way of a store.
use Rattle.std.proofs.Common.{ap, is_some, arith, to_z-of_z}
use Rattle.run_record.specs.Record.{Sized}
use Rattle.run_steps.proofs.Steps.{in-writes, store-to-none, store-again, store-over, store-first}
use Rattle.run_steps.proofs.store.Goals as goal

pub returns-in_default : goal.returns-in_default
returns-in_default c =
    λ env. rw (← to_z-of_z c.ranges.s, c.fault.ensures) (store-to-none _ _ _ c.requires _ _ c.in_default.ensures.number (omega arith))

pub returns-then-run-eq0 : goal.returns-then-run-eq0
returns-then-run-eq0 c =
    let z : Sized c.args.lists.now = search in
    let own = in-writes c.requires z c.first_place.ensures in
    λ env. rw (← to_z-of_z c.ranges.s, c.fault-then-run-eq0.ensures)
    (store-again _ _ _ c.requires _ _ c.in-Some.ensures.number c.in-Some.ensures.below c.if-run-eq0.true (own.is-named (ap is_some c.in-Some-first_place.is)))

pub returns-in-Some-first_place : goal.returns-in-Some-first_place
returns-in-Some-first_place c =
    let z : Sized c.args.lists.now = search in
    let own = in-writes c.requires z c.first_place.ensures in
    λ env. rw (← to_z-of_z c.ranges.s, to_z-of_z c.ranges.v, c.advance.ensures)
    (store-over _ _ _ c.requires _ _ c.in-Some.ensures.number _ c.in-Some.ensures.below c.if-run-eq0.false (own.is-named (ap is_some c.in-Some-first_place.is)) (own.replaced _ _ c.in-Some-first_place.is))

pub returns : goal.returns
returns c =
    let z : Sized c.args.lists.now = search in
    let own = in-writes c.requires z c.first_place.ensures in
    λ env. rw (← to_z-of_z c.ranges.s, ← to_z-of_z c.ranges.v, c.advance-2.ensures, c.enter_write.ensures.0, c.enter_write.ensures.1)
    (store-first _ _ _ c.requires _ _ c.in-Some.ensures.number z c.in-Some.ensures.below (own.not_named (ap is_some c.in_default-first_place.is)))
