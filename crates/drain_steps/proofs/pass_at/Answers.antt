-- Passed over where the change is Valid, a turn where it is not.
use Rattle.std.proofs.Common.{inr, refl, arith}
use Rattle.drain_steps.proofs.Steps.{pass-slots, pass-carries, pass-valid, pass-turn}
use Rattle.drain_steps.proofs.pass_at.Goals as goal

pub offset_bounds-order-k : goal.offset_bounds-order-k
offset_bounds-order-k c = let z = pass-slots c.requires.0 c.requires.1.so in omega (arith, z.position, z.few)

pub bounds-order-k : goal.bounds-order-k
bounds-order-k c = (pass-slots c.requires.0 c.requires.1.so).order

pub bounds-status-place : goal.bounds-status-place
bounds-status-place c = (pass-slots c.requires.0 c.requires.1.so).status

pub carry_place-requires : goal.carry_place-requires
carry_place-requires c = pass-carries c.requires.0 c.requires.1.so

pub returns-then-valid : goal.returns-then-valid
returns-then-valid c T g = pass-valid c.requires.0 g c.if-valid.true c.carry_place.ensures

pub turn_at-requires : goal.turn_at-requires
turn_at-requires c = record { others = c.requires.1.others; so = pass-turn c.requires.0 c.requires.1.so c.if-valid.false }

pub returns : goal.returns
returns c T g =
    let o = c.turn_at.ensures T (pass-turn c.requires.0 g c.if-valid.false) in
    (inr o.0, o.1 refl)
