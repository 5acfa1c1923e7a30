-- `turns_on_tables::turn_at`: what `turns::turn_at` ensures of the values and the uses that are made of the arrays, told of all the tables and of the arrays.
use mathlib.Core.Path.{◌≡◌}
use mathlib.Core.Bool.{true}
use Prim.Native.Nat.{◌+◌}
use Rattle.model.specs.Answers.{as_turn}
use Rattle.model.specs.Calls.{reply}
use Rattle.model.proofs.Form.{facts}
use Rattle.turns.specs.Turns.{turned, Going, Turnable}
use Rattle.turns_on_tables.specs.Arrays.{uses_in}
use Rattle.turns_on_tables.proofs.Arrays.{flagged, turnable_made, going_stored}
use Rattle.turns_on_tables.proofs.Whole.{lend, told}
use Rattle.turns_on_tables.proofs.turn_at.Goals as goal

pub held_count-requires : goal.held_count-requires
held_count-requires c = (facts c.requires.formed).sizes.held

pub turn_at-turn-requires : goal.turn_at-turn-requires
turn_at-turn-requires c =
    let a = c.args in
    let v = flagged c.known_flags.result a.before.now a.after.now in
    let u = uses_in a.readers.now a.writers.now a.settled.now in
    lend c.requires.formed c.held_count.ensures
    (λ T. Turnable a.noted a.k T v u)
    (turnable_made a.known.now c.known_flags.ensures c.requires)

pub returns : goal.returns
returns c =
    let a = c.args in
    let b = c.turn_at-turn.new in
    let v = flagged c.known_flags.result a.before.now a.after.now in
    let u = uses_in a.readers.now a.writers.now a.settled.now in
    let all =
    told c.requires.formed c.held_count.ensures
    (λ T. Turnable a.noted a.k T v u)
    (λ left T. (reply (as_turn c.turn_at-turn.result) left ≡ turned T) × (a.noted ≡ true → Going (a.k + 1) left b.values b.uses))
    c.turn_at-turn.ensures
    (turnable_made a.known.now c.known_flags.ensures c.requires) in
    (all.0, λ n. going_stored c.store_flags.new.known c.store_flags.ensures (all.1 n))
