-- An outcome for each return.
use Rattle.std.proofs.Common.{◌≡◌, refl, rules, arith}
use Rattle.acts.specs.declared.Act.TheVariants as act
use Rattle.turns.proofs.Steps.{turn-slots, decision, turn-carries, turn-stands, uses-notable, lists-replaceable, turn-moves}
use Rattle.turns.proofs.turn_at.Goals as goal

pub offset_bounds-order-k : goal.offset_bounds-order-k
offset_bounds-order-k c = let z = turn-slots c.requires.so in omega (arith, z.position, z.few)

pub bounds-order-k : goal.bounds-order-k
bounds-order-k c = (turn-slots c.requires.so).order

pub bounds-timestamps-place : goal.bounds-timestamps-place
bounds-timestamps-place c = (turn-slots c.requires.so).timestamps

pub bounds-versions-place : goal.bounds-versions-place
bounds-versions-place c = (turn-slots c.requires.so).versions

pub decide-act-requires : goal.decide-act-requires
decide-act-requires c = decision c.requires.so

pub carry_place-requires : goal.carry_place-requires
carry_place-requires c = turn-carries c.requires.so

pub bounds-status-place : goal.bounds-status-place
bounds-status-place c = (turn-slots c.requires.so).status

pub returns-then-stands : goal.returns-then-stands
returns-then-stands c T t =
    let e : c.decide-act.result ≡ act.Stand = search rules in
    turn-stands t c.decide-act.ensures e refl c.carry_place.ensures refl

pub overflow_add-k : goal.overflow_add-k
overflow_add-k c = let z = turn-slots c.requires.so in omega (arith, z.position, z.few)

pub note-requires : goal.note-requires
note-requires c = uses-notable c.requires.so c.decide-act.ensures

pub replace-run-requires : goal.replace-run-requires
replace-run-requires c =
    let n : c.decide-act.result ≡ act.Stand → ⊥ = search rules in
    (n, lists-replaceable c.requires.so c.decide-act.ensures c.note.ensures)

pub bounds-status-place-2 : goal.bounds-status-place-2
bounds-status-place-2 c = omega (arith, (turn-slots c.requires.so).status, c.replace-run.auto)

pub returns : goal.returns
returns c T t =
    let n : c.decide-act.result ≡ act.Stand → ⊥ = search rules in
    turn-moves t c.decide-act.ensures c.note.ensures n refl refl c.replace-run.ensures refl c.answer_of.ensures
