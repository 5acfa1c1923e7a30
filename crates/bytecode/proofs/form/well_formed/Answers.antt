-- `bytecode::form::well_formed` meets its contract: the bits gathered are 0 where every instruction passed is well formed.
use Rattle.std.proofs.Common.{◌≡◌, sym, refl, arith, ◌/◌, length}
use Rattle.general.specs.Lists.{all_below}
use Rattle.machine.specs.Form.{all_well_formed}
use Rattle.machine.proofs.Form.{not_all_below}
use Rattle.bytecode.proofs.Masks.{unknown-fails, too_far, gathered}
use Rattle.bytecode.proofs.form.well_formed.Goals as goal

pub loop-place-init : goal.loop-place-init
unfolding all_below
loop-place-init c = refl

pub returns-then-operation-gt17 : goal.returns-then-operation-gt17
unfolding all_well_formed
returns-then-operation-gt17 c = sym (not_all_below _ _ _ c.loop-place-test.true (unknown-fails _ _ _ c.if-operation-gt17.true))

pub returns-then-count-place : goal.returns-then-count-place
unfolding all_well_formed
returns-then-count-place c =
    let far = rw (c.reach_of.ensures, c.word_at-n.ensures) at c.if-count-place.true in
    sym (not_all_below _ _ _ c.loop-place-test.true (too_far _ c.type_inv.program _ _ c.loop-place-test.true (omega arith) far))

pub loop-place-preserved : goal.loop-place-preserved
loop-place-preserved c =
    let near = rw (c.reach_of.ensures, c.word_at-n.ensures) at c.if-count-place.false in
    rw (c.encoding_at.ensures, c.mask_of.ensures) (gathered _ c.type_inv.program _ _ c.loop-place-test.true (omega arith) c.loop-place.any c.loop-place.invariant near)

pub returns : goal.returns
unfolding all_well_formed
returns c =
    let e : c.loop-place.place ≡ length c.args.program.now / 8 = omega arith in
    rw e at c.loop-place.invariant
