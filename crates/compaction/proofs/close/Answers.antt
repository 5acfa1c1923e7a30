-- `compaction::close` meets its contract: the places that are passed are closed up. Assumes nothing.
use Rattle.std.proofs.Common.{◌≡◌, ◌*◌, ◌<◌, ◌≤◌, arith, rules, length, get_or-take, length-take}
use Rattle.compaction.proofs.Moves.{close-end, close-next, close-last}
use Rattle.compaction.proofs.close.Goals as goal

pub loop-j-preserved : goal.loop-j-preserved
loop-j-preserved g c =
    let h : c.loop-j.j < c.args.count = omega (arith, length-take c.args.count c.args.places.now) in
    close-next c.requires h c.loop-j.invariant c.copy_within.ensures.len (rw (get_or-take c.args.count c.args.places.now c.loop-j.j 0 h) at c.copy_within.ensures.after)

within : goal.slice_bounds-clear-count
within g c = omega (arith, close-end c.requires, c.loop-j.invariant.same)

pub overflow_mul-width-2 : goal.overflow_mul-width-2
overflow_mul-width-2 g c = omega (arith, close-end c.requires, c.loop-j.invariant.same)

pub offset_bounds-table-width : goal.offset_bounds-table-width
offset_bounds-table-width g c = let h : c.args.width * c.args.count ≤ length c.loop-j.table = within g c in search rules

pub slice_bounds-clear-count : goal.slice_bounds-clear-count
slice_bounds-clear-count g c = within g c

pub slice_bounds-clear-start : goal.slice_bounds-clear-start
slice_bounds-clear-start g c = let h : c.args.width * c.args.count ≤ length c.loop-j.table = within g c in search rules

pub returns : goal.returns
returns g c =
    let e : c.loop-j.j ≡ c.args.count = omega (arith, length-take c.args.count c.args.places.now, c.requires.long) in
    close-last c.requires g.T.Slot.ZERO (rw e at c.loop-j.invariant) c.clear.ensures
