-- `storing::put_slots` meets its contract: the slots up to here hold the list with zeros behind it. Assumes nothing.
use Rattle.std.proofs.Common.{◌≡◌, refl, arith}
use Rattle.std.proofs.lemmas.List.{get_or_read}
use Rattle.storing.proofs.Stores.{pasted-none, block-next, block-zero, block-end}
use Rattle.storing.proofs.put_slots.Goals as goal

pub loop-j-init : goal.loop-j-init
loop-j-init g c = pasted-none _ _ _

pub loop-j-preserved : goal.loop-j-preserved
loop-j-preserved g c = block-next c.requires c.loop-j.invariant refl c.loop-j-test.true (get_or_read c.args.list.now c.loop-j.j _ (omega (arith, c.requires.short, c.requires.long)) c.index-list-j.is _)

pub loop-j-2-init : goal.loop-j-2-init
loop-j-2-init g c = let e : c.loop-j.j ≡ c.args.count = omega arith in (c.requires.short, rw e at c.loop-j.invariant)

pub loop-j-2-preserved : goal.loop-j-2-preserved
loop-j-2-preserved g c = (omega (arith, c.requires.old-short), block-zero c.requires c.loop-j-2.invariant.1 refl (omega arith) c.loop-j-2-test.true c.ZERO.ensures)

pub returns : goal.returns
returns g c = block-end c.requires c.loop-j-2.invariant.1 (omega arith) (omega arith) c.loop-j-2.invariant.0
