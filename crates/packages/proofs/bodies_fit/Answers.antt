use Rattle.std.proofs.Common.{◌+◌, arith}
use Rattle.general.proofs.Checks.{test-none, test-next}
use Rattle.packages.proofs.Entries.{counts-next, counts-small}
use Rattle.model.specs.Package.{count_before}
use Rattle.packages.proofs.bodies_fit.Goals as goal

pub loop-j-init : goal.loop-j-init
unfolding count_before
loop-j-init c = (test-none, omega arith)

pub overflow_add-body : goal.overflow_add-body
overflow_add-body c = omega (arith, counts-next c.args.bytes.now c.loop-j.j, counts-small c.args.bytes.now (λ i. omega (arith, c.type_inv.bytes i)) (c.loop-j.j + 1), c.loop-j.invariant.1)

pub loop-j-preserved : goal.loop-j-preserved
loop-j-preserved c =
    (test-next c.loop-j-test.true c.entry_fits-fits.ensures c.loop-j.invariant.0, omega (arith, counts-next c.args.bytes.now c.loop-j.j))
