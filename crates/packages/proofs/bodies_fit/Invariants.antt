-- the entries passed are tested, and the body of the next begins where theirs end
use Rattle.std.proofs.Common.{◌≡◌, ◌+◌, ◌*◌}
use Rattle.general.proofs.Checks.{Tested}
use Rattle.model.specs.Package.{entry_at, entry_fits, count_before}
use Rattle.packages.proofs.bodies_fit.Given as goal

abbrev pub invariant-loop-j : goal.invariant-loop-j
invariant-loop-j l =
    Tested (entry_fits l.bytes) l.count l.j l.fits × (l.body ≡ entry_at l.count + 8 * count_before l.bytes l.j)
