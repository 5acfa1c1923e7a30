-- the places before the index are summed
use Rattle.std.proofs.Common.{◌≡◌}
use Rattle.package_parts.specs.Parts.{total_of}
use Rattle.package_parts.proofs.total.Given as goal

abbrev pub invariant-loop-place : goal.invariant-loop-place
invariant-loop-place l = l.sum ≡ total_of l.order l.column l.place-index
