-- the entries of the places before the index are put
use Rattle.text.proofs.Below.{Below}
use Rattle.package_parts.specs.Parts.{withdrawal_entry}
use Rattle.package_parts.proofs.put_withdrawals.Given as goal

abbrev pub invariant-loop-place : goal.invariant-loop-place
invariant-loop-place l =
    Below (withdrawal_entry l.order l.timestamps l.withdrawn) 12 l.at l.count l.initial.bytes l.bytes l.end l.place-index
