-- the entries of the places before the index are put
use Rattle.text.proofs.Below.{Below}
use Rattle.package_parts.specs.Parts.{change_entry}
use Rattle.package_parts.proofs.put_changes.Given as goal

abbrev pub invariant-loop-place : goal.invariant-loop-place
invariant-loop-place l =
    Below (change_entry l.order l.timestamps l.lengths l.versions) 12 l.at l.count l.initial.bytes l.bytes l.end l.place-index
