-- the bodies of the places before the index are put
use Rattle.text.proofs.Below.{Below}
use Rattle.package_parts.specs.Parts.{body_in}
use Rattle.package_parts.proofs.put_bodies.Given as goal

abbrev pub invariant-loop-place : goal.invariant-loop-place
invariant-loop-place l =
    Below (body_in l.order l.lengths l.programs) 256 l.at l.count l.initial.bytes l.bytes l.end l.place-index
