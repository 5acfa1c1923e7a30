-- The order list with a place entered: the entries from its position on are moved up by one, and it stands there.
use Rattle.std.proofs.Common.{◌≡◌, ◌∙◌, sym, ap, List, ◌∷◌, ◌++◌, ℕ, suc, ◌+◌, ◌-◌, ◌<◌, ◌≤◌, length, set, take, drop, append_assoc, add-one, arith}
use Rattle.std.proofs.Math.Seq.{length-take-le, append_snoc, set-append_left, take-set-lt, take-suc-set, slice}
use Rattle.std.specs.List.{copy_within}
use Rattle.std.proofs.lemmas.Slice.{between_is}
use Rattle.taking.specs.Taking.{entered}

-- the last of the first entries overwritten
entry-over : (k v : ℕ) (order rest : List ℕ) → k < length order → set (take (suc k) order ++ rest) k v ≡ take k order ++ (v ∷ rest)
entry-over k v order rest h =
    set-append_left (take (suc k) order) rest k v (omega (arith, length-take-le (suc k) order h))
    ∙ ap (◌++ rest) (sym (take-set-lt (suc k) order k v (omega arith)) ∙ take-suc-set order k v h)
    ∙ append_snoc (take k order) v rest

pub entered-moved : (count position : ℕ) (order : List ℕ) → position ≤ count → count < length order → set (copy_within order position count (position + 1)) position count ≡ entered count position order
entered-moved count position order h q =
    let behind : position + 1 + (count - position) ≡ count + 1 = omega arith in
    rw (behind, append_assoc, add-one position, between_is order position count) (entry-over position count order (slice position count order ++ drop (count + 1) order) (omega arith))
