use Rattle.std.proofs.Common.{◌≡◌, ◌&&◌, drop}
use Rattle.zeros.proofs.rest_zero.Given as goal

-- the rest is zeros where the bits of the elements before the index are 0 and the elements from it on are zeros
abbrev pub invariant-loop-x : goal.invariant-loop-x
invariant-loop-x g l = let t = g.T.Slot in (t.zero l.any && t.zeros (drop l.x-index l.x-items)) ≡ t.zeros (drop l.start l.s)
