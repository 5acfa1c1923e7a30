-- `search::rank`: no change that the loop has passed is stamped below the timestamp.
use Rattle.std.proofs.Common.{◌≡◌}
use Rattle.search.specs.Searches.{rank_of}
use Rattle.search.proofs.rank.Given as goal

abbrev pub invariant-loop-k : goal.invariant-loop-k
invariant-loop-k l = rank_of l.order l.timestamps l.t l.k ≡ rank_of l.order l.timestamps l.t l.count
