-- `search::rank`: a change that is stamped below the timestamp, or the next one down.
use Rattle.std.proofs.Common.{◌≡◌, ◌∙◌, arith}
use Rattle.search.specs.Searches.{rank_of}
use Rattle.search.proofs.Steps.{rank-here, rank-lower}
use Rattle.search.proofs.rank.Goals as goal

pub returns-then-timestamps-place : goal.returns-then-timestamps-place
returns-then-timestamps-place c = let here = rank-here _ _ c.args.t c.loop-k.k (omega arith) c.if-timestamps-place.true ∙ c.loop-k.invariant in omega (arith, here)

pub loop-k-preserved : goal.loop-k-preserved
loop-k-preserved c = rank-lower _ _ c.args.t c.loop-k.k (omega arith) c.if-timestamps-place.false ∙ c.loop-k.invariant

pub returns : goal.returns
unfolding rank_of
returns c = let e : c.loop-k.k ≡ 0 = omega arith in rw e at c.loop-k.invariant
