-- `writers::previous_write`: a change that writes the setting, or the next one down.
use Rattle.std.proofs.Common.{◌≡◌, ap, ◌∙◌, arith}
use Rattle.search.specs.Searches.{found_of}
use Rattle.writers.specs.Writers.{previous_write}
use Rattle.writers.proofs.Steps.{previous-here, previous-lower}
use Rattle.writers.proofs.previous_write.Goals as goal

pub returns-then-is_some : goal.returns-then-is_some
returns-then-is_some c = previous-here _ _ _ _ _ c.loop-k.k (omega arith) c.written_at-found.ensures (rw (← c.is_some.ensures) c.if-is_some.true) ∙ ap found_of c.loop-k.invariant

pub loop-k-preserved : goal.loop-k-preserved
loop-k-preserved c = previous-lower _ _ _ _ _ c.loop-k.k (omega arith) c.written_at-found.ensures (rw (← c.is_some.ensures) c.if-is_some.false) ∙ c.loop-k.invariant

pub returns : goal.returns
unfolding previous_write
returns c = let e : c.loop-k.k ≡ 0 = omega arith in ap found_of (rw e at c.loop-k.invariant)
