use Rattle.std.proofs.Common.{arith, ap, sym, not, eq-eqb, ne_eqb, below_more}
use Rattle.search.specs.Searches.{found_of, is_waiting}
use Rattle.search.proofs.First.{none_first, some_first}
use Rattle.search.proofs.waiting.Goals as goal

pub loop-k-preserved : goal.loop-k-preserved
loop-k-preserved c =
    (omega arith, below_more _ _ c.loop-k.invariant.1 (ap not (eq-eqb _ 1 c.if-status-place-ne1.false)))

pub returns-then-count-k : goal.returns-then-count-k
returns-then-count-k c =
    sym (ap found_of (none_first (is_waiting c.args.order.now c.args.status.now) c.args.count (λ j l. c.loop-k.invariant.1 j (omega arith))))

pub returns-then-status-place-ne1 : goal.returns-then-status-place-ne1
returns-then-status-place-ne1 c =
    sym (ap found_of (some_first (is_waiting c.args.order.now c.args.status.now) c.args.count c.loop-k.k (omega arith) (ap not (ne_eqb _ 1 c.if-status-place-ne1.true)) c.loop-k.invariant.1))
