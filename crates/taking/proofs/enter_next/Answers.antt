use Rattle.std.proofs.Common.{◌∙◌, ap, List, ℕ, set, arith}
use Rattle.taking.proofs.Steps.{entered-moved}
use Rattle.taking.proofs.enter_next.Goals as goal

pub returns : goal.returns
returns c =
    ap (λ (order : List ℕ). set order c.args.position c.args.count) c.copy_within.ensures.after
    ∙ entered-moved c.args.count c.args.position c.args.order.now (omega arith) (omega arith)
