-- One value more is set; after 1,024 turns all are.
use Rattle.std.proofs.Common.{◌≡◌, ◌∙◌, ap, List, ℤ, pos, set, get_or, length, arith, rules, w32, to_z, of_z}
use Rattle.std.proofs.Math.Seq.{paste, paste-zero}
use Rattle.fresh.proofs.Filled.{paste-next, paste-all}
use Rattle.fresh.proofs.fill_from.Goals as goal

pub loop-i-init : goal.loop-i-init
loop-i-init c = paste-zero c.args.values.now 0 c.args.from.now

pub loop-i-preserved : goal.loop-i-preserved
loop-i-preserved c =
    let read_back : to_z w32 (of_z w32 (get_or c.args.from.now c.loop-i.i (pos 0))) ≡ get_or c.args.from.now c.loop-i.i (pos 0) = search rules in
    rw read_back
    (ap (λ (v : List ℤ). set v c.loop-i.i (get_or c.args.from.now c.loop-i.i (pos 0))) c.loop-i.invariant
    ∙ paste-next c.args.from.now c.args.values.now c.loop-i.i (omega arith) (omega arith))

pub returns : goal.returns
returns c =
    let e : c.loop-i.i ≡ length c.args.from.now = omega arith in
    c.loop-i.invariant
    ∙ ap (paste c.args.values.now 0 c.args.from.now) e
    ∙ paste-all c.args.from.now c.args.values.now (omega arith)
