-- One byte more is copied.
use Rattle.std.proofs.Common.{◌≡◌, ◌∙◌, ap, List, ◌++◌, ℕ, ◌+◌, set, get_or, length, take, drop, arith}
use Rattle.std.proofs.Math.Numerals.{add-one}
use Rattle.std.proofs.Math.Seq.{paste, paste-zero, paste-suc, take-length}
use Rattle.taking.proofs.copy_in.Goals as goal

pub loop-i-init : goal.loop-i-init
loop-i-init c = paste-zero c.args.destination.now c.args.at c.args.source.now

pub loop-i-preserved : goal.loop-i-preserved
loop-i-preserved c =
    ap (λ (d : List ℕ). set d (c.args.at + c.loop-i.i) (get_or c.args.source.now c.loop-i.i 0)) c.loop-i.invariant
    ∙ paste-suc c.args.destination.now c.args.at c.args.source.now c.loop-i.i 0 (omega arith) (omega arith)
    ∙ rw (add-one c.loop-i.i)

pub returns : goal.returns
returns c =
    let e : c.loop-i.i ≡ length c.args.source.now = omega arith in
    c.loop-i.invariant
    ∙ ap (paste c.args.destination.now c.args.at c.args.source.now) e
    ∙ ap (λ (s : List ℕ). take c.args.at c.args.destination.now ++ s ++ drop (c.args.at + length c.args.source.now) c.args.destination.now) (take-length c.args.source.now)
