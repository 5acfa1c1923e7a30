use Rattle.std.proofs.Common.{◌≡◌, ◌∙◌, ap, ℕ, ◌+◌, ◌<◌, get_or, get_or-take, arith}
use Rattle.std.proofs.Math.Seq.{length-take-le}
use Rattle.text.proofs.Pieces.{put_as}
use Rattle.text.proofs.Below.{below_none, below_next}
use Rattle.package_entries.specs.Entries.{withdrawal_bytes}
use Rattle.package_parts.proofs.Totals.{total-within}
use Rattle.package_parts.proofs.Lengths.{withdrawal-length, withdrawals-length}
use Rattle.package_parts.proofs.put_withdrawals.Goals as goal

pub loop-place-init : goal.loop-place-init
loop-place-init c = below_none _ _ _ _ _

pub put_withdrawal-end-requires : goal.put_withdrawal-end-requires
put_withdrawal-end-requires c =
    let a = c.args in
    let k = c.loop-place.place-index in
    let below : k < a.count = omega (arith, length-take-le c.args.count c.args.order.now c.requires.0.long) in
    let place : c.from-place.result ≡ get_or a.order.now k 0 = c.from-place.ensures ∙ get_or-take a.count a.order.now k 0 below in
    let flag = ap (λ (i : ℕ). get_or a.withdrawn.now i 0) place in
    let ends = c.loop-place.invariant.put.ends ∙ ap (λ (n : ℕ). a.at + n) (withdrawals-length a.order.now a.timestamps.now a.withdrawn.now c.requires.2 k) in
    omega (arith, ends, flag, total-within a.order.now a.withdrawn.now k a.count below, c.requires.3, c.loop-place.invariant.same)

pub loop-place-preserved : goal.loop-place-preserved
loop-place-preserved c =
    let a = c.args in
    let k = c.loop-place.place-index in
    let below : k < a.count = omega (arith, length-take-le c.args.count c.args.order.now c.requires.0.long) in
    let place : c.from-place.result ≡ get_or a.order.now k 0 = c.from-place.ensures ∙ get_or-take a.count a.order.now k 0 below in
    let entry = ap (λ (i : ℕ). withdrawal_bytes (get_or a.withdrawn.now i 0) (get_or a.timestamps.now i 0)) place in
    let short = c.requires.2.each c.from-place.result in
    let long = withdrawal-length (get_or a.withdrawn.now c.from-place.result 0) (get_or a.timestamps.now c.from-place.result 0) short in
    below_next c.loop-place.invariant below (omega (arith, c.requires.3)) (put_as c.put_withdrawal-end.ensures entry) (omega (arith, c.put_withdrawal-end.ensures.ends, long, short)) (omega (arith, c.put_withdrawal-end.auto))
