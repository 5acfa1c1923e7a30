use Rattle.std.proofs.Common.{refl, ◌≡◌, ◌∙◌, ap, ℕ, ◌<◌, ◌≤◌, get_or, get_or-take, arith}
use Rattle.std.proofs.Math.Seq.{length-take-le}
use Rattle.package_parts.specs.Parts.{total_of}
use Rattle.package_parts.proofs.Totals.{total-next, total-small}
use Rattle.package_parts.proofs.total.Goals as goal

pub loop-place-init : goal.loop-place-init
unfolding total_of
loop-place-init c = refl

pub overflow_add-sum : goal.overflow_add-sum
overflow_add-sum c =
    let small : (i : ℕ) → get_or c.args.column.now i 0 ≤ 65535 = λ i. omega (arith, c.type_inv.column i) in
    let below : c.loop-place.place-index < c.args.count = omega (arith, length-take-le c.args.count c.args.order.now c.requires.1.long) in
    omega (arith, c.loop-place.invariant, total-small c.args.order.now c.args.column.now small c.loop-place.place-index, small c.from.result, c.requires.0)

pub loop-place-preserved : goal.loop-place-preserved
loop-place-preserved c =
    let order = c.args.order.now in
    let column = c.args.column.now in
    let k = c.loop-place.place-index in
    let below : k < c.args.count = omega (arith, length-take-le c.args.count c.args.order.now c.requires.1.long) in
    let number : c.from-sum.result ≡ get_or column (get_or order k 0) 0 = c.from-sum.ensures ∙ ap (λ (place : ℕ). get_or column place 0) (c.from.ensures ∙ get_or-take c.args.count order k 0 below) in
    omega (arith, c.loop-place.invariant, total-next order column k, number)
