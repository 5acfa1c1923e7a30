use Rattle.std.proofs.Common.{◌≡◌, ◌∙◌, ap, ℕ, List, ◌+◌, ◌-◌, ◌*◌, ◌<◌, length, get_or, take, drop, get_or-take, arith}
use Rattle.std.proofs.Math.Seq.{length-take-le}
use Rattle.general.proofs.Parts.{used-part}
use Rattle.text.proofs.Pieces.{put_as}
use Rattle.text.proofs.Below.{below_none, below_next}
use Rattle.package_parts.specs.Parts.{body_in}
use Rattle.package_parts.proofs.Totals.{total-within}
use Rattle.package_parts.proofs.Lengths.{body-length, bodies-length}
use Rattle.package_parts.proofs.put_bodies.Goals as goal

-- the part of the programs that is put is the body of the change
body_is : (order lengths programs : List ℕ) (k : ℕ) {place count : ℕ} → place ≡ get_or order k 0 → count ≡ get_or lengths place 0 → take (256 * place + 8 * count - 256 * place) (drop (256 * place) programs) ≡ body_in order lengths programs k
body_is order lengths programs k {place} {count} p n =
    used-part 256 place (8 * count) programs
    ∙ ap (λ (m : ℕ). take (8 * m) (drop (256 * place) programs)) n
    ∙ ap (λ (i : ℕ). take (8 * get_or lengths i 0) (drop (256 * i) programs)) p

pub loop-place-init : goal.loop-place-init
loop-place-init c = below_none _ _ _ _ _

pub put-end-requires : goal.put-end-requires
put-end-requires c =
    let a = c.args in
    let k = c.loop-place.place-index in
    let below : k < a.count = omega (arith, length-take-le c.args.count c.args.order.now c.requires.0.long) in
    let place : c.from-place.result ≡ get_or a.order.now k 0 = c.from-place.ensures ∙ get_or-take a.count a.order.now k 0 below in
    let body = body_is a.order.now a.lengths.now a.programs.now k place c.from.ensures in
    let long = body-length a.order.now a.lengths.now a.programs.now c.requires.2 c.requires.1 k (c.requires.0.below k below) in
    let ends = c.loop-place.invariant.put.ends ∙ ap (λ (n : ℕ). a.at + n) (bodies-length a.order.now a.lengths.now a.programs.now c.requires.2 c.requires.1 a.count c.requires.0 k c.loop-place.invariant.within) in
    omega (arith, ap (length {A = ℕ}) body, long, ends, total-within a.order.now a.lengths.now k a.count below, c.requires.3, c.loop-place.invariant.same)

pub loop-place-preserved : goal.loop-place-preserved
loop-place-preserved c =
    let a = c.args in
    let k = c.loop-place.place-index in
    let below : k < a.count = omega (arith, length-take-le c.args.count c.args.order.now c.requires.0.long) in
    let place : c.from-place.result ≡ get_or a.order.now k 0 = c.from-place.ensures ∙ get_or-take a.count a.order.now k 0 below in
    let put = put_as c.put-end.ensures (body_is a.order.now a.lengths.now a.programs.now k place c.from.ensures) in
    let long = body-length a.order.now a.lengths.now a.programs.now c.requires.2 c.requires.1 k (c.requires.0.below k below) in
    below_next c.loop-place.invariant below (omega (arith, c.requires.3)) put (omega (arith, put.ends, long, c.requires.2.each (get_or a.order.now k 0))) (omega (arith, c.put-end.auto))
