use Rattle.std.proofs.Common.{◌≡◌, ◌∙◌, ap, ℕ, ◌<◌, get_or, get_or-take, arith}
use Rattle.std.proofs.Math.Seq.{length-take-le}
use Rattle.text.proofs.Pieces.{put_as}
use Rattle.text.proofs.Below.{below_none, below_next}
use Rattle.model.specs.Package.{entry_bytes}
use Rattle.package_parts.proofs.put_changes.Goals as goal

pub loop-place-init : goal.loop-place-init
loop-place-init c = below_none _ _ _ _ _

pub loop-place-preserved : goal.loop-place-preserved
loop-place-preserved c =
    let a = c.args in
    let k = c.loop-place.place-index in
    let below : k < a.count = omega (arith, length-take-le c.args.count c.args.order.now c.requires.0.long) in
    let place : c.from-place.result ≡ get_or a.order.now k 0 = c.from-place.ensures ∙ get_or-take a.count a.order.now k 0 below in
    let entry = ap (λ (i : ℕ). entry_bytes (get_or a.timestamps.now i 0) 0 (get_or a.lengths.now i 0) (get_or a.versions.now i 0)) place in
    below_next c.loop-place.invariant below (omega (arith, c.requires.5)) (put_as c.put_entry-end.ensures entry) (omega (arith, c.put_entry-end.ensures.ends)) (omega (arith, c.put_entry-end.auto))
