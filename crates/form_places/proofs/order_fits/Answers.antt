-- `form_places::order_fits` meets its contract: the loop passes the entries in order and tests each, and `last` is the timestamp of the one before. Assumes nothing.
use Rattle.std.proofs.Common.{◌≡◌, refl, ap, ◌∙◌, Bool, true, false, ◌&&◌, ◌||◌, List, ℕ, ◌+◌, ◌-◌, ◌<◌, arith, get_or, get_or-take, length-take, eqb, ltb}
use Rattle.std.proofs.lemmas.Bool.{eqb-false}
use Rattle.model.specs.Form.{timestamp_of, order_fits}
use Rattle.general.proofs.Checks.{test-none, test-next, test-last}
use Rattle.form_places.proofs.order_fits.Goals as goal

pub loop-k-init : goal.loop-k-init
loop-k-init c = (test-none, λ h. absurd (h refl))

-- the test of an entry goes by the timestamp of the one before, where there is one
entry-fits : (order timestamps : List ℕ) (count k last : ℕ) → ((k ≡ 0 → ⊥) → last ≡ timestamp_of order timestamps (k - 1)) → (ltb (get_or order k 0) count && (eqb k 0 || ltb last (timestamp_of order timestamps k))) ≡ order_fits order timestamps count k
entry-fits order timestamps count k last h = ap (λ (t : Bool). ltb (get_or order k 0) count && t) (go (eqb k 0) refl)
  where
    go : (t : Bool) → eqb k 0 ≡ t → (t || ltb last (timestamp_of order timestamps k)) ≡ (t || ltb (timestamp_of order timestamps (k - 1)) (timestamp_of order timestamps k))
    go true e = refl
    go false e = ap (λ (x : ℕ). ltb x (timestamp_of order timestamps k)) (h (eqb-false k 0 e))

pub loop-k-preserved : goal.loop-k-preserved
loop-k-preserved c =
    let a = c.args in
    let l = c.loop-k in
    let h : l.k < a.count = omega (arith, length-take a.count a.order.now) in
    let place = get_or-take a.count a.order.now l.k 0 h in
    let e = rw place at c.timestamp_at-timestamp.ensures in
    let k : l.k ≡ l.k + 1 - 1 = omega arith in
    (test-next h (rw (place, e) (entry-fits a.order.now a.timestamps.now a.count l.k l.last l.invariant.1)) l.invariant.0, λ q. e ∙ ap (timestamp_of a.order.now a.timestamps.now) k)

pub returns : goal.returns
returns c = test-last (omega (arith, length-take c.args.count c.args.order.now)) c.loop-k.invariant.0
