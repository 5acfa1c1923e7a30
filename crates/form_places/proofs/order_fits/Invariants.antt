use Rattle.std.proofs.Common.{◌≡◌, ◌-◌}
use Rattle.general.proofs.Checks.{Tested}
use Rattle.model.specs.Form.{order_fits, timestamp_of}
use Rattle.form_places.proofs.order_fits.Given as goal

-- `last` is the timestamp of the entry before, where there is one
abbrev pub invariant-loop-k : goal.invariant-loop-k
invariant-loop-k l =
    Tested (order_fits l.order l.timestamps l.count) l.count l.k l.fits
    × ((l.k ≡ 0 → ⊥) → l.last ≡ timestamp_of l.order l.timestamps (l.k - 1))
