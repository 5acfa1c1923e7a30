-- R-2 over a whole list of calls, proved: what was last answered of a run is so.
use mathlib.Core.Path.{◌≡◌}
use mathlib.Core.Bool.{true}
use mathlib.Core.List.{List}
use Prim.Native.Nat.{ℕ}
use Rattle.model.specs.Cabinet.{Cabinet}
use Rattle.model.specs.Tables.{Tables}
use Rattle.model.specs.Form.{lengths_fit}
use Rattle.model.specs.Calls.{set_up}
use Rattle.model.specs.Log.{Call, Ledger, after_calls, begun}
use Rattle.theory.specs.Faults.{ShownBy, FaultsShown}
use Rattle.theory.proofs.Calls.{drain-events, drain_kept}
use Rattle.theory.proofs.Reached.{Holding, drained-claim}
use Rattle.theory.proofs.Demand.{reached}

-- by the last drain
shown : (n : ℕ) (c : Cabinet) (k : Ledger) → Holding n c k → ShownBy n k
shown n c k h = rw (h.tables, drain_kept h.sound, drain-events h.sound) (rw h.booked at (drained-claim h).shown)

pub faults-shown : (n : ℕ) (T : Tables) → lengths_fit n T ≡ true → (calls : List Call) → FaultsShown n T calls
faults-shown n T e calls =
    let r = reached n T e calls in
    shown n r.cabinet (after_calls n calls (begun (set_up n T).tables)) r.holding
