-- R-2 over a whole list of calls: what was last answered of a run is so (document 02, R-2).
use Rattle.std.specs.Prelude.{◌≡◌, true, false, List, [], ◌∷◌, ◌++◌, ℕ}
use Rattle.std.proofs.Math.Option.{some}
use Rattle.machine.specs.Settings.{Environment}
use Rattle.machine.specs.Run.{run}
use Rattle.model.specs.Figure.{Event}
use Rattle.model.specs.Tables.{Tables}
use Rattle.model.specs.Book.{Book, booked, fresh_after}
use Rattle.model.specs.Calls.{set_up}
use Rattle.model.specs.Log.{Call, Ledger, begun, after_calls, drain_events}
use Rattle.theory.specs.Demand.{last_ran, kept_after}

-- in the fresh run from these settings: the last run of each change that is not withdrawn, among some turns, left what its fresh run leaves
abbrev pub AllShown : List Event → Book → Environment → Type 0
AllShown events [] env = Unit {0}
AllShown events (booked t p true ∷ book) env = AllShown events book (fresh_after (booked t p true) env)
AllShown events (booked t p false ∷ book) env = (last_ran events t ≡ some (run env p)) × AllShown events book (fresh_after (booked t p false) env)

-- of the ledger before the last drain
abbrev pub ShownBy : ℕ → Ledger → Type 0
ShownBy n k = AllShown (k.events ++ drain_events n k.tables) k.book (kept_after n k)

-- "Agents cannot tell a change that chose to write nothing from one that broke off." After the last drain they can: the last turn that ran a held change, single or a drain's, left what its fresh run leaves, and answered by its ending (`run_answer` of the calls). So where it answered ran the fresh run is whole, and where it answered faulted the fresh run breaks off at that place
abbrev pub FaultsShown : ℕ → Tables → List Call → Type 0
FaultsShown n T calls = ShownBy n (after_calls n calls (begun (set_up n T).tables))
