-- The laws of programs, on the lists that a run leaves.
use mathlib.Core.Path.{◌≡◌, refl, sym, ap}
use mathlib.Core.Bool.{true}
use mathlib.Core.List.{List, [], ◌∷◌}
use Rattle.machine.specs.Settings.{Environment, Entry, Holds, Bounded}
use Rattle.machine.specs.Instruction.{Code}
use Rattle.machine.specs.Form.{length_fits}
use Rattle.machine.specs.Run.{Outcome, run}
use Rattle.general.proofs.Cases.{both}
use Rattle.machine.proofs.Form.{length-short}
use Rattle.machine.proofs.Frame.{run_holds, run-same}
use Rattle.machine.proofs.Lists.{run-bounded}
use Rattle.model.specs.History.{Lists, run_lists, eq_z, all_hold}
use Rattle.model.proofs.Values.{eq_z-true, eq_z-refl}

-- each value seen is the environment's
pub run_lists-holds : (env : Environment) (p : Code) → Holds env (run_lists env p).reads
unfolding run_lists
run_lists-holds env p = run_holds env p

abbrev lists_of : Outcome → Lists
lists_of o = record { reads = o.reads; writes = o.writes }

-- a run on an environment that holds each value seen is the same run, its ending included
pub run_lists-run : (env env' : Environment) (p : Code) → Holds env' (run_lists env p).reads → run env' p ≡ run env p
unfolding run_lists
run_lists-run env env' p h = run-same env env' p h

-- it leaves the same lists
pub run_lists-same : (env env' : Environment) (p : Code) → Holds env' (run_lists env p).reads → run_lists env' p ≡ run_lists env p
unfolding run_lists
run_lists-same env env' p h = ap lists_of (run_lists-run env env' p h)

-- what a run read stands in its lists
pub run_lists-reads : (env : Environment) (p : Code) → (run_lists env p).reads ≡ (run env p).reads
unfolding run_lists
run_lists-reads env p = refl

-- the lists of a run fit the tables
pub run_lists-bounded : (env : Environment) (p : Code) → length_fits p.bytes ≡ true → Bounded (run_lists env p).reads × Bounded (run_lists env p).writes
unfolding run_lists
run_lists-bounded env p h = run-bounded env p (length-short p.bytes h)

-- the test of a read list says whether it holds
pub all_hold-holds : (l : List Entry) (env : Environment) → all_hold l env ≡ true → Holds env l
unfolding Holds
all_hold-holds [] env h = tt
all_hold-holds (e ∷ l) env h =
    let b = both (eq_z e.value (env e.setting)) h in
    (sym (eq_z-true e.value (env e.setting) b.0), all_hold-holds l env b.1)

pub holds-all_hold : (l : List Entry) (env : Environment) → Holds env l → all_hold l env ≡ true
unfolding Holds
holds-all_hold [] env h = refl
holds-all_hold (e ∷ l) env h = rw (h.0, eq_z-refl, holds-all_hold l env h.1)
