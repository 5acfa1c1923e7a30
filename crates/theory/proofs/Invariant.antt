-- What holds of the history, the view and the turns so far, between any two calls.
use mathlib.Core.Path.{◌≡◌, refl}
use mathlib.Core.Bool.{true, false}
use mathlib.Core.List.{List, [], ◌∷◌, map}
use mathlib.Core.Option.{none, some}
use Prim.Native.Nat.{ℕ, ◌≤◌}
use lib.IntN.{ℤ}
use Rattle.machine.specs.Settings.{Environment}
use Rattle.machine.specs.Instruction.{Code}
use Rattle.machine.specs.Run.{run}
use Rattle.model.specs.History.{start, New, Valid, Invalid, Lists, empty, run_lists, Change, change, timestamp, History, after_change, after_all, all_settings}
use Rattle.model.specs.Figure.{Event}
use Rattle.model.specs.Sound.{NotIn}
use Rattle.theory.specs.Demand.{last_ran}

-- the lists of a change by its status and flag, where env is the settings as of it: New, or Valid and withdrawn: none; Valid: those of a run on these settings
abbrev pub Consistent : Environment → Change → Type 0
Consistent env (change t p New w l) = l ≡ empty
Consistent env (change t p Valid true l) = l ≡ empty
Consistent env (change t p Valid false l) = run_lists env p ≡ l
Consistent env (change t p Invalid w l) = Unit {0}

abbrev pub AllConsistent : Environment → History → Type 0
AllConsistent env [] = Unit {0}
AllConsistent env (c ∷ h) = Consistent env c × AllConsistent (after_change c env) h

-- the lists of a change are those that its last run put there, on some settings
abbrev pub LastRan : List Event → ℕ → Code → Lists → Type 0
LastRan events t p l = (env : Environment) × (last_ran events t ≡ some (run env p)) × (run_lists env p ≡ l)

-- a New change has not run; the lists of a change that is neither New nor withdrawn are those of its last run
abbrev pub Traced : List Event → Change → Type 0
Traced events (change t p New w l) = last_ran events t ≡ none
Traced events (change t p Valid true l) = Unit {0}
Traced events (change t p Valid false l) = LastRan events t p l
Traced events (change t p Invalid true l) = Unit {0}
Traced events (change t p Invalid false l) = LastRan events t p l

abbrev pub AllTraced : List Event → History → Type 0
AllTraced events [] = Unit {0}
AllTraced events (c ∷ h) = Traced events c × AllTraced events h

-- where runs begin from the settings env. A change that is not held has not run, but for those below the cutoff, which may have been dropped
pub record Invariant (env : Environment) (cutoff : ℕ) (events : List Event) (h : History) (view : List ℤ) : Type 0 where
  pub consistent : AllConsistent env h
  pub viewed : view ≡ all_settings (after_all h env)
  pub traced : AllTraced events h
  pub unheld : (t : ℕ) → cutoff ≤ t → NotIn t (map timestamp h) → last_ran events t ≡ none

-- nothing held, every setting at its start, no turns
pub empty-invariant : Invariant start 0 [] [] (all_settings start)
empty-invariant = record { consistent = tt; viewed = refl; traced = tt; unheld = λ t q n. refl }
