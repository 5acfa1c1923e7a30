-- The last run of a change, with one turn more.
use mathlib.Core.Path.{◌≡◌, refl, ◌∙◌}
use mathlib.Core.List.{List, [], ◌∷◌, ◌++◌}
use mathlib.Core.Option.{Option, none, some}
use Prim.Native.Nat.{ℕ}
use borrow.Author.Tests.{eq-eqb, ne_eqb}
use Rattle.machine.specs.Run.{Outcome}
use Rattle.model.specs.Figure.{Event, ran, stood, cleared, event_timestamp}
use Rattle.theory.specs.Demand.{ran_outcome, last_ran_after, last_ran}

last-appended : (before : Option Outcome) (events : List Event) (e : Event) (t : ℕ) → last_ran_after before (events ++ (e ∷ [])) t ≡ ran_outcome e t (last_ran_after before events t)
last-appended before [] e t = refl
last-appended before (d ∷ events) e t = last-appended (ran_outcome d t before) events e t

-- a turn of another change
pub last-other : (events : List Event) (e : Event) (t : ℕ) → ¬ (event_timestamp e ≡ t) → last_ran (events ++ (e ∷ [])) t ≡ last_ran events t
last-other events e t n = last-appended none events e t ∙ go e n
  where
    go : (e : Event) → ¬ (event_timestamp e ≡ t) → ran_outcome e t (last_ran events t) ≡ last_ran events t
    go (ran u o) n = rw (ne_eqb u t n)
    go (stood u) n = refl
    go (cleared u) n = refl

-- a turn in which a change stood
pub last-stood : (events : List Event) (u t : ℕ) → last_ran (events ++ (stood u ∷ [])) t ≡ last_ran events t
last-stood events u t = last-appended none events (stood u) t

-- a turn that runs it
pub last-ran : (events : List Event) (t : ℕ) (o : Outcome) → last_ran (events ++ (ran t o ∷ [])) t ≡ some o
last-ran events t o = last-appended none events (ran t o) t ∙ rw (eq-eqb t t refl)
