-- The answers of turns that are not idle.
use Prim.Native.Nat.{ℕ}
use Rattle.machine.specs.Run.{Ending, completed, faulted}
use Rattle.model.specs.Answers.{Turned, Ran, Stood, Cleared, Faulted}
use Rattle.model.specs.Figure.{Event, ran, stood, cleared}
use Rattle.model.specs.Calls.{run_answer, event_answer}

-- what holds of each answer that names a change holds of what any turn answers
pub by-event : (P : Turned → Type 0) → ((t : ℕ) → P (Ran t)) → ((t : ℕ) → P (Stood t)) → ((t : ℕ) → P (Cleared t)) → ((t place : ℕ) → P (Faulted t place)) → (e : Event) → P (event_answer e)
by-event P r s c f (ran t o) = go o.ending
  where
    go : (ending : Ending) → P (run_answer t ending)
    go completed = r t
    go (faulted fault place) = f t place
by-event P r s c f (stood t) = s t
by-event P r s c f (cleared t) = c t
