-- What is promised on any tables in form, reached by calls or not.
use Rattle.std.specs.Prelude.{◌≡◌, [], ◌∷◌, ℕ, ◌≤◌, length}
use Rattle.model.specs.Answers.{Idle}
use Rattle.model.specs.Drain.{RisingEvents}
use Rattle.model.specs.Tables.{Tables, held_count}
use Rattle.model.specs.Form.{Formed}
use Rattle.model.specs.Calls.{turn, drain}
use Rattle.model.specs.Log.{Call, drain_events, drain_turns, Ledger, after_call}
use Rattle.theory.specs.Totals.{DrainAnswered}

-- every call on tables in form, answered or refused, leaves tables in form
abbrev pub KeepsForm : ℕ → Call → Ledger → Type 0
KeepsForm n call k = Formed n k.tables → Formed n (after_call n call k).tables

-- a drain is answered with the totals of its turns, which go by rising timestamp, so that no change has two, and are at most as many as the held changes; after it a turn is idle
pub record DrainsAny (n : ℕ) (T : Tables) : Type 0 where
  pub answered : DrainAnswered n T
  pub rising-turns : RisingEvents 0 (drain_events n T)
  pub few-turns : length (drain_turns n T) ≤ held_count T
  pub idle-next : (turn n (drain n T).tables).answer ≡ Idle

-- "Its turns are those that single calls of turn from the same tables would answer, each with timestamp and answer." (document 01, "A turn")
pub record DrainsByTurns (n : ℕ) (T : Tables) : Type 0 where
  -- an idle turn leaves the tables as they are
  pub idle-leaves : (turn n T).answer ≡ Idle → (turn n T).tables ≡ T
  -- where a turn is idle the drain has no turns, and leaves the tables as they are
  pub none_left : (turn n T).answer ≡ Idle → (drain_turns n T ≡ []) × ((drain n T).tables ≡ T)
  -- else its turns are that turn, and then those of the drain from the tables that the turn leaves; the tables after the two drains are equal
  pub one_more : ¬ ((turn n T).answer ≡ Idle) → (drain_turns n T ≡ (turn n T).answer ∷ drain_turns n (turn n T).tables) × ((drain n T).tables ≡ (drain n (turn n T).tables).tables)
