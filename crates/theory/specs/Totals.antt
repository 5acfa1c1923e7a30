-- R-5: the totals of a drain (document 02, R-5).
use Rattle.std.specs.Prelude.{◌≡◌, List, ℕ, zero, suc, ◌+◌, ◌<◌, ◌≤◌, length, get_or}
use Rattle.model.specs.Answers.{Done}
use Rattle.model.specs.Drain.{kind_turns, total_count, total_place, totals}
use Rattle.model.specs.Tables.{Tables, held_count}
use Rattle.model.specs.Calls.{drain, totals_reply, drain_with_totals}
use Rattle.model.specs.Log.{drain_events}

-- with any 1,024 totals lent, a drain of these tables is answered done: it leaves the tables of the drain, and the totals of its turns
abbrev pub DrainAnswered : ℕ → Tables → Type 0
DrainAnswered n T =
    (lent : List ℕ) → length lent ≡ total_count → drain_with_totals n T lent ≡ totals_reply Done (drain n T).tables (totals (drain_events n T))

-- the sum of f c over all c below n
abbrev pub sum_below : ℕ → (ℕ → ℕ) → ℕ
sum_below zero f = 0
sum_below (suc n) f = sum_below n f + f n

-- of any tables and whatever is lent, where the drain is answered done
pub record TotalsSum (n : ℕ) (T : Tables) (lent : List ℕ) : Type 0 where
  -- "For each kind the 256 numbers sum to the number of turns of that kind in the drain."
  pub sums : (kind : ℕ) → kind < 4 → sum_below 256 (λ console. get_or (drain_with_totals n T lent).totals (total_place console kind) 0) ≡ kind_turns kind (drain_events n T)
  -- every turn is of one of the four kinds
  pub every-turn : sum_below 4 (λ kind. kind_turns kind (drain_events n T)) ≡ length (drain_events n T)
  -- "a lent slice of 1,024 16-bit totals": none is more than the held changes, which are 4,096 at most
  pub within : (place : ℕ) → place < total_count → get_or (drain_with_totals n T lent).totals place 0 ≤ held_count T
