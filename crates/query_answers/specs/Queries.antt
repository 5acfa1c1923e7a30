-- What the queries answer on tables in form, as functions of the lent lists: the tests that are left, in checking order, then the answer.
use Rattle.std.specs.Prelude.{cond, not, List, [], ◌∷◌, ℕ, ltb, ℤ, get_or}
use Rattle.std.proofs.Math.Option.{Option, none, some}
use Rattle.machine.specs.Settings.{value_in}
use Rattle.model.specs.Answers.{Value, Standing}
use Rattle.model.specs.History.{is_timestamp}
use Rattle.model.specs.Refusals.{first_of, no_time, below_cutoff, no_setting}
use Rattle.model.specs.Calls.{unless_read}
use Rattle.search.specs.Searches.{rank_of, position_of}
use Rattle.values.specs.Values.{values_below}

-- current value
abbrev pub current_answer : List ℤ → ℕ → Value
current_answer view s = unless_read (first_of (no_setting s ∷ [])) Value.Refused (Value.Is (value_in view s))

-- value as of a timestamp
abbrev pub as_of_answer : List ℕ → List ℕ → List ℕ → List ℕ → List ℤ → List ℤ → ℕ → ℕ → ℕ → ℕ → Value
as_of_answer order timestamps writes targets written kept cutoff count t s =
    unless_read (first_of (no_time t ∷ below_cutoff cutoff t ∷ no_setting s ∷ [])) Value.Refused
    (Value.Is (values_below order writes targets written kept (rank_of order timestamps t count) s))

-- standing of a timestamp: status and flag at its position of the order list
abbrev pub standing_found : List ℕ → List ℕ → List ℕ → Option ℕ → Standing
standing_found order status withdrawn none = Standing.Refused 10
standing_found order status withdrawn (some k) =
    let place = get_or order k 0 in
    Standing.At (get_or status place 0) (get_or withdrawn place 0)

abbrev pub standing_answer : List ℕ → List ℕ → List ℕ → List ℕ → ℕ → ℕ → ℕ → Standing
standing_answer order timestamps status withdrawn cutoff count t =
    cond (not (is_timestamp t)) (Standing.Refused 4)
    (cond (ltb t cutoff) (Standing.Refused 14) (standing_found order status withdrawn (position_of order timestamps t count)))
