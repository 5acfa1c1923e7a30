-- What the refusal of a cutoff tells.
use Rattle.std.specs.Prelude.{◌≡◌, List, [], ◌∷◌, ℕ}
use Rattle.model.specs.Tables.{Tables, decode}
use Rattle.model.specs.Form.{Formed}
use Rattle.model.specs.Refusals.{Test, first_of, wrong_lengths, not_in_form, no_timestamp, below_cutoff, unsettled_below}

-- all that a cutoff tests, in order
abbrev pub all_tests : ℕ → Tables → ℕ → List Test
all_tests n T t =
    wrong_lengths n T ∷ not_in_form n T ∷ no_timestamp t ∷ below_cutoff (decode T).cutoff t ∷ unsettled_below (decode T) t ∷ []

-- the first test that applies; without one the tables are in form
pub record Judged (n : ℕ) (T : Tables) (t refusal : ℕ) : Type 0 where
  pub first : refusal ≡ first_of (all_tests n T t)
  pub formed : refusal ≡ 0 → Formed n T
