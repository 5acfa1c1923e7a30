-- What a cutoff tests, as functions of the lent lists.
use Rattle.std.specs.Prelude.{◌≡◌, Bool, false, cond, List, [], ◌∷◌, ℕ, eqb, ltb, length, get_or}
use Rattle.std.proofs.Math.Option.{Option, none, some}
use Rattle.model.specs.Refusals.{Test, test, first_of, no_timestamp, below_cutoff}
use Rattle.search.specs.Searches.{PlacesWithin, rank_of, waiting_of}

-- does a change wait before a position, where the first that waits is found
abbrev pub waits_before : Option ℕ → ℕ → Bool
waits_before none k = false
waits_before (some w) k = ltb w k

-- refusals 4, 14 and 15
abbrev pub cutoff_tests : ℕ → List ℕ → List ℕ → List ℕ → List ℕ → List ℕ → List Test
cutoff_tests t held timestamps order status cutoff =
    let count = get_or held 0 0 in
    no_timestamp t
    ∷ below_cutoff (get_or cutoff 0 0) t
    ∷ test 15 (waits_before (waiting_of order status count) (rank_of order timestamps t count))
    ∷ []

-- the first of them that applies, unless the tables have a fault
unfoldable pub refusal_in : ℕ → ℕ → List ℕ → List ℕ → List ℕ → List ℕ → List ℕ → ℕ
refusal_in fault t held timestamps order status cutoff =
    cond (eqb fault 0) (first_of (cutoff_tests t held timestamps order status cutoff)) fault

-- the tests can be made
pub record Testable (held timestamps order status cutoff : List ℕ) : Type 0 where
  pub counted : length held ≡ 1
  pub stamped : PlacesWithin (get_or held 0 0) order (length timestamps)
  pub standing : PlacesWithin (get_or held 0 0) order (length status)
  pub cut : length cutoff ≡ 1
