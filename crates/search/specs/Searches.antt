-- What the searches give, as functions of the lent lists.
use Rattle.std.specs.Prelude.{Bool, cond, not, ◌&&◌, List, ℕ, zero, suc, ◌<◌, ◌≤◌, eqb, ltb, length, get_or, Some, None}
use Rattle.std.specs.Prelude as prelude
use Rattle.std.proofs.Math.Option.{Option, none, some}
use Rattle.model.specs.Form.{timestamp_of}
use Rattle.model.specs.Tables.{Tables, held_count}

-- the first count entries of the order list are places below a limit
pub record PlacesWithin (count : ℕ) (order : List ℕ) (limit : ℕ) : Type 0 where
  pub long : count ≤ length order
  pub below : (k : ℕ) → k < count → get_or order k 0 < limit

-- how many of the first changes of the order list are stamped below t, counted down from the highest
unfoldable pub rank_of : List ℕ → List ℕ → ℕ → ℕ → ℕ
rank_of order timestamps t zero = 0
rank_of order timestamps t (suc k) = cond (ltb (timestamp_of order timestamps k) t) (suc k) (rank_of order timestamps t k)

-- is the change at position k of the first count of them stamped t
abbrev pub stamped_at : List ℕ → List ℕ → ℕ → ℕ → ℕ → Bool
stamped_at order timestamps t count k = ltb k count && eqb (timestamp_of order timestamps k) t

-- the position of timestamp t among the first count of them
abbrev pub position_of : List ℕ → List ℕ → ℕ → ℕ → Option ℕ
position_of order timestamps t count =
    let k = rank_of order timestamps t count in
    cond (stamped_at order timestamps t count k) (some k) none

-- what a search found, as the Option of the program
abbrev pub found_of : {A : Type 0} → Option A → prelude.Option A
found_of none = None
found_of (some x) = Some x

-- ---- the change whose turn it is

-- the first position from k on, of so many, that passes a test
unfoldable pub first_from : (ℕ → Bool) → ℕ → ℕ → Option ℕ
first_from test k zero = none
first_from test k (suc m) = cond (test k) (some k) (first_from test (suc k) m)

-- is the change at a position of the order list New or Invalid
abbrev pub is_waiting : List ℕ → List ℕ → ℕ → Bool
is_waiting order status k = not (eqb (get_or status (get_or order k 0) 0) 1)

abbrev pub waiting_of : List ℕ → List ℕ → ℕ → Option ℕ
waiting_of order status count = first_from (is_waiting order status) 0 count

-- the position of the change of some tables whose turn it is
abbrev pub waiting_in : Tables → Option ℕ
waiting_in T = waiting_of T.order T.status (held_count T)
