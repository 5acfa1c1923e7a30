-- What a turn does with its change, and what that relies on, on the lent lists.
use Rattle.std.specs.Prelude.{◌≡◌, Bool, cond, ◌&&◌, List, ℕ, ◌*◌, ◌<◌, ◌≤◌, eqb, ℤ, length, get_or}
use Rattle.model.specs.Tables.{slots}
use Rattle.writers.specs.Writers.{OfSettings}
use Rattle.acts.specs.declared.Act.{Act}
use Rattle.acts.specs.declared.Act.TheVariants as act

-- by flag and status, and whether every value seen is the value as of its timestamp (Figure 1)
unfoldable pub act_of : ℕ → ℕ → Bool → Act
act_of flag status holds = cond (eqb flag 0) (cond (eqb status 2 && holds) act.Stand act.Run) act.Clear

-- a position of the order list whose place has slots in the tables
pub record Positioned (k : ℕ) (order : List ℕ) (places : ℕ) : Type 0 where
  pub ordered : k < length order
  pub small : places ≤ 4096
  pub place : get_or order k 0 < places

-- what the decision relies on
pub record Decidable (k : ℕ) (order status withdrawn reads sources : List ℕ) (seen : List ℤ) (places : ℕ) : Type 0 where
  pub at : Positioned k order places
  pub status-slots : length status ≡ places
  pub flag-slots : length withdrawn ≡ places
  pub read-counts : length reads ≡ places
  pub source-slots : length sources ≡ 32 * places
  pub seen-slots : length seen ≡ 32 * places
  pub short : get_or reads (get_or order k 0) 0 ≤ 32
  pub settings : OfSettings (slots 32 (get_or order k 0) (get_or reads (get_or order k 0) 0) sources)
