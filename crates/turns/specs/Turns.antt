-- One turn on the lent tables, and what is known while turns go up the order list.
use Rattle.std.specs.Prelude.{◌≡◌, Bool, false, List, [], ◌∷◌, ℕ, ◌+◌, ◌<◌, ℤ, length}
use Rattle.std.proofs.Math.Option.{some}
use Rattle.model.specs.Answers.{Turned}
use Rattle.model.specs.Tables.{Tables, tables, decode}
use Rattle.model.specs.Form.{Formed}
use Rattle.model.specs.Calls.{Reply, step_reply, round_of}
use Rattle.search.specs.Searches.{is_waiting, waiting_in}
use Rattle.values.specs.declared.KnownValues.{KnownValues}
use Rattle.values.specs.Values.{values_below, Known}
use Rattle.uses.specs.declared.SettingUses.{SettingUses}
use Rattle.uses.specs.Uses.{Uses, Noted}

-- the answer and the tables after one turn (Figure 1); the capacity is the length of the order list
unfoldable pub turned : Tables → Reply Turned
turned T = step_reply (length T.order) T (decode T) (round_of (decode T))

-- ---- what a turn is lent

-- tables with those that a turn is lent: the number of changes held, and all but the cutoff
abbrev pub with_lent : Tables → ℕ → List ℕ → List ℕ → List ℕ → List ℕ → List ℕ → List ℕ → List ℕ → List ℕ → List ℕ → List ℤ → List ℕ → List ℤ → List ℤ → List ℕ → List ℤ → Tables
with_lent T count timestamps order status withdrawn lengths programs reads writes sources seen targets written view versions kept =
    tables (count ∷ []) timestamps order status withdrawn lengths programs reads writes sources seen targets written view versions T.cutoff kept

-- with some others, the lent tables are so
pub record WithSome (fits : Tables → Type 0) : Type 0 where
  pub others : Tables
  pub so : fits others

-- ---- up the order list

-- turns have gone up to a position: every change below it is Valid, the known values are those as of it, and it is noted how far each setting matters above it
pub record Going (k : ℕ) (T : Tables) (v : KnownValues) (u : SettingUses) : Type 0 where
  pub formed : Formed (length T.order) T
  pub passed : (j : ℕ) → j < k → is_waiting T.order T.status j ≡ false
  pub values : Known (values_below T.order T.writes T.targets T.written T.kept k) v
  pub uses : Uses (k + 1) T u

-- the change at a position has its turn; what is noted of the settings above it, if anything is
pub record Turnable (noted : Bool) (k : ℕ) (T : Tables) (v : KnownValues) (u : SettingUses) : Type 0 where
  pub formed : Formed (length T.order) T
  pub waits : waiting_in T ≡ some k
  pub values : Known (values_below T.order T.writes T.targets T.written T.kept k) v
  pub notes : Noted noted (k + 1) T u
