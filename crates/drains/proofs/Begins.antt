-- What a drain begins with.
use mathlib.Core.Path.{◌≡◌, sym, subst}
use mathlib.Core.Bool.{Bool}
use mathlib.Core.List.{List}
use mathlib.Core.Option.{none, some}
use Prim.Native.Nat.{ℕ, ◌+◌, ◌<◌, ◌≤◌}
use native.Mathlib.Omega.{arith}
use lib.ListN.{length, get_or, replicate}
use Rattle.model.specs.Drain.{total_count}
use Rattle.model.specs.Tables.{Tables, held_count}
use Rattle.model.specs.Form.{Formed}
use Rattle.model.specs.Calls.{reply}
use Rattle.model.proofs.Form.{facts}
use Rattle.search.specs.Searches.{is_waiting, waiting_in}
use Rattle.search.proofs.First.{first_some}
use Rattle.writers.proofs.Model.{tested-settings, placed-writes, listed}
use Rattle.carrying.specs.Carrying.{Carriable, knowing, CarriedBelow}
use Rattle.machine.specs.Settings.{value_in}
use Rattle.values.specs.declared.KnownValues.{KnownValues}
use Rattle.values.specs.Values.{history_lists, values_below, Known}
use Rattle.uses.specs.Columns.{columns_of, Walkable}
use Rattle.uses.specs.declared.SettingUses.{SettingUses}
use Rattle.uses.specs.Uses.{NoUses, NoneNoted, LastUses}
use Rattle.marking_laws.proofs.Model.{walkable-form, uses-first, uses-passed}
use Rattle.turns.specs.Turns.{Going}
use Rattle.passing.specs.Drained.{drained}
use Rattle.passing.proofs.Drains.{drain-begins, drain-ends-here}

-- no change waits
pub pass-none : {T : Tables} {counted : List ℕ} → Formed (length T.order) T → counted ≡ replicate total_count 0 → waiting_in T ≡ none → reply counted T ≡ drained T
pass-none {T} g z w = drain-ends-here T g (drain-begins T g z) w

-- the first change that waits
module _ {T : Tables} {first : ℕ} (g : Formed (length T.order) T) (w : waiting_in T ≡ some first) where
  abbrev waits : ℕ → Bool
  waits j = is_waiting T.order T.status j

  pub within : first < held_count T
  within = (first_some waits (held_count T) first w).0

  -- what `carry_below` relies on
  pub writes_below : Carriable first T.order T.writes T.targets T.written
  writes_below =
      record {
        placed = placed-writes g first (omega (arith, within));
        listed = listed g;
        settings = λ j h. tested-settings _ ((facts g).form.writes (get_or T.order j 0) ((facts g).form.places j (omega (arith, within)))).distinct;
      }

  -- and `note_last`
  pub uses-above : {u : SettingUses} → NoneNoted u → (first ≤ held_count T) × (held_count T ≤ 4096) × (held_count T ≤ length T.order) × Walkable (columns_of T) (length T.status) × NoUses u
  uses-above z = (omega (arith, within), omega (arith, (facts g).form.small, (facts g).sizes.capacity), omega (arith, (facts g).form.small), walkable-form g, z.uses)

  -- what is known before its turn
  pub going-first :
      {v v' : KnownValues} {u u' : SettingUses} →
      Known (value_in T.kept) v →
      CarriedBelow first (history_lists T.order T.writes T.targets T.written T.kept) v v' →
      NoneNoted u →
      LastUses first (held_count T) (columns_of T) T.status u'.readers u'.writers × (u'.settled ≡ u.settled) →
      Going first T v' u'
  going-first {v} {v'} q c z n =
      record {
        formed = g;
        passed = (first_some waits (held_count T) first w).2;
        values = subst (λ (known : List Bool). Known (values_below T.order T.writes T.targets T.written T.kept first) (knowing known v')) (sym c.known) (c.right T.kept v.known q);
        uses = uses-passed (first + 1) (omega arith) (uses-first n.0 z n.1);
      }
