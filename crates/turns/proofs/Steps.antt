-- The steps of the turn at a position: what each relies on, and what the turn leaves.
use mathlib.Core.Path.{◌≡◌}
use mathlib.Core.Bool.{Bool, true}
use mathlib.Core.List.{List}
use Prim.Native.Nat.{ℕ, ◌+◌, ◌<◌}
use native.Mathlib.Omega.{arith}
use lib.IntN.{ℤ}
use lib.ListN.{length, get_or, set}
use Rattle.run_record.specs.declared.Run.{Run}
use Rattle.model.specs.Answers.{Turned}
use Rattle.model.specs.Tables.{Tables, held_count, slots, list_in}
use Rattle.model.specs.Calls.{reply}
use Rattle.writers.specs.Writers.{OfSettings, WriteLists}
use Rattle.carrying.specs.Carrying.{Carried}
use Rattle.values.specs.declared.KnownValues.{KnownValues}
use Rattle.values.specs.Values.{history_lists, values_below, Lookable, Looked}
use Rattle.uses.specs.Columns.{Columns, columns_of}
use Rattle.uses.specs.declared.SettingUses.{SettingUses}
use Rattle.uses.specs.Uses.{Uses, Notable, UsesNoted}
use Rattle.marking_laws.proofs.Model.{uses-noted, notable}
use Rattle.marking_laws.proofs.Restated.{with_status}
use Rattle.acts.specs.declared.Act.{Act}
use Rattle.acts.specs.declared.Act.TheVariants as act
use Rattle.acts.specs.Acts.{Decidable}
use Rattle.replacement.specs.Replaced.{Replaceable, Replaced}
use Rattle.turn_answers.specs.Answers.{answer_by}
use Rattle.turns.specs.Turns.{turned, Going, Turnable}
use Rattle.turns.proofs.Relied.{Slots, slots-of, decidable, lookable, replaceable, carriable}
use Rattle.turns.proofs.Model.{held, act_in}
use Rattle.turns.proofs.Outcomes.{turn-stood, going-stood, left_tables, turn-replaced}

-- ---- `turn_at`

module _ {noted : Bool} {k : ℕ} {T : Tables} {v : KnownValues} {u : SettingUses} (t : Turnable noted k T v u) where
  abbrev place : ℕ
  place = get_or T.order k 0

  held-here : k < held_count T
  held-here = held t.formed k t.waits

  pub turn-slots : Slots T k
  turn-slots = slots-of t.formed k held-here

  pub decision : Decidable k T.order T.status T.withdrawn T.reads T.sources T.seen (length T.writes) × Lookable k (history_lists T.order T.writes T.targets T.written T.kept) v
  decision = (decidable t.formed k held-here, lookable t.formed k held-here t.values)

  pub turn-carries : (get_or T.order k 0 < length T.writes) × WriteLists T.writes T.targets T.written × OfSettings (slots 32 place (get_or T.writes place 0) T.targets)
  turn-carries = carriable t.formed k held-here

  module _ {a : Act} {v' : KnownValues} (d : (a ≡ act_in t.formed k t.waits) × Looked (values_below T.order T.writes T.targets T.written T.kept k) v v') where
    -- it stands
    pub turn-stands :
        {stamp : ℕ} {status' : List ℕ} {v'' : KnownValues} →
        a ≡ act.Stand →
        stamp ≡ get_or T.timestamps place 0 →
        Carried (list_in T.writes T.targets T.written place) v' v'' →
        status' ≡ set T.status place 1 →
        (reply (Turned.Stood stamp) (with_status T status') ≡ turned T) × (noted ≡ true → Going (k + 1) (with_status T status') v'' u)
    turn-stands e s c q = (
      turn-stood t.formed k t.waits d.0 e q s,
      λ n. going-stood t.formed k t.waits d.0 e q d.1.right c (t.notes.uses n),
    )

    pub uses-notable : Notable noted (k + 1) (held_count T) (columns_of T) (length T.status) u
    uses-notable = notable t.formed (omega (arith, held-here)) t.notes

    module _ {u' : SettingUses} (n : UsesNoted noted (k + 1) (held_count T) (columns_of T) T.status u u') where
      pub turn-uses : Uses (k + 1) T u'
      turn-uses = uses-noted t.notes n

      pub lists-replaceable : Replaceable k (columns_of T) T.seen T.written T.kept T.lengths T.programs T.status T.view v' u'
      lists-replaceable = replaceable t.formed k held-here d.1.right turn-uses

      -- it is cleared or runs
      pub turn-moves :
          {status' : List ℕ} {C' : Columns} {seen' written' view' : List ℤ} {u'' : SettingUses} {v'' : KnownValues} {stamp version : ℕ} {status'' : List ℕ} {new : Run} {answer : Turned} →
          (moves : a ≡ act.Stand → ⊥) →
          (s : stamp ≡ get_or T.timestamps place 0) →
          (e : version ≡ get_or T.versions place 0) →
          (r : Replaced a version new k (columns_of T) T.seen T.written T.kept T.lengths T.programs T.status T.view u' status' C' seen' written' view' u'' v'') →
          (q : status'' ≡ set status' place 1) →
          answer ≡ answer_by a new stamp →
          let U = left_tables t.formed k t.waits d.0 moves s e turn-uses r q in (reply answer U ≡ turned T) × (noted ≡ true → Going (k + 1) U v'' u'')
      turn-moves m s e r q w = let o = turn-replaced t.formed k t.waits d.0 m s e turn-uses r q w in (o.0, λ n. o.1)
