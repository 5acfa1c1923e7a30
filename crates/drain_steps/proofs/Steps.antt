-- A drain's step at a position: the change is passed over, or has its turn.
use mathlib.Core.Path.{◌≡◌, refl, ap}
use mathlib.Core.Bool.{true, false, not}
use mathlib.Core.Logic.{inl}
use Prim.Native.Nat.{ℕ, ◌+◌, ◌<◌}
use native.Mathlib.Numerals.{add-one}
use native.Mathlib.Omega.{arith}
use borrow.Author.Count.{below_more}
use borrow.Author.Tests.{eq-eqb, ne_eqb}
use lib.ListN.{length, get_or}
use Rattle.model.specs.Answers.{Turned}
use Rattle.model.specs.Tables.{Tables, held_count, slots, list_in}
use Rattle.writers.specs.Writers.{WriteLists, OfSettings}
use Rattle.search.specs.Searches.{is_waiting}
use Rattle.search.proofs.First.{some_first}
use Rattle.values.specs.declared.KnownValues.{KnownValues}
use Rattle.uses.specs.declared.SettingUses.{SettingUses}
use Rattle.carrying.specs.Carrying.{Carried}
use Rattle.carrying.proofs.Carried.{known_next}
use Rattle.marking_laws.proofs.Model.{uses-passed}
use Rattle.turns.specs.Turns.{Going, Turnable}
use Rattle.turns.proofs.Relied.{Slots, slots-of, carriable}
use Rattle.drain_steps.specs.Passed.{Passed}

module _ {k : ℕ} {T : Tables} {v : KnownValues} {u : SettingUses} (h : k < held_count T) (p : Going k T v u) where
  pub pass-slots : Slots T k
  pass-slots = slots-of p.formed k h

  pub pass-carries : (get_or T.order k 0 < length T.writes) × WriteLists T.writes T.targets T.written × OfSettings (slots 32 (get_or T.order k 0) (get_or T.writes (get_or T.order k 0) 0) T.targets)
  pass-carries = carriable p.formed k h

  -- the change is Valid
  pub pass-valid :
      {v' : KnownValues} →
      get_or T.status (get_or T.order k 0) 0 ≡ 1 →
      Carried (list_in T.writes T.targets T.written (get_or T.order k 0)) v v' →
      Passed Turned.Idle T T × Going (k + 1) T v' u
  pass-valid e c = (
    inl (refl, refl),
    record {
      formed = p.formed;
      passed = below_next;
      values = rw (add-one k) (known_next T.order T.writes T.targets T.written T.kept k p.values c);
      uses = uses-passed (k + 1 + 1) (omega arith) p.uses;
    },
  )
    where
      below_next : (j : ℕ) → j < k + 1 → is_waiting T.order T.status j ≡ false
      below_next = below_more (λ j. is_waiting T.order T.status j ≡ false) k p.passed (ap not (eq-eqb _ 1 e))

  -- it is not
  pub pass-turn : (get_or T.status (get_or T.order k 0) 0 ≡ 1 → ⊥) → Turnable true k T v u
  pass-turn e =
      record {
        formed = p.formed;
        waits = some_first (is_waiting T.order T.status) (held_count T) k h (rw (ne_eqb (get_or T.status (get_or T.order k 0) 0) 1 e)) p.passed;
        values = p.values;
        notes = record { uses = λ q. p.uses; none = λ q. absurd (let z : ◌≡◌ {A = ℕ} 0 1 = cc in omega arith) };
      }
