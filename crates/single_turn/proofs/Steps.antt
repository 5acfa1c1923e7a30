-- A single turn: it is idle where no change waits, else it begins with nothing known.
use mathlib.Core.Path.{◌≡◌, sym, ap, ◌∙◌}
use mathlib.Core.Bool.{false}
use mathlib.Core.Option.{none, some}
use Prim.Native.Nat.{ℕ}
use native.Mathlib.Omega.{arith}
use lib.ListN.{length}
use Rattle.model.specs.Answers.{Turned}
use Rattle.model.specs.Cabinet.{kept_values_in}
use Rattle.model.specs.Tables.{Tables, decode}
use Rattle.model.specs.Calls.{reply, step_reply}
use Rattle.model.specs.Form.{Formed}
use Rattle.model.proofs.Figure.{round-walk}
use Rattle.model.proofs.Form.{facts}
use Rattle.search.specs.Searches.{waiting_in}
use Rattle.search.proofs.Model.{history_in}
use Rattle.search.proofs.Waits.{walk_none}
use Rattle.machine.specs.Settings.{Environment}
use Rattle.values.specs.declared.KnownValues.{KnownValues}
use Rattle.values.specs.Values.{Known}
use Rattle.uses.specs.declared.SettingUses.{SettingUses}
use Rattle.uses.specs.Uses.{NoneNoted}
use Rattle.turns.specs.Turns.{turned, Turnable}

-- no change waits
pub turn-idle : {T : Tables} → Formed (length T.order) T → waiting_in T ≡ none → reply Turned.Idle T ≡ turned T
unfolding turned
turn-idle {T} g w = sym (ap (step_reply (length T.order) T (decode T)) (round-walk (kept_values_in (decode T)) (history_in T) (decode T).view 0 (facts g).sound.rising ∙ walk_none g w (kept_values_in (decode T)) (decode T).view))

-- a single turn begins with no value known and nothing noted
pub turn-single : {k : ℕ} {T : Tables} {v : KnownValues} {u : SettingUses} → Formed (length T.order) T → waiting_in T ≡ some k → ((env : Environment) → Known env v) → NoneNoted u → Turnable false k T v u
turn-single g w q z =
    record {
      formed = g;
      waits = w;
      values = q _;
      notes = record { uses = λ e. absurd (let z : ◌≡◌ {A = ℕ} 0 1 = cc in omega arith); none = λ e. z };
    }
