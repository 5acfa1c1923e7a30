-- The turn of the first change of a history, by what it does.
use mathlib.Core.Path.{◌≡◌, refl}
use mathlib.Core.Bool.{Bool, true, false}
use mathlib.Core.List.{List, ◌∷◌}
use mathlib.Core.Logic.{◌⊎◌, inl, inr}
use lib.IntN.{ℤ}
use Rattle.machine.specs.Settings.{Environment}
use Rattle.machine.specs.Run.{run}
use Rattle.general.proofs.Cases.{impossible}
use Rattle.model.specs.History.{New, Valid, Invalid, Lists, empty, run_lists, Change, change, timestamp, program, status, withdrawn, lists, History, all_hold}
use Rattle.model.specs.Tables.{status_number, flag_number}
use Rattle.model.specs.Figure.{Event, ran, stood, cleared, Step, turned}
use Rattle.model.specs.Walk.{settle, retry, walk}
use Rattle.acts.specs.declared.Act.{Act}
use Rattle.acts.specs.declared.Act.TheVariants as act
use Rattle.acts.specs.Acts.{act_of}

-- new lists for a change
abbrev pub settle_change : Environment → List ℤ → Change → Lists → History → Event → Step
settle_change env view c new h e = settle env view (timestamp c) (program c) (withdrawn c) (lists c) new h e

abbrev pub step_by : Act → Environment → List ℤ → Change → History → Step
step_by act.Clear env view c h = settle_change env view c empty h (cleared (timestamp c))
step_by act.Stand env view c h = turned (change (timestamp c) (program c) Valid (withdrawn c) (lists c) ∷ h) view (stood (timestamp c))
step_by act.Run env view c h = settle_change env view c (run_lists env (program c)) h (ran (timestamp c) (run env (program c)))

-- what the turn of a change does
abbrev pub act_by : Environment → Change → Act
act_by env c = act_of (flag_number (withdrawn c)) (status_number (status c)) (all_hold (lists c).reads env)

-- the walk's turn of a change that waits
pub walk-acts : (env : Environment) (view : List ℤ) (c : Change) (h : History) → (status c ≡ New) ⊎ (status c ≡ Invalid) → walk env view (c ∷ h) ≡ step_by (act_by env c) env view c h
unfolding act_of
walk-acts env view (change t p New true l) h w = refl
walk-acts env view (change t p New false l) h w = refl
walk-acts env view (change t p Invalid true l) h w = refl
walk-acts env view (change t p Invalid false l) h w = go (all_hold l.reads env)
  where
    go : (holds : Bool) → retry holds env view t p l h ≡ step_by (act_of 0 2 holds) env view (change t p Invalid false l) h
    go true = refl
    go false = refl
walk-acts env view (change t p Valid w l) h (inl e) = impossible (cc)
walk-acts env view (change t p Valid w l) h (inr e) = impossible (cc)
