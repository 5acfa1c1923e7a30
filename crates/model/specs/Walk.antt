-- A turn as one walk up the history that carries the settings along: what proofs use. Nobody has to believe it: on histories by rising timestamp it is the round of Figure (proofs/Figure).
use Rattle.std.specs.Prelude.{Bool, true, false, cond, not, ◌&&◌, List, [], ◌∷◌, ℕ, ltb, ℤ}
use Rattle.machine.specs.Settings.{Environment, value_in, is_some, lookup, after}
use Rattle.machine.specs.Instruction.{Code}
use Rattle.machine.specs.Run.{run}
use Rattle.model.specs.History.{New, Valid, Invalid, Lists, empty, run_lists, Change, change, timestamp, lists, History, all_settings, eq_z, all_hold}
use Rattle.model.specs.Figure.{Event, ran, stood, cleared, Step, idle, turned, reads_any, mark_update}

-- a setting changed if its values after the old and after the new lists differ
abbrev pub differs : Lists → Lists → Environment → ℕ → Bool
differs old new env x = not (eq_z (after old.writes env x) (after new.writes env x))

-- a changed setting is live up to and including the next writer
abbrev pub close : (ℕ → Bool) → Lists → ℕ → Bool
close live l x = live x && not (is_some (lookup l.writes x))

-- Valid changes that read a live setting become Invalid
abbrev pub mark_live : (ℕ → Bool) → History → History
mark_live live [] = []
mark_live live (c ∷ h) = mark_update (reads_any live (lists c).reads) c ∷ mark_live (close live (lists c)) h

-- what is live past the last change
abbrev pub live_at_end : (ℕ → Bool) → History → ℕ → Bool
live_at_end live [] = live
live_at_end live (c ∷ h) = live_at_end (close live (lists c)) h

-- a change before the one whose turn it is
abbrev pub pass : Change → Step → Step
pass c idle = idle
pass c (turned h view e) = turned (c ∷ h) view e

-- new lists for the first change, marking, and the view
abbrev pub settle : Environment → List ℤ → ℕ → Code → Bool → Lists → Lists → History → Event → Step
settle env view t p w old new h e =
    turned (change t p Valid w new ∷ mark_live (differs old new env) h)
    (all_settings (λ x. cond (live_at_end (differs old new env) h x) (after new.writes env x) (value_in view x)))
    e

abbrev pub retry : Bool → Environment → List ℤ → ℕ → Code → Lists → History → Step
retry true env view t p old h = turned (change t p Valid false old ∷ h) view (stood t)
retry false env view t p old h = settle env view t p false old (run_lists env p) h (ran t (run env p))

-- one turn, where env is the settings as of the first change
abbrev pub walk : Environment → List ℤ → History → Step
walk env view [] = idle
walk env view (change t p Valid w l ∷ h) = pass (change t p Valid w l) (walk (after l.writes env) view h)
walk env view (change t p New true l ∷ h) = settle env view t p true l empty h (cleared t)
walk env view (change t p New false l ∷ h) = settle env view t p false l (run_lists env p) h (ran t (run env p))
walk env view (change t p Invalid true l ∷ h) = settle env view t p true l empty h (cleared t)
walk env view (change t p Invalid false l ∷ h) = retry (all_hold l.reads env) env view t p l h

-- the history with a change taken in: New, not withdrawn, lists empty, below the first change stamped above t
abbrev pub insert : ℕ → Code → History → History
insert t p [] = change t p New false empty ∷ []
insert t p (c ∷ h) = cond (ltb t (timestamp c)) (change t p New false empty ∷ c ∷ h) (c ∷ insert t p h)
