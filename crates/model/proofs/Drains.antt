-- A drain, on a history by rising timestamp: it ends with every change Valid, its turns go by rising timestamp and are at most as many as the changes, and it is its first turn and the drain of what that leaves.
use mathlib.Core.Path.{◌≡◌, refl, sym, ap, subst, ◌∙◌}
use mathlib.Core.Bool.{Bool, true, false}
use mathlib.Core.List.{List, [], ◌∷◌}
use mathlib.Core.Option.{Option, none, some}
use Prim.Native.Nat.{ℕ, zero, suc, ◌+◌, ◌<◌, ◌≤◌}
use native.Mathlib.Omega.{arith}
use lib.IntN.{ℤ}
use lib.ListN.{length}
use Rattle.machine.specs.Settings.{Environment, after}
use Rattle.machine.specs.Instruction.{Code}
use Rattle.machine.specs.Run.{run}
use Rattle.model.specs.History.{New, Valid, Invalid, Lists, empty, run_lists, Change, change, timestamp, History, all_hold}
use Rattle.model.specs.Figure.{Event, ran, stood, cleared, event_timestamp, Step, idle, turned, lowest_waiting, round_at, round}
use Rattle.model.specs.Drain.{Drain, drain_none, drain_more, drain_step, drain_for, drain_history, RisingEvents}
use Rattle.model.specs.Walk.{close, mark_live, pass, retry, walk}
use Rattle.model.specs.Sound.{Rising}
use Rattle.model.proofs.Round.{WaitsAbove, rising-waits, round-walk}
use Rattle.model.proofs.Keeps.{Keeps, StepKeeps, keeps-length, keeps-rising, round_keeps, drain-keeps}

-- ---- a turn

abbrev pub AllValid : History → Type 0
AllValid [] = Unit {0}
AllValid (change t p New w l ∷ h) = ⊥
AllValid (change t p Invalid w l ∷ h) = ⊥
AllValid (change t p Valid w l ∷ h) = AllValid h

-- how many Valid changes stand before the first that waits
abbrev valid_before : History → ℕ
valid_before [] = 0
valid_before (change t p New w l ∷ h) = 0
valid_before (change t p Invalid w l ∷ h) = 0
valid_before (change t p Valid w l ∷ h) = suc (valid_before h)

valid-within : (h : History) → valid_before h ≤ length h
valid-within [] = omega arith
valid-within (change t p New w l ∷ h) = omega arith
valid-within (change t p Invalid w l ∷ h) = omega arith
valid-within (change t p Valid w l ∷ h) = let rest = valid-within h in omega arith

-- the turn is of the lowest change that waits, and of those that wait after it none is lower
record Ordered (h h' : History) (e : Event) : Type 0 where
  lowest : (a : ℕ) → WaitsAbove a h → a < event_timestamp e
  later : WaitsAbove (event_timestamp e) h'
  more-valid : valid_before h < valid_before h'

abbrev OrderedStep : History → Step → Type 0
OrderedStep h idle = AllValid h
OrderedStep h (turned h' view e) = Ordered h h' e

ordered-pass : (t : ℕ) (p : Code) (w : Bool) (l : Lists) (h : History) (s : Step) → OrderedStep h s → OrderedStep (change t p Valid w l ∷ h) (pass (change t p Valid w l) s)
ordered-pass t p w l h idle k = k
ordered-pass t p w l h (turned h' view e) k = record { lowest = k.lowest; later = k.later; more-valid = omega arith }

-- the first change had the turn
ordered-first : (c : Change) (h h' : History) (p : Code) (w : Bool) (new : Lists) (e : Event) → lowest_waiting (c ∷ h) ≡ some c → valid_before (c ∷ h) ≡ 0 → event_timestamp e ≡ timestamp c → Rising (timestamp c) h' → Ordered (c ∷ h) (change (timestamp c) p Valid w new ∷ h') e
ordered-first c h h' p w new e k z q r =
    record { lowest = λ a f. rw q (f c k); later = rw q (rising-waits (timestamp c) h' r); more-valid = omega arith }

mark-rising : (live : ℕ → Bool) (b : ℕ) (h : History) → Rising b h → Rising b (mark_live live h)
mark-rising live b [] r = tt
mark-rising live b (change t p s w l ∷ h) r = (r.0, r.1, mark-rising (close live l) t h r.2)

walk-ordered : (env : Environment) (view : List ℤ) (b : ℕ) (h : History) → Rising b h → OrderedStep h (walk env view h)
walk-ordered env view b [] r = tt
walk-ordered env view b (change t p Valid w l ∷ h) r =
    ordered-pass t p w l h (walk (after l.writes env) view h) (walk-ordered (after l.writes env) view t h r.2)
walk-ordered env view b (change t p New true l ∷ h) r =
    ordered-first (change t p New true l) h _ p true empty (cleared t) refl refl refl (mark-rising _ t h r.2)
walk-ordered env view b (change t p New false l ∷ h) r =
    ordered-first (change t p New false l) h _ p false (run_lists env p) (ran t (run env p)) refl refl refl (mark-rising _ t h r.2)
walk-ordered env view b (change t p Invalid true l ∷ h) r =
    ordered-first (change t p Invalid true l) h _ p true empty (cleared t) refl refl refl (mark-rising _ t h r.2)
walk-ordered env view b (change t p Invalid false l ∷ h) r = go (all_hold l.reads env)
  where
    go : (holds : Bool) → OrderedStep (change t p Invalid false l ∷ h) (retry holds env view t p l h)
    go true = ordered-first (change t p Invalid false l) h h p false l (stood t) refl refl refl r.2
    go false = ordered-first (change t p Invalid false l) h _ p false (run_lists env p) (ran t (run env p)) refl refl refl (mark-rising _ t h r.2)

-- ---- a drain's end

record Finished (a : ℕ) (d : Drain) : Type 0 where
  all_valid : AllValid d.history
  rising-events : RisingEvents a d.events

enough-valid : (h : History) → length h ≤ valid_before h → AllValid h
enough-valid [] q = tt
enough-valid (change t p New w l ∷ h) q = absurd (omega arith)
enough-valid (change t p Invalid w l ∷ h) q = absurd (omega arith)
enough-valid (change t p Valid w l ∷ h) q = enough-valid h (omega arith)

drain-finishes : (k : ℕ) (env : Environment) (a : ℕ) (h : History) (view : List ℤ) → Rising 0 h → WaitsAbove a h → length h ≤ k + valid_before h → Finished a (drain_for k env h view)
unfolding drain_for
drain-finishes zero env a h view r w q = record { all_valid = enough-valid h (omega arith); rising-events = tt }
drain-finishes (suc k) env a h view r w q =
    go (drain-finishes k env) (round env h view) (round_keeps env h view)
    (rw (round-walk env h view 0 r) (walk-ordered env view 0 h r))
  where
    go : ((a' : ℕ) (h' : History) (view' : List ℤ) → Rising 0 h' → WaitsAbove a' h' → length h' ≤ k + valid_before h' → Finished a' (drain_for k env h' view')) → (s : Step) → StepKeeps h view s → OrderedStep h s → Finished a (drain_step (drain_for k env) (drain_none h view) s)
    go ih idle n m = record { all_valid = m; rising-events = tt }
    go ih (turned h' view' e) n m =
        let d = ih (event_timestamp e) h' view' (keeps-rising 0 n r) m.later (omega (arith, keeps-length n)) in
        record { all_valid = d.all_valid; rising-events = (m.lowest a w, d.rising-events) }

none-waits : (h : History) → AllValid h → lowest_waiting h ≡ none
none-waits [] k = refl
none-waits (change t p New w l ∷ h) k = absurd k
none-waits (change t p Invalid w l ∷ h) k = absurd k
none-waits (change t p Valid w l ∷ h) k = none-waits h k

-- no turn is left after a drain; the timestamps of its turns rise, so that no change had two
pub record DrainEnds (env : Environment) (d : Drain) : Type 0 where
  pub idle-next : round env d.history d.view ≡ idle
  pub all_valid : AllValid d.history
  pub rising : Rising 0 d.history
  pub rising-events : RisingEvents 0 d.events

pub drain-ends : (env : Environment) (h : History) (view : List ℤ) → Rising 0 h → DrainEnds env (drain_history env h view)
unfolding round drain_history
drain-ends env h view r =
    let d = drain_for (length h) env h view in
    let f = drain-finishes (length h) env 0 h view r (rising-waits 0 h r) (omega arith) in
    record {
      idle-next = ap (round_at env d.history d.view) (none-waits d.history f.all_valid);
      all_valid = f.all_valid;
      rising = keeps-rising 0 (drain-keeps env h view) r;
      rising-events = f.rising-events;
    }

-- ---- how many turns

turns-within : (k : ℕ) (env : Environment) (h : History) (view : List ℤ) → length (drain_for k env h view).events ≤ k
unfolding drain_for
turns-within zero env h view = omega arith
turns-within (suc k) env h view = go (turns-within k env) (round env h view)
  where
    go : ((h : History) (view : List ℤ) → length (drain_for k env h view).events ≤ k) → (s : Step) → length (drain_step (drain_for k env) (drain_none h view) s).events ≤ suc k
    go ih idle = omega arith
    go ih (turned h' view' e) = let rest = ih h' view' in omega arith

-- at most as many turns as changes
pub drain-within : (env : Environment) (h : History) (view : List ℤ) → length (drain_history env h view).events ≤ length h
unfolding drain_history
drain-within env h view = turns-within (length h) env h view

-- ---- a drain by its first turn

-- one turn more than enough alters nothing
drain-enough : (k : ℕ) (env : Environment) (h : History) (view : List ℤ) → Rising 0 h → length h ≤ k + valid_before h → drain_for (suc k) env h view ≡ drain_for k env h view
unfolding drain_for round
drain-enough zero env h view r q = ap (λ (waiting : Option Change). drain_step (drain_for 0 env) (drain_none h view) (round_at env h view waiting)) (none-waits h (enough-valid h (omega arith)))
drain-enough (suc k) env h view r q =
    go (drain-enough k env) (round env h view) (round_keeps env h view)
    (rw (round-walk env h view 0 r) (walk-ordered env view 0 h r))
  where
    go : ((h' : History) (view' : List ℤ) → Rising 0 h' → length h' ≤ k + valid_before h' → drain_for (suc k) env h' view' ≡ drain_for k env h' view') → (s : Step) → StepKeeps h view s → OrderedStep h s → drain_step (drain_for (suc k) env) (drain_none h view) s ≡ drain_step (drain_for k env) (drain_none h view) s
    go ih idle n m = refl
    go ih (turned h' view' e) n m = ap (drain_more e) (ih h' view' (keeps-rising 0 n r) (omega (arith, keeps-length n)))

module _ (env : Environment) (h : History) (view : List ℤ) where
  pub drain-idle : round env h view ≡ idle → drain_history env h view ≡ drain_none h view
  unfolding drain_history drain_for
  drain-idle q = go (length h)
    where
      go : (k : ℕ) → drain_for k env h view ≡ drain_none h view
      go zero = refl
      go (suc k) = ap (drain_step (drain_for k env) (drain_none h view)) q

  -- its first turn, and the drain of what that leaves
  pub drain-next : {h' : History} {view' : List ℤ} {e : Event} → Rising 0 h → round env h view ≡ turned h' view' e → drain_history env h view ≡ drain_more e (drain_history env h' view')
  unfolding drain_history drain_for
  drain-next {h'} {view'} {e} r q =
      go (length h) (subst (StepKeeps h view) q (round_keeps env h view)) (subst (OrderedStep h) (sym (round-walk env h view 0 r) ∙ q) (walk-ordered env view 0 h r)) (omega arith)
    where
      go : (k : ℕ) → Keeps h view h' view' → Ordered h h' e → length h ≡ k → drain_for k env h view ≡ drain_more e (drain_for (length h') env h' view')
      go zero n m l = absurd (omega (arith, m.more-valid, valid-within h', keeps-length n))
      go (suc k) n m l =
          let same : length h' ≡ suc k = keeps-length n ∙ l in
          ap (drain_step (drain_for k env) (drain_none h view)) q
          ∙ ap (drain_more e) (sym (drain-enough k env h' view' (keeps-rising 0 n r) (omega (arith, m.more-valid, same))) ∙ ap (λ (m : ℕ). drain_for m env h' view') (sym same))
