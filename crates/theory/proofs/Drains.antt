-- What a drain leaves: the fresh run over the book, by turns of which none is in vain and no two are of one change.
use mathlib.Core.Path.{◌≡◌, refl, sym, ap, ◌∙◌}
use mathlib.Core.Bool.{true, false}
use mathlib.Core.List.{List, [], ◌∷◌, ◌++◌, map, append-nil, append_assoc}
use mathlib.Core.Option.{some}
use Prim.Native.Nat.{ℕ, zero, suc, ◌≤◌}
use native.Mathlib.Omega.{arith}
use lib.IntN.{ℤ}
use lib.ListN.{length}
use Rattle.machine.specs.Settings.{Environment, Holds, after}
use Rattle.model.specs.History.{New, Valid, Invalid, Lists, run_lists, change, History, after_all, all_settings}
use Rattle.model.specs.Figure.{Event, Step, idle, turned, event_timestamp, round}
use Rattle.model.specs.Drain.{Drain, drain_none, drain_step, drain_for, drain_history, RisingEvents}
use Rattle.model.specs.Book.{booked, book_of, fresh_after, fresh_run, fresh_end}
use Rattle.model.specs.Sound.{Rising}
use Rattle.model.proofs.Programs.{run_lists-holds, run_lists-run}
use Rattle.model.proofs.Keeps.{StepKeeps, keeps-rising, round_keeps}
use Rattle.model.proofs.Figure.{AllValid, drain-ends}
use Rattle.theory.specs.Demand.{NoTurn, OneTurnEach, NoneInVain, listed}
use Rattle.theory.specs.Faults.{AllShown}
use Rattle.theory.proofs.Invariant.{AllConsistent, AllTraced, Invariant}
use Rattle.theory.proofs.Turns.{valid-fresh, StepClaim, turn-claim}

-- ---- turns by rising timestamp are of different changes

rising-no-turn : (t a : ℕ) (events : List Event) → t ≤ a → RisingEvents a events → NoTurn t events
rising-no-turn t a [] q r = tt
rising-no-turn t a (e ∷ events) q r = (omega arith, rising-no-turn t (event_timestamp e) events (omega arith) r.1)

rising-one-turn : (a : ℕ) (events : List Event) → RisingEvents a events → OneTurnEach events
rising-one-turn a [] r = tt
rising-one-turn a (e ∷ events) r = (rising-no-turn (event_timestamp e) (event_timestamp e) events (omega arith) r.1, rising-one-turn (event_timestamp e) events r.1)

-- ---- the drain

-- what some turns keep
record Kept (env : Environment) (cutoff : ℕ) (events : List Event) (h : History) (d : Drain) : Type 0 where
  invariant : Invariant env cutoff (events ++ d.events) d.history d.view
  same-book : book_of d.history ≡ book_of h
  none-in-vain : NoneInVain env (book_of h) events d.events

no-turns : (env : Environment) (cutoff : ℕ) (events : List Event) (h : History) (view : List ℤ) → Invariant env cutoff events h view → Kept env cutoff events h (drain_none h view)
no-turns env cutoff events h view i = record { invariant = rw append-nil i; same-book = refl; none-in-vain = tt }

drain_for-kept : (k : ℕ) (env : Environment) (cutoff : ℕ) (events : List Event) (h : History) (view : List ℤ) → Rising 0 h → Invariant env cutoff events h view → Kept env cutoff events h (drain_for k env h view)
unfolding drain_for
drain_for-kept zero env cutoff events h view r i = no-turns env cutoff events h view i
drain_for-kept (suc k) env cutoff events h view r i = go (drain_for-kept k env cutoff) (round env h view) (round_keeps env h view) (turn-claim env cutoff events h view r i)
  where
    go : ((events : List Event) (h : History) (view : List ℤ) → Rising 0 h → Invariant env cutoff events h view → Kept env cutoff events h (drain_for k env h view)) → (s : Step) → StepKeeps h view s → StepClaim env cutoff events h s → Kept env cutoff events h (drain_step (drain_for k env) (drain_none h view) s)
    go ih idle n c = no-turns env cutoff events h view i
    go ih (turned h' view' e) n c =
        let rest = ih (events ++ (e ∷ [])) h' view' (keeps-rising 0 n r) c.invariant in
        record {
          invariant = rw append_assoc at rest.invariant;
          same-book = rest.same-book ∙ c.same-book;
          none-in-vain = (c.not-in-vain, rw c.same-book at rest.none-in-vain);
        }

-- where every change is Valid, the history has the fresh run's lists, and its settings are those at the fresh run's end
pub all-fresh : (env : Environment) (h : History) → AllConsistent env h → AllValid h → (map listed h ≡ fresh_run (book_of h) env) × (after_all h env ≡ fresh_end (book_of h) env)
all-fresh env [] k v = (refl, refl)
all-fresh env (change t p New w l ∷ h) k v = absurd v
all-fresh env (change t p Invalid w l ∷ h) k v = absurd v
all-fresh env (change t p Valid w l ∷ h) k v =
    let f = valid-fresh env t p w l k.0 in
    let rest = all-fresh (after l.writes env) h k.1 v in
    (rw f (ap ((t, l) ∷◌) rest.0), rest.1 ∙ ap (λ (m : Lists). fresh_end (book_of h) (after m.writes env)) (sym f))

-- where every change is Valid, its last run was its fresh run
all_shown : (env : Environment) (events : List Event) (h : History) → AllConsistent env h → AllTraced events h → AllValid h → AllShown events (book_of h) env
all_shown env events [] k traced v = tt
all_shown env events (change t p New w l ∷ h) k traced v = absurd v
all_shown env events (change t p Invalid w l ∷ h) k traced v = absurd v
all_shown env events (change t p Valid true l ∷ h) k traced v =
    all_shown (fresh_after (booked t p true) env) events h (rw k.0 at k.1) traced.1 v
all_shown env events (change t p Valid false l ∷ h) k traced v =
    let (env', last, lists) = traced.0 in
    let holds : Holds env (run_lists env' p).reads = rw (lists, ← k.0) (run_lists-holds env p) in
    (last ∙ ap some (sym (run_lists-run env' env p holds)), all_shown (fresh_after (booked t p false) env) events h (rw (← k.0) at k.1) traced.1 v)

pub record DrainClaim (env : Environment) (cutoff : ℕ) (events : List Event) (h : History) (d : Drain) : Type 0 where
  pub invariant : Invariant env cutoff (events ++ d.events) d.history d.view
  pub same-book : book_of d.history ≡ book_of h
  pub fresh-lists : map listed d.history ≡ fresh_run (book_of h) env
  pub fresh-view : d.view ≡ all_settings (fresh_end (book_of h) env)
  pub one-turn-each : OneTurnEach d.events
  pub none-in-vain : NoneInVain env (book_of h) events d.events
  pub shown : AllShown (events ++ d.events) (book_of h) env

pub drain-claim : (env : Environment) (cutoff : ℕ) (events : List Event) (h : History) (view : List ℤ) → Rising 0 h → Invariant env cutoff events h view → DrainClaim env cutoff events h (drain_history env h view)
unfolding drain_history
drain-claim env cutoff events h view r i =
    let d = drain_for (length h) env h view in
    let k = drain_for-kept (length h) env cutoff events h view r i in
    let ends = drain-ends env h view r in
    let f = all-fresh env d.history k.invariant.consistent ends.all_valid in
    record {
      invariant = k.invariant;
      same-book = k.same-book;
      fresh-lists = rw k.same-book at f.0;
      fresh-view = k.invariant.viewed ∙ ap all_settings (rw k.same-book at f.1);
      one-turn-each = rising-one-turn 0 d.events ends.rising-events;
      none-in-vain = k.none-in-vain;
      shown = rw k.same-book at (all_shown env (events ++ d.events) d.history k.invariant.consistent k.invariant.traced ends.all_valid);
    }
