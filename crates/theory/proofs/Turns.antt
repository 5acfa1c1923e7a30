-- What a turn keeps, and what it brings.
use mathlib.Core.Path.{◌≡◌, refl, sym, ap, ◌∙◌}
use mathlib.Core.Bool.{Bool, true, false, cond}
use mathlib.Core.List.{List, [], ◌∷◌, ◌++◌, map}
use Prim.Native.Nat.{ℕ, ◌<◌, ◌≤◌}
use native.Mathlib.Omega.{arith}
use borrow.Author.Tests.{lt-ltb, le-ltb}
use lib.IntN.{ℤ}
use Rattle.machine.specs.Settings.{Environment, value_in, after}
use Rattle.machine.specs.Instruction.{Code}
use Rattle.machine.specs.Run.{Outcome, run}
use Rattle.general.proofs.Cases.{by-test, impossible, true-is-not-false}
use Rattle.model.specs.History.{Status, New, Valid, Invalid, Lists, empty, run_lists, Change, change, timestamp, History, after_all, all_settings, all_hold}
use Rattle.model.specs.Figure.{Event, ran, stood, cleared, Step, idle, turned, event_timestamp, round}
use Rattle.model.specs.Walk.{differs, mark_live, live_at_end, pass, settle, retry, walk}
use Rattle.model.specs.Book.{Book, booked, book_of, fresh_lists}
use Rattle.model.specs.Sound.{Rising, NotIn}
use Rattle.model.proofs.Values.{value-all_settings, all_settings-same}
use Rattle.model.proofs.Programs.{run_lists-same, run_lists-reads, all_hold-holds, holds-all_hold}
use Rattle.model.proofs.Keeps.{StepKeeps, round_keeps}
use Rattle.model.proofs.Figure.{round-walk}
use Rattle.theory.specs.Demand.{NotInVain}
use Rattle.theory.proofs.Events.{last-other, last-stood, last-ran}
use Rattle.theory.proofs.Invariant.{Consistent, AllConsistent, LastRan, Traced, AllTraced, Invariant}
use Rattle.theory.proofs.Marking.{differs-agree, marked-consistent, marked-after, marked-book, marked-traced, agree_after, live-unwritten}

-- ---- the turns so far

other-last-ran : (events : List Event) (e : Event) (t : ℕ) (p : Code) (l : Lists) → ¬ (event_timestamp e ≡ t) → LastRan events t p l → LastRan (events ++ (e ∷ [])) t p l
other-last-ran events e t p l n (env, last, lists) = (env, last-other events e t n ∙ last, lists)

other-traced : (events : List Event) (e : Event) (c : Change) → ¬ (event_timestamp e ≡ timestamp c) → Traced events c → Traced (events ++ (e ∷ [])) c
other-traced events e (change t p New w l) n k = last-other events e t n ∙ k
other-traced events e (change t p Valid true l) n k = tt
other-traced events e (change t p Valid false l) n k = other-last-ran events e t p l n k
other-traced events e (change t p Invalid true l) n k = tt
other-traced events e (change t p Invalid false l) n k = other-last-ran events e t p l n k

-- a turn of a change below a history
later-traced : (events : List Event) (e : Event) (b : ℕ) (h : History) → event_timestamp e ≤ b → Rising b h → AllTraced events h → AllTraced (events ++ (e ∷ [])) h
later-traced events e b [] q r k = tt
later-traced events e b (c ∷ h) q r k =
    (other-traced events e c (omega arith) k.0, later-traced events e (timestamp c) h (omega arith) r.2 k.1)

-- ---- a run that is not in vain

-- a Valid change has the fresh run's lists
pub valid-fresh : (env : Environment) (t : ℕ) (p : Code) (w : Bool) (l : Lists) → Consistent env (change t p Valid w l) → fresh_lists (booked t p w) env ≡ l
valid-fresh env t p true l k = sym k
valid-fresh env t p false l k = k

-- what holds of the turns from the settings after a Valid change holds from those before it
passed-not-in-vain : (env : Environment) (t : ℕ) (p : Code) (w : Bool) (l : Lists) (book : Book) (events : List Event) (e : Event) → Consistent env (change t p Valid w l) → t < event_timestamp e → NotInVain (after l.writes env) book events e → NotInVain env (booked t p w ∷ book) events e
passed-not-in-vain env t p w l book events (ran u new) k q n = λ old r s. n old r (rw (lt-ltb t u q, valid-fresh env t p w l k) at s)
passed-not-in-vain env t p w l book events (stood u) k q n = tt
passed-not-in-vain env t p w l book events (cleared u) k q n = tt

-- a run is not in vain where a value seen is no longer the setting's
changed-not-in-vain : (env : Environment) (book : Book) (events : List Event) (t : ℕ) (p : Code) (l : Lists) (new : Outcome) → LastRan events t p l → all_hold l.reads env ≡ false → NotInVain env (booked t p false ∷ book) events (ran t new)
changed-not-in-vain env book events t p l new (env', last, lists) f old r s =
    let same : old ≡ run env' p = cc in
    let reads : old.reads ≡ l.reads = ap (λ (o : Outcome). o.reads) same ∙ sym (run_lists-reads env' p) ∙ ap (λ (m : Lists). m.reads) lists in
    let held : all_hold l.reads env ≡ true = holds-all_hold l.reads env (rw (le-ltb t t (omega arith), reads) at s) in
    true-is-not-false (sym held ∙ f)

-- ---- the turn

-- what a turn that answers e keeps and brings, on a history stamped above b, where env is the settings as of its first change
record Kept (env : Environment) (b : ℕ) (events : List Event) (h h' : History) (view' : List ℤ) (e : Event) : Type 0 where
  consistent : AllConsistent env h'
  viewed : view' ≡ all_settings (after_all h' env)
  traced : AllTraced (events ++ (e ∷ [])) h'
  same-book : book_of h' ≡ book_of h
  not-in-vain : NotInVain env (book_of h) events e
  later : b < event_timestamp e
  held : (t : ℕ) → NotIn t (map timestamp h) → ¬ (event_timestamp e ≡ t)

abbrev KeptStep : Environment → ℕ → List Event → History → Step → Type 0
KeptStep env b events h idle = Unit {0}
KeptStep env b events h (turned h' view' e) = Kept env b events h h' view' e

-- the view after new lists for the first change
settle-viewed : (env : Environment) (view : List ℤ) (old new : Lists) (h : History) → view ≡ all_settings (after_all h (after old.writes env)) → all_settings (λ x. cond (live_at_end (differs old new env) h x) (after new.writes env x) (value_in view x)) ≡ all_settings (after_all (mark_live (differs old new env) h) (after new.writes env))
settle-viewed env view old new h v =
    let live = differs old new env in
    let before = after old.writes env in
    let later = after new.writes env in
    all_settings-same (λ x. cond (live_at_end live h x) (later x) (value_in view x)) (after_all h later)
    (λ x q. by-test (◌≡ after_all h later x) (live_at_end live h x) (λ e. sym (live-unwritten live later h x e).1)
    (λ e. (rw v (value-all_settings (after_all h before) x q)) ∙ agree_after live before later (differs-agree old new env) h x e))
    ∙ ap all_settings (sym (marked-after live h later))

module _ (env : Environment) (view : List ℤ) (b : ℕ) (events : List Event) (t : ℕ) (p : Code) (s : Status) (w : Bool) (l : Lists) (h : History) (k : AllConsistent env (change t p s w l ∷ h)) (v : view ≡ all_settings (after_all h (after l.writes env))) (r : Rising b (change t p s w l ∷ h)) (tr : AllTraced events (change t p s w l ∷ h)) where
  settle-kept : (new : Lists) (e : Event) → event_timestamp e ≡ t → Consistent env (change t p Valid w new) → Traced (events ++ (e ∷ [])) (change t p Valid w new) → NotInVain env (book_of (change t p s w l ∷ h)) events e → KeptStep env b events (change t p s w l ∷ h) (settle env view t p w l new h e)
  settle-kept new e q k' tr' f =
      record {
        consistent = (k', marked-consistent (differs l new env) (after l.writes env) (after new.writes env) (differs-agree l new env) h k.1);
        viewed = settle-viewed env view l new h v;
        traced = (tr', marked-traced (differs l new env) (events ++ (e ∷ [])) h (later-traced events e t h (omega arith) r.2 tr.1));
        same-book = ap (booked t p w ∷◌) (marked-book (differs l new env) h);
        not-in-vain = f;
        later = omega arith;
        held = λ u m. omega arith;
      }

walk_kept : (env : Environment) (view : List ℤ) (b : ℕ) (events : List Event) (h : History) → AllConsistent env h → view ≡ all_settings (after_all h env) → Rising b h → AllTraced events h → KeptStep env b events h (walk env view h)
walk_kept env view b events [] k v r tr = tt
walk_kept env view b events (change t p Valid w l ∷ h) k v r tr =
    go (walk (after l.writes env) view h) (walk_kept (after l.writes env) view t events h k.1 v r.2 tr.1)
  where
    go : (s : Step) → KeptStep (after l.writes env) t events h s → KeptStep env b events (change t p Valid w l ∷ h) (pass (change t p Valid w l) s)
    go idle a = tt
    go (turned h' view' e) a =
        record {
          consistent = (k.0, a.consistent);
          viewed = a.viewed;
          traced = (other-traced events e (change t p Valid w l) (omega arith) tr.0, a.traced);
          same-book = ap (booked t p w ∷◌) a.same-book;
          not-in-vain = passed-not-in-vain env t p w l (book_of h) events e k.0 a.later a.not-in-vain;
          later = omega arith;
          held = λ u n. a.held u n.1;
        }
walk_kept env view b events (change t p New true l ∷ h) k v r tr =
    settle-kept env view b events t p New true l h k v r tr empty (cleared t) refl refl tt tt
walk_kept env view b events (change t p New false l ∷ h) k v r tr =
    settle-kept env view b events t p New false l h k v r tr (run_lists env p) (ran t (run env p)) refl refl (env, last-ran events t (run env p), refl)
    (λ old seen s. impossible (cc))
walk_kept env view b events (change t p Invalid true l ∷ h) k v r tr =
    settle-kept env view b events t p Invalid true l h k v r tr empty (cleared t) refl refl tt tt
walk_kept env view b events (change t p Invalid false l ∷ h) k v r tr =
    go (all_hold l.reads env) refl
  where
    go : (y : Bool) → all_hold l.reads env ≡ y → KeptStep env b events (change t p Invalid false l ∷ h) (retry y env view t p l h)
    go true q =
        let (env', last, lists) = tr.0 in
        record {
          consistent = (run_lists-same env' env p (rw lists (all_hold-holds l.reads env q)) ∙ lists, k.1);
          viewed = v;
          traced = ((env', last-stood events t t ∙ last, lists), later-traced events (stood t) t h (omega arith) r.2 tr.1);
          same-book = refl;
          not-in-vain = tt;
          later = r.0;
          held = λ u m. omega arith;
        }
    go false q =
        settle-kept env view b events t p Invalid false l h k v r tr (run_lists env p) (ran t (run env p)) refl refl (env, last-ran events t (run env p), refl)
        (changed-not-in-vain env (book_of h) events t p l (run env p) tr.0 q)

-- ---- a turn

pub record TurnClaim (env : Environment) (cutoff : ℕ) (events : List Event) (h h' : History) (view' : List ℤ) (e : Event) : Type 0 where
  pub invariant : Invariant env cutoff (events ++ (e ∷ [])) h' view'
  pub same-book : book_of h' ≡ book_of h
  pub not-in-vain : NotInVain env (book_of h) events e

abbrev pub StepClaim : Environment → ℕ → List Event → History → Step → Type 0
StepClaim env cutoff events h idle = Unit {0}
StepClaim env cutoff events h (turned h' view' e) = TurnClaim env cutoff events h h' view' e

pub turn-claim : (env : Environment) (cutoff : ℕ) (events : List Event) (h : History) (view : List ℤ) → Rising 0 h → Invariant env cutoff events h view → StepClaim env cutoff events h (round env h view)
turn-claim env cutoff events h view r i =
    go (round env h view) (round_keeps env h view)
    (rw (round-walk env h view 0 r) (walk_kept env view 0 events h i.consistent i.viewed r i.traced))
  where
    go : (s : Step) → StepKeeps h view s → KeptStep env 0 events h s → StepClaim env cutoff events h s
    go idle n k = tt
    go (turned h' view' e) n k =
        record {
          invariant =
              record {
                consistent = k.consistent;
                viewed = k.viewed;
                traced = k.traced;
                unheld = λ t q m. let m' = rw n.timestamps at m in last-other events e t (k.held t m') ∙ i.unheld t q m';
              };
          same-book = k.same-book;
          not-in-vain = k.not-in-vain;
        }
