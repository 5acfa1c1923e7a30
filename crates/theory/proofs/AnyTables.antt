-- What the calls do on any tables in form, reached by calls or not: they leave tables in form, a drain ends, and its turns are those of single calls.
use mathlib.Core.Path.{◌≡◌, refl, sym, ap, subst, ◌∙◌}
use mathlib.Core.Bool.{true}
use mathlib.Core.List.{List}
use Prim.Native.Nat.{ℕ}
use native.Mathlib.Omega.{arith}
use lib.IntN.{ℤ}
use lib.ListN.{length, length-map}
use Rattle.general.proofs.Cases.{impossible}
use Rattle.model.specs.Answers.{Turned, Idle}
use Rattle.model.specs.History.{History}
use Rattle.model.specs.Figure.{Event, Step, idle, turned}
use Rattle.model.specs.Drain.{drain_none, drain_more, drain_history}
use Rattle.model.specs.Cabinet.{Cabinet, kept_values_in, history_of, with_history}
use Rattle.model.specs.Tables.{Tables, encode}
use Rattle.model.specs.Form.{lengths_fit, Formed}
use Rattle.model.specs.Calls.{set_up, event_answer, round_of, drain_of}
use Rattle.model.specs.Log.{Call, Ledger}
use Rattle.model.specs.Sound.{Sound}
use Rattle.model.proofs.Answers.{by-event}
use Rattle.model.proofs.Cabinet.{with_history-history, same-history, history-again}
use Rattle.model.proofs.Order.{changes_at-length}
use Rattle.model.proofs.Keeps.{StepKeeps, Keeps, keeps-length, round_keeps, drain-keeps, round-sound, drain-sound}
use Rattle.model.proofs.Figure.{drain-ends, drain-within, drain-idle, drain-next}
use Rattle.model.proofs.Tests.{lengths-of}
use Rattle.model.proofs.Form.{encode-formed, facts}
use Rattle.theory.specs.AnyTables.{KeepsForm, DrainsAny, DrainsByTurns}
use Rattle.theory.proofs.Calls.{empty-sound, turn-call, drain-call, drain-events, drain-answered, drained-history, call-tables, call-sound}

-- ---- form

-- tables of the right lengths, set up
pub set-up-formed : (n : ℕ) (T : Tables) → lengths_fit n T ≡ true → Formed n (set_up n T).tables
unfolding set_up
set-up-formed n T e = rw e (encode-formed (empty-sound n T (lengths-of n T e)))

pub calls-keep-form : (n : ℕ) (call : Call) (k : Ledger) → KeepsForm n call k
calls-keep-form n call k f =
    let s = (facts f).sound in
    rw (call-tables s call k (sym (facts f).laid)) (encode-formed (call-sound s call))

-- ---- a drain ends

drain-any : {n : ℕ} {c : Cabinet} → Sound n c → DrainsAny n (encode n c)
unfolding encode
drain-any {n} {c} s =
    let d = drain-ends (kept_values_in c) (history_of c) c.view s.rising in
    let within = drain-within (kept_values_in c) (history_of c) c.view in
    let turns = length-map (drain_of c).events event_answer in
    record {
      answered = drain-answered s;
      rising-turns = rw (drain-events s) d.rising-events;
      few-turns = rw (drain-events s) (omega (arith, within, turns, changes_at-length c.changes c.order, s.placed.counted));
      idle-next = rw (drain-call s, turn-call (drain-sound s), drained-history s, d.idle-next);
    }

pub drains-any : (n : ℕ) (T : Tables) → Formed n T → DrainsAny n T
drains-any n T f = subst (DrainsAny n) (facts f).laid (drain-any (facts f).sound)

-- ---- its turns

event-not-idle : (e : Event) → ¬ (event_answer e ≡ Idle)
event-not-idle e =
    by-event (λ (a : Turned). ¬ (a ≡ Idle)) (λ t q. impossible (cc)) (λ t q. impossible (cc)) (λ t q. impossible (cc)) (λ t place q. impossible (cc)) e

module _ {n : ℕ} {c : Cabinet} (s : Sound n c) where
  -- where a turn is idle
  idle-drain : round_of c ≡ idle → DrainsByTurns n (encode n c)
  idle-drain q =
      let none : drain_of c ≡ drain_none (history_of c) c.view = drain-idle (kept_values_in c) (history_of c) c.view q in
      record {
        idle-leaves = λ i. rw (turn-call s, q);
        none_left = λ i. (rw (drain-events s, none), rw (drain-call s, none) (ap (encode n) (same-history c)));
        one_more = λ f. absurd (f (rw (turn-call s, q)));
      }

  -- after a turn
  module _ {h : History} {view : List ℤ} {e : Event} (q : round_of c ≡ turned h view e) where
    abbrev next : Cabinet
    next = with_history c h view

    next-sound : Sound n next
    next-sound = round-sound s q

    kept : Keeps (history_of c) c.view h view
    kept = subst (StepKeeps (history_of c) c.view) q (round_keeps (kept_values_in c) (history_of c) c.view)

    next-history : history_of next ≡ h
    next-history = with_history-history c h view s.placed (keeps-length kept)

    first-turn : drain_of c ≡ drain_more e (drain_of next)
    first-turn =
        drain-next (kept_values_in c) (history_of c) c.view s.rising q
        ∙ ap (λ (g : History). drain_more e (drain_history (kept_values_in c) g view)) (sym next-history)

    same_length : length (drain_of next).history ≡ length (history_of c)
    same_length = keeps-length (drain-keeps (kept_values_in c) (history_of next) view) ∙ ap length next-history ∙ keeps-length kept

    turn-drain : DrainsByTurns n (encode n c)
    turn-drain =
        record {
          idle-leaves = λ i. absurd (event-not-idle e (rw (turn-call s, q) at i));
          none_left = λ i. absurd (event-not-idle e (rw (turn-call s, q) at i));
          one_more = λ f. (
            rw (turn-call s, q, drain-events s, drain-events next-sound, first-turn),
            rw (turn-call s, q, drain-call s, drain-call next-sound, first-turn)
                (ap (encode n) (sym (history-again c h (drain_of next).history view (drain_of next).view s.placed same_length))),
          );
        }

  by-turns : DrainsByTurns n (encode n c)
  by-turns = go (round_of c) refl
    where
      go : (x : Step) → round_of c ≡ x → DrainsByTurns n (encode n c)
      go idle q = idle-drain q
      go (turned h view e) q = turn-drain q

pub drains-by-turns : (n : ℕ) (T : Tables) → Formed n T → DrainsByTurns n T
drains-by-turns n T f = subst (DrainsByTurns n) (facts f).laid (by-turns (facts f).sound)
