-- A drain of tables in form, turn by turn.
use mathlib.Core.Path.{◌≡◌, refl, sym, ap, ap₂, subst, ◌∙◌}
use mathlib.Core.List.{List, [], ◌∷◌}
use mathlib.Core.Logic.{inl, inr}
use mathlib.Core.Option.{none}
use Prim.Native.Nat.{ℕ, ◌+◌, ◌<◌, ◌≤◌}
use native.Mathlib.Omega.{arith}
use lib.IntN.{ℤ}
use lib.ListN.{length, get_or, replicate, length-replicate, get_or-replicate}
use Rattle.model.specs.Answers.{Turned}
use Rattle.model.specs.History.{History}
use Rattle.model.specs.Figure.{Event, Step, idle, turned}
use Rattle.model.specs.Drain.{Drain, drain_more, drain_history, total_count, total_at}
use Rattle.model.specs.Cabinet.{Cabinet, kept_values_in, history_of, with_history}
use Rattle.model.specs.Tables.{Tables, encode, decode}
use Rattle.model.specs.Calls.{Reply, reply, event_answer, step_reply, round_of, drain_of}
use Rattle.model.specs.Sound.{Sound}
use Rattle.model.proofs.Cabinet.{with_history-history, same-history, history-again}
use Rattle.model.proofs.Encode.{lengths-encode}
use Rattle.model.proofs.Figure.{round-walk, drain-within, drain-idle, drain-next}
use Rattle.model.proofs.Keeps.{StepKeeps, Keeps, keeps-length, round_keeps, drain-keeps, round-sound}
use Rattle.model.proofs.Order.{changes_at-length}
use Rattle.model.proofs.Tables.{decode-encode}
use Rattle.model.proofs.Totals.{totals-are, count-within}
use Rattle.model.specs.Form.{Formed}
use Rattle.model.proofs.Form.{facts, encode-formed}
use Rattle.search.specs.Searches.{waiting_in}
use Rattle.search.proofs.Model.{history_in}
use Rattle.search.proofs.Waits.{walk_none}
use Rattle.turns.specs.Turns as turns
use Rattle.totals.specs.Counted.{Countable, counted_in}
use Rattle.totals.proofs.Counted.{counted-length, counted_next}
use Rattle.drain_steps.specs.Passed.{Passed}
use Rattle.passing.specs.Drained.{drained}

-- ---- the tables of a drain under way

-- the turns that a drain of some tables has
abbrev turns_of : Tables → List Event
turns_of T = (drain_of (decode T)).events

-- `counted` has the totals of the turns so far: the drain of what is left is the rest of the whole drain
pub record Draining (T₀ T : Tables) (counted : List ℕ) : Type 0 where
  pub formed : Formed (length T.order) T
  pub rest : (drained T).tables ≡ (drained T₀).tables
  pub size : length counted ≡ total_count
  pub counts : (place : ℕ) → place < total_count → get_or counted place 0 + total_at place (turns_of T) ≡ total_at place (turns_of T₀)

-- 1,024 zeros are as many as the totals
pub zeros-size : {counted : List ℕ} → counted ≡ replicate total_count 0 → length counted ≡ total_count
zeros-size z = ap length z ∙ length-replicate {A = ℕ} total_count 0

module _ (T : Tables) (g : Formed (length T.order) T) where
  abbrev capacity : ℕ
  capacity = length T.order

  sound : Sound capacity (decode T)
  sound = (facts g).sound

  -- no turn yet
  pub drain-begins : {counted : List ℕ} → counted ≡ replicate total_count 0 → Draining T T counted
  drain-begins z =
      record {
        formed = g;
        rest = refl;
        size = zeros-size z;
        counts = λ place h. rw z (omega (arith, get_or-replicate {A = ℕ} total_count place 0 0 h));
      }

  -- an idle turn is the last
  module _ (q : round_of (decode T) ≡ idle) where
    idle-turns : turns_of T ≡ []
    idle-turns = ap (λ (d : Drain). d.events) (drain-idle (kept_values_in (decode T)) (history_of (decode T)) (decode T).view q)

    idle-tables : (drained T).tables ≡ T
    idle-tables =
        ap (λ (d : Drain). encode capacity (with_history (decode T) d.history d.view)) (drain-idle (kept_values_in (decode T)) (history_of (decode T)) (decode T).view q)
        ∙ ap (encode capacity) (same-history (decode T))
        ∙ (facts g).laid

  -- the drain after a turn is the rest of the drain before it
  module _ {h : History} {view : List ℤ} {e : Event} (q : round_of (decode T) ≡ turned h view e) where
    abbrev next : Cabinet
    next = with_history (decode T) h view

    abbrev left : Tables
    left = encode capacity next

    next-sound : Sound capacity next
    next-sound = round-sound sound q

    keeps : Keeps (history_of (decode T)) (decode T).view h view
    keeps = subst (StepKeeps (history_of (decode T)) (decode T).view) q (round_keeps (kept_values_in (decode T)) (history_of (decode T)) (decode T).view)

    left-capacity : length left.order ≡ capacity
    left-capacity = (lengths-encode capacity next next-sound).order

    left-formed : Formed (length left.order) left
    left-formed = subst (λ (m : ℕ). Formed m left) (sym left-capacity) (encode-formed next-sound)

    drain-left : drain_of (decode left) ≡ drain_history (kept_values_in (decode T)) h view
    drain-left =
        ap drain_of (decode-encode capacity next next-sound)
        ∙ ap (λ (g : History). drain_history (kept_values_in (decode T)) g view) (with_history-history (decode T) h view sound.placed (keeps-length keeps))

    drain-first : drain_of (decode T) ≡ drain_more e (drain_of (decode left))
    drain-first = drain-next (kept_values_in (decode T)) (history_of (decode T)) (decode T).view sound.rising q ∙ ap (drain_more e) (sym drain-left)

    tables-left : (drained left).tables ≡ (drained T).tables
    tables-left =
        let d = drain_of (decode left) in
        ap₂ (λ (m : ℕ) (c : Cabinet). encode m (with_history c d.history d.view)) left-capacity (decode-encode capacity next next-sound)
        ∙ ap (encode capacity) (history-again (decode T) h d.history view d.view sound.placed (drain-length ∙ keeps-length keeps))
        ∙ ap (λ (d : Drain). encode capacity (with_history (decode T) d.history d.view)) (sym drain-first)
      where
        drain-length : length (drain_of (decode left)).history ≡ length h
        drain-length = ap (λ (d : Drain). length d.history) drain-left ∙ keeps-length (drain-keeps (kept_values_in (decode T)) h view)

    events-left : turns_of T ≡ e ∷ turns_of left
    events-left = ap (λ (d : Drain). d.events) drain-first

  -- ---- one step

  module _ {T₀ : Tables} {counted : List ℕ} (k : Draining T₀ T counted) where
    after-step : (s : Step) → round_of (decode T) ≡ s → let r = step_reply capacity T (decode T) s in Draining T₀ r.tables (counted_in r.answer counted)
    after-step idle q = k
    after-step (turned h view e) q =
        record {
          formed = left-formed q;
          rest = tables-left q ∙ k.rest;
          size = counted-length (event_answer e) counted ∙ k.size;
          counts = λ place b.
              counted_next counted k.size e (turns_of (left q)) place
              ∙ ap (λ (events : List Event). get_or counted place 0 + total_at place events) (sym (events-left q))
              ∙ k.counts place b;
        }

    -- after `pass_at`
    pub drain-passed : {a : Turned} {U : Tables} {counted' : List ℕ} → Passed a T U → counted' ≡ counted_in a counted → Draining T₀ U counted'
    unfolding turns.turned
    drain-passed {a} {U} {counted'} (inl (i, same)) c =
        subst (λ (W : Tables). Draining T₀ W counted') (sym same) (subst (Draining T₀ T) (sym (c ∙ ap (λ (b : Turned). counted_in b counted) i)) k)
    drain-passed {a} {U} {counted'} (inr e) c =
        subst (Draining T₀ U) (sym c)
        (subst (λ (r : Reply Turned). Draining T₀ r.tables (counted_in r.answer counted)) (sym e) (after-step (round_of (decode T)) refl))

    -- where no change waits any more
    pub drain-ends-here : waiting_in T ≡ none → reply counted T ≡ drained T₀
    drain-ends-here z =
        let none_left = round-walk (kept_values_in (decode T)) (history_in T) (decode T).view 0 sound.rising ∙ walk_none g z (kept_values_in (decode T)) (decode T).view in
        ap₂ reply
        (totals-are (turns_of T₀) counted k.size
        (λ place b. let rest : total_at place (turns_of T) ≡ 0 = ap (total_at place) (idle-turns none_left) in omega (arith, k.counts place b)))
        (sym (idle-tables none_left) ∙ k.rest)

-- the totals so far are within the capacity
pub totals-small : {T₀ T : Tables} {counted : List ℕ} → Formed (length T₀.order) T₀ → Draining T₀ T counted → Countable counted
totals-small {T₀} g k =
    let c = decode T₀ in
    let s = sound T₀ g in
    record {
      size = k.size;
      small = λ place b.
          let within : total_at place (turns_of T₀) ≤ length (turns_of T₀) = count-within _ (turns_of T₀) in
          omega (arith, k.counts place b, within, drain-within (kept_values_in c) (history_of c) c.view, changes_at-length c.changes c.order, s.placed.counted, s.small, s.capacity);
    }
