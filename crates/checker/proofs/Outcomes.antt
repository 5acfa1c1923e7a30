-- The calls turn and drain, on tables: a law for each outcome.
use mathlib.Core.Path.{◌≡◌, refl, sym, ap, subst, ◌∙◌}
use mathlib.Core.Bool.{and-true, and-false}
use mathlib.Core.List.{List, [], ◌∷◌}
use Prim.Native.Nat.{ℕ}
use native.Mathlib.Omega.{arith}
use borrow.Author.Tests.{eq-eqb, ne_eqb}
use lib.ListN.{length, get_or}
use Rattle.model.specs.Answers.{Answer, Turned}
use Rattle.model.specs.Drain.{total_count, totals}
use Rattle.model.specs.Cabinet.{with_history}
use Rattle.model.specs.Tables.{Tables, tables, held_count, encode, decode}
use Rattle.model.specs.Calls.{Reply, reply, step_reply, round_of, turn, drain_of, drain, totals_reply, drain_with_totals}
use Rattle.model.specs.Form.{lengths_fit, Formed}
use Rattle.model.proofs.Form.{facts}
use Rattle.model.specs.Refusals.{fault_of}
use Rattle.tables.proofs.Faults.{faulty}
use Rattle.turns.specs.Turns as turns
use Rattle.passing.specs.Drained.{drained}

-- a list of one entry
alone : (l : List ℕ) → length l ≡ 1 → (get_or l 0 0 ∷ []) ≡ l
alone [] e = absurd (omega arith)
alone (x ∷ []) e = refl
alone (x ∷ y ∷ l) e = absurd (omega arith)

-- the tables with another list of the number of changes held
abbrev with_held : Tables → List ℕ → Tables
with_held T held =
    tables held T.timestamps T.order T.status T.withdrawn T.lengths T.programs T.reads T.writes T.sources T.seen T.targets T.written T.view T.versions T.cutoff T.kept

module _ (n : ℕ) (T : Tables) where
  pub turn-fault : {r : ℕ} → r ≡ fault_of n T → (r ≡ 0 → ⊥) → reply (Turned.Refused r) T ≡ turn n T
  unfolding turn
  turn-fault e f = rw (faulty n T e [] f, ne_eqb _ 0 f)

  module _ (lent : List ℕ) where
    -- another number of totals than 1,024 is lent
    pub drain-wrong-length : (length lent ≡ total_count → ⊥) → totals_reply (Answer.Refused 1) T lent ≡ drain_with_totals n T lent
    unfolding drain_with_totals
    drain-wrong-length h = rw (ne_eqb _ total_count h, and-false (lengths_fit n T))

    pub drain-fault : length lent ≡ total_count → {r : ℕ} → r ≡ fault_of n T → (r ≡ 0 → ⊥) → totals_reply (Answer.Refused r) T lent ≡ drain_with_totals n T lent
    unfolding drain_with_totals
    drain-fault sized e f = rw (eq-eqb _ total_count sized, and-true (lengths_fit n T), faulty n T e [] f, ne_eqb _ 0 f)

  module _ (g : Formed n T) where
    capacity : length T.order ≡ n
    capacity = (facts g).sizes.order

    whole : Formed (length T.order) T
    whole = subst (λ (m : ℕ). Formed m T) (sym capacity) g

    -- the number of changes held, in place of its table
    module _ {count : ℕ} (c : count ≡ held_count T) where
      counted-alone : (count ∷ []) ≡ T.held
      counted-alone = ap (◌∷ []) c ∙ alone T.held (facts g).sizes.held

      -- what `turn_once` and `turn_all` rely on
      pub formed : Formed (length T.order) (with_held T (count ∷ []))
      formed = subst (λ (held : List ℕ). Formed (length T.order) (with_held T held)) (sym counted-alone) whole

      -- tables left with that number in place of the table
      left-held : {left : Tables} → left.held ≡ (count ∷ []) → with_held left T.held ≡ left
      left-held {left} q = ap (with_held left) (sym (q ∙ counted-alone))

      pub turn-done : {a : Turned} {left : Tables} → reply a left ≡ turns.turned (with_held T (count ∷ [])) → left.held ≡ (count ∷ []) → reply a (with_held left T.held) ≡ turn n T
      unfolding turn turns.turned
      turn-done {a} e q =
          rw (g.sized, g.form)
          (ap (reply a) (left-held q) ∙ e ∙ ap (λ (held : List ℕ). turns.turned (with_held T held)) counted-alone ∙ ap (λ (m : ℕ). step_reply m T (decode T) (round_of (decode T))) capacity)

      pub drain-done : (lent : List ℕ) → length lent ≡ total_count → {counted : List ℕ} {left : Tables} → reply counted left ≡ drained (with_held T (count ∷ [])) → left.held ≡ (count ∷ []) → totals_reply Answer.Done (with_held left T.held) counted ≡ drain_with_totals n T lent
      unfolding drain drain_with_totals
      drain-done lent sized {counted} e q =
          rw (eq-eqb _ total_count sized, g.sized, g.form)
          (ap (λ (U : Tables). totals_reply Answer.Done U counted) (left-held q)
          ∙ ap (λ (r : Reply (List ℕ)). totals_reply Answer.Done r.tables r.answer) (e ∙ ap (λ (held : List ℕ). drained (with_held T held)) counted-alone)
          ∙ ap (λ (m : ℕ). totals_reply Answer.Done (encode m (with_history (decode T) (drain_of (decode T)).history (drain_of (decode T)).view)) (totals (drain_of (decode T)).events)) capacity)
