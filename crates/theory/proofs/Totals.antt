-- R-5, proved: for each kind the totals of a drain sum to the number of its turns of that kind.
use mathlib.Core.Path.{◌≡◌, refl, sym, ap, ap₂, ◌∙◌}
use mathlib.Core.Bool.{Bool, true, false, cond, ◌&&◌, and-true}
use mathlib.Core.List.{List, [], ◌∷◌}
use Prim.Native.Nat.{ℕ, zero, suc, ◌+◌, ◌/◌, ◌%◌, ◌<◌, ◌≤◌}
use native.Mathlib.Omega.{arith}
use borrow.Author.Tests.{ne_eqb, eqb-true, eqb-false, not-false}
use lib.Dec.{eqb}
use lib.ListN.{length, get_or, length-map}
use Rattle.general.proofs.Cases.{by-test, both, impossible}
use Rattle.model.specs.Answers.{Answer}
use Rattle.model.specs.Figure.{Event, event_timestamp}
use Rattle.model.specs.Drain.{console, kind, kind_turns, console_turns, total_count, total_place, total_at, totals}
use Rattle.model.specs.Tables.{Tables}
use Rattle.model.specs.Form.{lengths_fit, in_form, Formed}
use Rattle.model.specs.Refusals.{first_of, wrong_length, not_in_form}
use Rattle.model.specs.Calls.{event_answer, TotalsReply, drain_with_totals}
use Rattle.model.specs.Log.{drain_events}
use Rattle.model.proofs.Items.{none-applies}
use Rattle.model.proofs.Totals.{totals-at, count-within, kind-within}
use Rattle.theory.specs.Totals.{sum_below, TotalsSum}
use Rattle.theory.proofs.AnyTables.{drains-any}

-- ---- sums

-- of equal numbers
sum_same : (n : ℕ) (f g : ℕ → ℕ) → ((i : ℕ) → i < n → f i ≡ g i) → sum_below n f ≡ sum_below n g
sum_same zero f g h = refl
sum_same (suc n) f g h = ap₂ ◌+◌ (sum_same n f g (λ i q. h i (omega arith))) (h n (omega arith))

sum_zeros : (n : ℕ) → sum_below n (λ i. 0) ≡ 0
sum_zeros zero = refl
sum_zeros (suc n) = omega (arith, sum_zeros n)

-- with one more at a, or none
module _ (f : ℕ → ℕ) (a : ℕ) (b : Bool) where
  abbrev more : ℕ → ℕ
  more i = cond (eqb a i && b) (suc (f i)) (f i)

  -- a is not summed
  sum-without : (n : ℕ) → n ≤ a → sum_below n more ≡ sum_below n f
  sum-without n h = sum_same n more f (λ i q. rw (ne_eqb a i (λ e. omega arith)))

  -- a is summed
  sum-with : (n : ℕ) → a < n → sum_below n more ≡ cond b (suc (sum_below n f)) (sum_below n f)
  sum-with zero h = absurd (omega arith)
  sum-with (suc n) h = go (sum-with n) (eqb a n) refl
    where
      at : (b : Bool) → cond b (suc (f n)) (f n) + sum_below n f ≡ cond b (suc (sum_below n f + f n)) (sum_below n f + f n)
      at true = omega arith
      at false = omega arith

      below : (b : Bool) → cond b (suc (sum_below n f)) (sum_below n f) + f n ≡ cond b (suc (sum_below n f + f n)) (sum_below n f + f n)
      below true = omega arith
      below false = omega arith

      go : (a < n → sum_below n more ≡ cond b (suc (sum_below n f)) (sum_below n f)) → (t : Bool) → eqb a n ≡ t → sum_below n more + cond (eqb a n && b) (suc (f n)) (f n) ≡ cond b (suc (sum_below n f + f n)) (sum_below n f + f n)
      go earlier true q = let same : a ≡ n = eqb-true a n q in rw q (omega (arith, sum-without n (omega arith), at b))
      go earlier false q = rw q (omega (arith, earlier (omega (arith, eqb-false a n q)), below b))

-- the turns of a kind by console
console-sums : (k : ℕ) (events : List Event) → sum_below 256 (λ c. console_turns c k events) ≡ kind_turns k events
console-sums k [] = sum_zeros 256
console-sums k (e ∷ events) =
    sum-with (λ c. console_turns c k events) (console (event_timestamp e)) (eqb (kind e) k) 256 (omega arith)
    ∙ ap (λ (n : ℕ). cond (eqb (kind e) k) (suc n) n) (console-sums k events)

-- all turns by kind
kind-sums : (events : List Event) → sum_below 4 (λ k. kind_turns k events) ≡ length events
kind-sums [] = sum_zeros 4
kind-sums (e ∷ events) =
    sum_same 4 _ _ (λ k q. ap (λ (b : Bool). cond b (suc (kind_turns k events)) (kind_turns k events)) (sym (and-true (eqb (kind e) k))))
    ∙ sum-with (λ k. kind_turns k events) (kind e) true 4 (kind-within e)
    ∙ ap suc (kind-sums events)

-- a console's total of a kind
total_of : (events : List Event) (c k : ℕ) → c < 256 → k < 4 → get_or (totals events) (total_place c k) 0 ≡ console_turns c k events
total_of events c k small few =
    let of-console : total_place c k / 4 ≡ c = omega arith in
    let of-kind : total_place c k % 4 ≡ k = omega arith in
    totals-at events (total_place c k) (omega arith) ∙ ap₂ (λ (d j : ℕ). console_turns d j events) of-console of-kind

-- ---- a drain that is answered done

-- the tables are in form and 1,024 totals are lent
module _ (n : ℕ) (T : Tables) (lent : List ℕ) where
  abbrev refusal : ℕ
  refusal = first_of (wrong_length n T (length lent) total_count ∷ not_in_form n T ∷ [])

  done-formed : (drain_with_totals n T lent).answer ≡ Answer.Done → Formed n T × (length lent ≡ total_count)
  unfolding drain_with_totals
  done-formed e =
      by-test (λ (r : TotalsReply). r.answer ≡ Answer.Done → Formed n T × (length lent ≡ total_count)) (eqb refusal 0)
      (λ q a.
      let none = none-applies (wrong_length n T (length lent) total_count ∷ not_in_form n T ∷ []) (omega arith) (eqb-true refusal 0 q) in
      let lengths = both (lengths_fit n T) (not-false _ none.0) in
      (record { sized = lengths.0; form = not-false (in_form n T) none.1.0 }, eqb-true (length lent) total_count lengths.1))
      (λ q a. impossible (cc)) e

pub totals-sum : (n : ℕ) (T : Tables) (lent : List ℕ) → (drain_with_totals n T lent).answer ≡ Answer.Done → TotalsSum n T lent
totals-sum n T lent e =
    let f = done-formed n T lent e in
    let d = drains-any n T f.0 in
    let filled : (drain_with_totals n T lent).totals ≡ totals (drain_events n T) = ap (λ (r : TotalsReply). r.totals) (d.answered lent f.1) in
    let turn-count : (place : ℕ) → total_at place (drain_events n T) ≤ length (drain_events n T) = λ place. count-within _ (drain_events n T) in
    record {
      sums = λ k h. rw filled (sum_same 256 _ _ (λ c q. total_of (drain_events n T) c k q h) ∙ console-sums k (drain_events n T));
      every-turn = kind-sums (drain_events n T);
      within = λ place b. rw filled (omega (arith, totals-at (drain_events n T) place b, turn-count place, length-map (drain_events n T) event_answer, d.few-turns));
    }
