-- A turn counted: the totals keep their number, and each is one more where the turn counts for it.
use mathlib.Core.Path.{◌≡◌, refl, sym, ◌∙◌}
use mathlib.Core.Bool.{cond, ◌&&◌}
use mathlib.Core.List.{List, ◌∷◌}
use Prim.Native.Nat.{ℕ, suc, ◌+◌, ◌/◌, ◌%◌, ◌<◌}
use native.Mathlib.Omega.{arith}
use borrow.Author.Tests.{eq-eqb, eqb-true}
use lib.Dec.{eqb}
use lib.ListN.{length, get_or, length-set}
use lib.Seq.{get_or-set_same, get_or-set_other}
use Rattle.machine.specs.Run.{Ending, completed, faulted}
use Rattle.general.proofs.Cases.{by-test, both, true-is-not-false}
use Rattle.model.specs.Answers.{Turned}
use Rattle.model.specs.Figure.{Event, ran, stood, cleared}
use Rattle.model.specs.Drain.{console, run_kind, total_count, total_place, total_at}
use Rattle.model.specs.Calls.{run_answer, event_answer}
use Rattle.totals.specs.Counted.{counted_at, counted_in}

pub counted-length : (a : Turned) (totals : List ℕ) → length (counted_in a totals) ≡ length totals
counted-length Turned.Idle totals = refl
counted-length (Turned.Ran t) totals = length-set totals _ _
counted-length (Turned.Stood t) totals = length-set totals _ _
counted-length (Turned.Cleared t) totals = length-set totals _ _
counted-length (Turned.Faulted t place) totals = length-set totals _ _
counted-length (Turned.Refused r) totals = refl

module _ (totals : List ℕ) (size : length totals ≡ total_count) (place m : ℕ) where
  -- a console's turn of a kind, counted now or with the m that follow
  counted-one : (c k : ℕ) → c < 256 → k < 4 → get_or (counted_at c k totals) place 0 + m ≡ get_or totals place 0 + cond (eqb c (place / 4) && eqb k (place % 4)) (suc m) m
  counted-one c k small few =
      by-test (λ (n : ℕ). get_or (counted_at c k totals) place 0 + m ≡ get_or totals place 0 + n) (eqb c (place / 4) && eqb k (place % 4))
      (λ q.
      let e = both (eqb c (place / 4)) q in
      let of-console = eqb-true c (place / 4) e.0 in
      let of-kind = eqb-true k (place % 4) e.1 in
      let here : place ≡ total_place c k = omega arith in
      let one : get_or (counted_at c k totals) place 0 ≡ get_or totals place 0 + 1 = rw here (get_or-set_same totals (total_place c k) (get_or totals (total_place c k) 0 + 1) 0 (omega arith)) in
      omega (arith, one))
      (λ q.
      let elsewhere : place ≡ total_place c k → ⊥ = λ e. let of-console : c ≡ place / 4 = omega arith in let of-kind : k ≡ place % 4 = omega arith in true-is-not-false (sym (rw (eq-eqb c (place / 4) of-console, eq-eqb k (place % 4) of-kind)) ∙ q) in
      omega (arith, get_or-set_other totals (total_place c k) place (get_or totals (total_place c k) 0 + 1) 0 elsewhere))

  run-counted : (t : ℕ) (e : Ending) → get_or (counted_in (run_answer t e) totals) place 0 + m ≡ get_or totals place 0 + cond (eqb (console t) (place / 4) && eqb (run_kind e) (place % 4)) (suc m) m
  run-counted t completed = counted-one (console t) 0 (omega arith) (omega arith)
  run-counted t (faulted fault at) = counted-one (console t) 3 (omega arith) (omega arith)

-- a turn counted now or with those that follow
pub counted_next : (totals : List ℕ) → length totals ≡ total_count → (e : Event) (events : List Event) (place : ℕ) → get_or (counted_in (event_answer e) totals) place 0 + total_at place events ≡ get_or totals place 0 + total_at place (e ∷ events)
counted_next totals size (ran t o) events place = run-counted totals size place (total_at place events) t o.ending
counted_next totals size (stood t) events place = counted-one totals size place (total_at place events) (console t) 1 (omega arith) (omega arith)
counted_next totals size (cleared t) events place = counted-one totals size place (total_at place events) (console t) 2 (omega arith) (omega arith)
