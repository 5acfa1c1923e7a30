-- The totals of some turns: the one at a place, and that each counts turns of the list, which are of four kinds.
use mathlib.Core.Path.{◌≡◌, sym, ap, ◌∙◌}
use mathlib.Core.Bool.{Bool}
use mathlib.Core.List.{List, [], ◌∷◌}
use Prim.Native.Nat.{ℕ, suc, ◌<◌, ◌≤◌}
use native.Mathlib.Omega.{arith}
use lib.ListN.{length, get_or}
use Rattle.machine.specs.Run.{Ending, completed, faulted}
use Rattle.general.proofs.Cases.{by-test}
use Rattle.general.specs.Lists.{tabulate}
use Rattle.model.specs.Figure.{Event, ran, stood, cleared}
use Rattle.model.specs.Drain.{run_kind, kind, count_of, total_count, total_at, totals}
use Rattle.general.proofs.Tabulate.{get_d_tabulate, tabulate-is}

pub totals-at : (events : List Event) (place : ℕ) → place < total_count → get_or (totals events) place 0 ≡ total_at place events
unfolding totals
totals-at events place h = get_d_tabulate total_count (λ i. total_at i events) place 0 h

-- a list with the total at each place
pub totals-are : (events : List Event) (l : List ℕ) → length l ≡ total_count → ((place : ℕ) → place < total_count → get_or l place 0 ≡ total_at place events) → l ≡ totals events
unfolding totals
totals-are events l e h = sym (tabulate-is l (λ place. total_at place events) 0 (λ i q. sym (h i (rw e at q)))) ∙ ap (λ (n : ℕ). tabulate n (λ place. total_at place events)) e

-- no more are counted than there are
pub count-within : {A : Type 0} (passes : A → Bool) (list : List A) → count_of passes list ≤ length list
count-within passes [] = omega arith
count-within passes (x ∷ list) =
    let rest = count-within passes list in
    by-test (λ (n : ℕ). n ≤ suc (length list)) (passes x) (λ q. omega arith) (λ q. omega arith)

run-kind : (e : Ending) → run_kind e < 4
run-kind completed = omega arith
run-kind (faulted fault place) = omega arith

-- there are four kinds
pub kind-within : (e : Event) → kind e < 4
kind-within (ran t o) = run-kind o.ending
kind-within (stood t) = omega arith
kind-within (cleared t) = omega arith
