-- Taking in, withdrawing and a cutoff keep the invariant; what a cutoff drops had its fresh run.
use mathlib.Core.Path.{◌≡◌, refl, sym, ap, ◌∙◌}
use mathlib.Core.Bool.{false}
use mathlib.Core.List.{List, [], ◌∷◌, ◌++◌, map}
use mathlib.Core.Option.{none}
use Prim.Native.Nat.{ℕ, ◌≤◌}
use native.Mathlib.Omega.{arith}
use borrow.Author.Tests.{ltb-true}
use lib.Dec.{eqb, ltb}
use lib.IntN.{ℤ}
use Rattle.machine.specs.Settings.{Environment, lookup, after}
use Rattle.machine.specs.Instruction.{Code}
use Rattle.general.proofs.Cases.{by-test}
use Rattle.model.specs.History.{New, Valid, Invalid, Change, change, timestamp, History, after_change, after_all, as_of, all_settings}
use Rattle.model.specs.Walk.{insert}
use Rattle.model.specs.Figure.{Event}
use Rattle.model.specs.Cabinet.{find, flag, remaining}
use Rattle.model.specs.Refusals.{waits_below}
use Rattle.model.specs.Book.{Book, book_of, book_below, fresh_end}
use Rattle.model.specs.Sound.{Rising, NotIn}
use Rattle.model.proofs.Cabinet.{withdraw_in}
use Rattle.model.proofs.Keeps.{withdraw-keeps, find-rest}
use Rattle.model.proofs.Figure.{after_all-append}
use Rattle.model.proofs.Cutoff.{stamped_below, cut-in-two, as_of-dropped, book-dropped, dropped-valid}
use Rattle.theory.specs.Demand.{last_ran}
use Rattle.theory.proofs.Invariant.{Consistent, AllConsistent, Traced, AllTraced, Invariant}
use Rattle.theory.proofs.Drains.{all-fresh}

-- ---- taking in

not_found : (t : ℕ) (h : History) → find t h ≡ none → NotIn t (map timestamp h)
not_found t [] q = tt
not_found t (c ∷ h) q = let rest = find-rest t c h q in ((λ e. rest.0 (sym e)), not_found t h rest.1)

module _ (t : ℕ) (p : Code) where
  insert-consistent : (env : Environment) (h : History) → AllConsistent env h → AllConsistent env (insert t p h)
  unfolding lookup
  insert-consistent env [] k = (refl, tt)
  insert-consistent env (c ∷ h) k =
      by-test (AllConsistent env) (ltb t (timestamp c)) (λ q. (refl, k)) (λ q. (k.0, insert-consistent (after_change c env) h k.1))

  insert-after : (h : History) (env : Environment) → after_all (insert t p h) env ≡ after_all h env
  unfolding lookup
  insert-after [] env = refl
  insert-after (c ∷ h) env =
      by-test (λ (h' : History). after_all h' env ≡ after_all (c ∷ h) env) (ltb t (timestamp c)) (λ q. refl) (λ q. insert-after h (after_change c env))

  insert-traced : (events : List Event) (h : History) → last_ran events t ≡ none → AllTraced events h → AllTraced events (insert t p h)
  insert-traced events [] q k = (q, tt)
  insert-traced events (c ∷ h) q k =
      by-test (AllTraced events) (ltb t (timestamp c)) (λ z. (q, k)) (λ z. (k.0, insert-traced events h q k.1))

  insert-not-in : (u : ℕ) (h : History) → NotIn u (map timestamp (insert t p h)) → NotIn u (map timestamp h)
  insert-not-in u [] = λ n. tt
  insert-not-in u (c ∷ h) =
      by-test (λ (h' : History). NotIn u (map timestamp h') → NotIn u (map timestamp (c ∷ h))) (ltb t (timestamp c)) (λ z n. n.1) (λ z n. (n.0, insert-not-in u h n.1))

  pub insert-invariant : (env : Environment) (cutoff : ℕ) (events : List Event) (h : History) (view : List ℤ) → cutoff ≤ t → find t h ≡ none → Invariant env cutoff events h view → Invariant env cutoff events (insert t p h) view
  insert-invariant env cutoff events h view from f i =
      record {
        consistent = insert-consistent env h i.consistent;
        viewed = rw (insert-after h env) i.viewed;
        traced = insert-traced events h (i.unheld t from (not_found t h f)) i.traced;
        unheld = λ u q n. i.unheld u q (insert-not-in u h n);
      }

-- ---- withdrawing

flag-consistent : (env : Environment) (c : Change) → Consistent env c → Consistent env (flag c)
flag-consistent env (change t p New w l) k = k
flag-consistent env (change t p Valid w l) k = tt
flag-consistent env (change t p Invalid w l) k = tt

flag-traced : (events : List Event) (c : Change) → Traced events c → Traced events (flag c)
flag-traced events (change t p New w l) k = k
flag-traced events (change t p Valid w l) k = tt
flag-traced events (change t p Invalid w l) k = tt

module _ (t : ℕ) where
  withdraw-consistent : (env : Environment) (h : History) → AllConsistent env h → AllConsistent env (withdraw_in t h)
  withdraw-consistent env [] k = tt
  withdraw-consistent env (change u p s w l ∷ h) k =
      let rest = withdraw-consistent (after l.writes env) h k.1 in
      by-test (λ (c : Change). AllConsistent env (c ∷ withdraw_in t h)) (eqb u t) (λ q. (flag-consistent env (change u p s w l) k.0, rest)) (λ q. (k.0, rest))

  withdraw-after : (h : History) (env : Environment) → after_all (withdraw_in t h) env ≡ after_all h env
  withdraw-after [] env = refl
  withdraw-after (change u p s w l ∷ h) env =
      let rest = withdraw-after h (after l.writes env) in
      by-test (λ (c : Change). after_all (c ∷ withdraw_in t h) env ≡ after_all h (after l.writes env)) (eqb u t) (λ q. rest) (λ q. rest)

  withdraw-traced : (events : List Event) (h : History) → AllTraced events h → AllTraced events (withdraw_in t h)
  withdraw-traced events [] k = tt
  withdraw-traced events (c ∷ h) k =
      (by-test (Traced events) (eqb (timestamp c) t) (λ q. flag-traced events c k.0) (λ q. k.0), withdraw-traced events h k.1)

  pub withdraw-invariant : (env : Environment) (cutoff : ℕ) (events : List Event) (h : History) (view : List ℤ) → Invariant env cutoff events h view → Invariant env cutoff events (withdraw_in t h) view
  withdraw-invariant env cutoff events h view i =
      record {
        consistent = withdraw-consistent env h i.consistent;
        viewed = rw (withdraw-after h env) i.viewed;
        traced = withdraw-traced events h i.traced;
        unheld = λ u q n. i.unheld u q (rw (withdraw-keeps t h view).timestamps at n);
      }

-- ---- a cutoff

consistent-append : (env : Environment) (a h : History) → AllConsistent env (a ++ h) → AllConsistent env a × AllConsistent (after_all a env) h
consistent-append env [] h k = (tt, k)
consistent-append env (c ∷ a) h k = let rest = consistent-append (after_change c env) a h k.1 in ((k.0, rest.0), rest.1)

module _ (t : ℕ) where
  remaining-traced : (events : List Event) (h : History) → AllTraced events h → AllTraced events (remaining t h)
  remaining-traced events [] k = tt
  remaining-traced events (c ∷ h) k =
      let rest = remaining-traced events h k.1 in
      by-test (AllTraced events) (ltb (timestamp c) t) (λ q. rest) (λ q. (k.0, rest))

  remaining-not-in : (u : ℕ) (h : History) → t ≤ u → NotIn u (map timestamp (remaining t h)) → NotIn u (map timestamp h)
  remaining-not-in u [] q = λ n. tt
  remaining-not-in u (c ∷ h) q =
      by-test (λ (h' : History). NotIn u (map timestamp h') → NotIn u (map timestamp (c ∷ h))) (ltb (timestamp c) t)
      (λ z n. (omega (arith, ltb-true (timestamp c) t z), remaining-not-in u h q n)) (λ z n. (n.0, remaining-not-in u h q n.1))

  module _ (env : Environment) (h : History) (r : Rising 0 h) (k : AllConsistent env h) where
    both-consistent : AllConsistent env (stamped_below t h) × AllConsistent (after_all (stamped_below t h) env) (remaining t h)
    both-consistent = consistent-append env (stamped_below t h) (remaining t h) (rw (cut-in-two t 0 h r) k)

    pub cut-invariant : (cutoff : ℕ) (events : List Event) (view : List ℤ) → cutoff ≤ t → Invariant env cutoff events h view → Invariant (as_of t h env) t events (remaining t h) view
    cut-invariant cutoff events view from i =
        record {
          consistent = rw (as_of-dropped t h env) both-consistent.1;
          viewed =
              i.viewed
              ∙ ap (λ (g : History). all_settings (after_all g env)) (sym (cut-in-two t 0 h r))
              ∙ ap all_settings (after_all-append (stamped_below t h) (remaining t h) env)
              ∙ ap (λ (env' : Environment). all_settings (after_all (remaining t h) env')) (sym (as_of-dropped t h env));
          traced = remaining-traced events h i.traced;
          unheld = λ u q n. i.unheld u (omega arith) (remaining-not-in u h q n);
        }

    -- where none below it waits, the values as of it are those that what it drops leaves in a fresh run
    pub dropped-fresh : waits_below t h ≡ false → as_of t h env ≡ fresh_end (book_below t (book_of h)) env
    dropped-fresh w =
        as_of-dropped t h env
        ∙ (all-fresh env (stamped_below t h) both-consistent.0 (dropped-valid t h w)).1
        ∙ ap (λ (book : Book). fresh_end book env) (book-dropped t h)
