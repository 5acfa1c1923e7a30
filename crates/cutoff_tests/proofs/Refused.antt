-- Tables that have a fault are refused for it.
use mathlib.Core.Path.{◌≡◌, refl}
use mathlib.Core.List.{List}
use Prim.Native.Nat.{ℕ}
use borrow.Author.Tests.{ne_eqb}
use Rattle.model.specs.declared.Refusal.{Refusal}
use Rattle.model.specs.Answers.{refusal_number}
use Rattle.model.proofs.Answered.{refused-not-0}
use Rattle.cutoff_tests.specs.CutoffTests.{refusal_in}

module _ (r : Refusal) (t : ℕ) (held timestamps order status cutoff : List ℕ) where
  pub of-fault : refusal_number r ≡ refusal_in (refusal_number r) t held timestamps order status cutoff
  unfolding refusal_in
  of-fault = rw (ne_eqb (refusal_number r) 0 (refused-not-0 r)) refl
