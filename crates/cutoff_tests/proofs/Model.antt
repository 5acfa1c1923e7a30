-- The tests of a cutoff on tables in form: they can be made, and they are those of the definition.
use mathlib.Core.Path.{◌≡◌, ap}
use mathlib.Core.List.{[], ◌∷◌}
use Prim.Native.Nat.{ℕ}
use Rattle.model.specs.Tables.{Tables, decode}
use Rattle.model.specs.Refusals.{no_timestamp, below_cutoff, unsettled_below, test}
use Rattle.model.specs.Form.{Formed}
use Rattle.model.proofs.Form.{facts}
use Rattle.search.proofs.Model.{placed-stamps}
use Rattle.search.proofs.Waits.{placed-status}
use Rattle.cutoff_tests.specs.CutoffTests.{cutoff_tests, Testable}
use Rattle.cutoff_tests.proofs.Unsettled.{waits-before}

module _ {n : ℕ} {T : Tables} (g : Formed n T) (t : ℕ) where
  pub testable : Testable T.held T.timestamps T.order T.status T.cutoff
  testable = record { counted = (facts g).sizes.held; stamped = placed-stamps g; standing = placed-status g; cut = (facts g).sizes.cutoff }

  pub same_tests : cutoff_tests t T.held T.timestamps T.order T.status T.cutoff ≡ no_timestamp t ∷ below_cutoff (decode T).cutoff t ∷ unsettled_below (decode T) t ∷ []
  unfolding decode
  same_tests = ap (λ b. no_timestamp t ∷ below_cutoff (decode T).cutoff t ∷ test 15 b ∷ []) (waits-before g t)
