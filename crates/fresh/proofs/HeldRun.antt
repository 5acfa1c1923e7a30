-- Laws of the run of held changes on a list of values, one change after the other.
use mathlib.Core.Path.{◌≡◌, refl}
use mathlib.Core.List.{List}
use Prim.Native.Nat.{ℕ, ◌+◌}
use native.Mathlib.Numerals.{add-one}
use borrow.Author.Tests.{eq-eqb, ne_eqb}
use lib.IntN.{ℤ}
use lib.ListN.{get_or}
use Rattle.machine.specs.Settings.{value_in, carry}
use Rattle.machine.specs.Instruction.{Code}
use Rattle.machine.specs.Run.{run}
use Rattle.fresh.specs.HeldRuns.{held_run}

module _ (order withdrawn : List ℕ) (program : ℕ → Code) (values₀ : List ℤ) where
  pub held_none : values₀ ≡ held_run order withdrawn program values₀ 0
  unfolding held_run
  held_none = refl

  module _ (k : ℕ) {place : ℕ} {values : List ℤ} (e : values ≡ held_run order withdrawn program values₀ k) (p : place ≡ get_or order k 0) where
    -- one change more that is run
    pub held-run : {after : List ℤ} → get_or withdrawn place 0 ≡ 0 → after ≡ carry (run (value_in values) (program place)).writes values → after ≡ held_run order withdrawn program values₀ (k + 1)
    unfolding held_run
    held-run t q = rw (q, e, add-one, ← p, eq-eqb _ 0 t)

    -- and one that is passed over
    pub held-passed : (get_or withdrawn place 0 ≡ 0 → ⊥) → values ≡ held_run order withdrawn program values₀ (k + 1)
    unfolding held_run
    held-passed t = rw (e, add-one, ← p, ne_eqb _ 0 t)
