-- Statements about a choice, by the cases of its test; and and or of two tests.
use mathlib.Core.Path.{◌≡◌, refl}
use mathlib.Core.Bool.{Bool, true, false, cond, ◌&&◌, ◌||◌}
use Prim.Native.Nat.{ℕ}
use native.Mathlib.Omega.{arith}

pub by-test : {X : Type 0} (P : X → Type 0) (t : Bool) {x y : X} → (t ≡ true → P x) → (t ≡ false → P y) → P (cond t x y)
by-test P true f g = f refl
by-test P false f g = g refl

-- of two choices by the same test
pub by-test₂ : {X Y : Type 0} (P : X → Y → Type 0) (t : Bool) {x y : X} {x' y' : Y} → (t ≡ true → P x x') → (t ≡ false → P y y') → P (cond t x y) (cond t x' y')
by-test₂ P true f g = f refl
by-test₂ P false f g = g refl

-- a function of a choice
pub of-choice : {X Y : Type 0} (f : X → Y) (t : Bool) {x y : X} {x' y' : Y} → f x ≡ x' → f y ≡ y' → f (cond t x y) ≡ cond t x' y'
of-choice f true e e' = e
of-choice f false e e' = e'

-- what follows where cc finds that two constructors would be equal
pub impossible : {A : Type 0} → ◌≡◌ {A = ℕ} 0 1 → A
impossible e = absurd (omega arith)

pub true-is-not-false : {A : Type 0} → true ≡ false → A
true-is-not-false e = impossible (cc)

-- both tests of a conjunction that holds
pub both : (a : Bool) {b : Bool} → (a && b) ≡ true → (a ≡ true) × (b ≡ true)
both true e = (refl, e)
both false e = impossible (cc)

-- neither test of a disjunction that fails
pub neither : (a : Bool) {b : Bool} → (a || b) ≡ false → (a ≡ false) × (b ≡ false)
neither true e = impossible (cc)
neither false e = (refl, e)

-- the second test of a disjunction that holds where the first fails
pub either : (a : Bool) {b : Bool} → (a || b) ≡ true → a ≡ false → b ≡ true
either true e q = true-is-not-false q
either false e q = e
