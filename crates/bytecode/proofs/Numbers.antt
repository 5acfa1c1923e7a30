-- Cases of a number in a range, and signed numbers as the machine holds them.
use mathlib.Core.Path.{◌≡◌, sym, subst, ◌∙◌}
use mathlib.Core.Bool.{true}
use Prim.Native.Nat.{ℕ, zero, suc, ◌+◌, ◌^◌, ◌≤◌, ◌<◌}
use native.Mathlib.Decide.{dec_lt}
use native.Mathlib.Omega.{arith}
use borrow.Author.Tests.{ltb-true}
use lib.Dec.{T}
use lib.IntN.{ℤ, pos, negsuc, nat_abs}
use lib.Signed.{non_neg}
use mir.Facts.{to_z-of_z}
use mir.Syntax.{Width, w32}
use mir.Val.{Fits, SFits, to_z, of_z, bits}
use Rattle.machine.specs.Form.{is_below}
use Rattle.general.proofs.Cases.{true-is-not-false}

-- P at each of count numbers from a first one on
abbrev pub Each : (ℕ → Type 0) → ℕ → ℕ → Type 0
Each P first zero = Unit {0}
Each P first (suc count) = P first × Each P (suc first) count

-- P at the first number, then at each of the others
infixr 20 ◌then◌
abbrev pub ◌then◌ : {A B : Type 0} → A → B → A × B
a then b = (a, b)

-- what holds at each number of a range holds at a number in the range
pub in-range : (P : ℕ → Type 0) (first count : ℕ) → Each P first count → (k : ℕ) → first ≤ k → k < first + count → P k
in-range P first zero e k a b = absurd (omega arith)
in-range P first (suc count) e k a b = go (dec_lt first k) (in-range P (suc first) count e.1 k)
  where
    go : Dec (first < k) → (suc first ≤ k → k < suc first + count → P k) → P k
    go (yes q) ih = ih q (omega arith)
    go (no q) ih = let w : first ≡ k = omega arith in subst P w e.0

-- n is none of k numbers from a first one on
abbrev pub Apart : ℕ → ℕ → ℕ → Type 0
Apart first n zero = Unit {0}
Apart first n (suc k) = Apart first n k × (n ≡ first + k → ⊥)

-- such a number that is not below the first is past them all
pub apart_above : (first n k : ℕ) → Apart first n k → first ≤ n → first + k ≤ n
apart_above first n zero a h = omega arith
apart_above first n (suc k) a h = omega (arith, apart_above first n k a.0 h, a.1)

-- a signed number as the machine reads it back from its bits
abbrev pub read : ℤ → ℤ
read z = to_z w32 (of_z w32 z)

-- a result of numbers that were read back is the result of the numbers
pub read_back : (f : ℤ → ℤ → ℤ → ℤ) {x y z r : ℤ} → SFits w32 x → SFits w32 y → SFits w32 z → SFits w32 r → r ≡ f (read x) (read y) (read z) → read r ≡ f x y z
read_back f fx fy fz fr e = to_z-of_z fr ∙ e ∙ rw (to_z-of_z fx, to_z-of_z fy, to_z-of_z fz)

-- the magnitude of a number that is below a limit
pub below-limit : (z : ℤ) (limit : ℕ) → is_below z limit ≡ true → nat_abs z < limit
below-limit (pos n) limit e = ltb-true n limit e
below-limit (negsuc n) limit e = true-is-not-false (sym e)

-- a cast keeps such a number where all below the limit fit
pub below-cast : {w : Width} (z : ℤ) (limit : ℕ) → SFits w32 z → is_below z limit ≡ true → limit ≤ 2 ^ bits w → T (non_neg (read z)) × Fits w (nat_abs (read z))
below-cast (pos n) limit f e h = rw (to_z-of_z f) (tt, record { fits = omega (arith, ltb-true n limit e) })
below-cast (negsuc n) limit f e h = true-is-not-false (sym e)
