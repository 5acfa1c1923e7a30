-- Laws of the code's tests of a number against a limit and of a distance.
use mathlib.Core.Path.{◌≡◌, refl}
use mathlib.Core.Bool.{Bool, true, false}
use Prim.Native.Nat.{ℕ, ◌+◌, ◌-◌, ◌<◌}
use native.Mathlib.Omega.{arith}
use borrow.Author.Tests.{ltb-true, leb-true, leb-false, lt-ltb, le-ltb}
use lib.Dec.{T, ltb, leb}
use lib.IntN.{ℤ, pos, negsuc, nat_abs}
use lib.Signed.{lt_z, non_neg}
use mir.Syntax.{w32, w64}
use mir.Val.{Fits, SFits}
use Rattle.machine.specs.Form.{is_below, is_distance}
use Rattle.general.proofs.Cases.{true-is-not-false}

-- a negative number is below no limit
pub negative-not-below : (z : ℤ) (limit : ℕ) → lt_z z (pos 0) ≡ true → false ≡ is_below z limit
negative-not-below (pos n) limit t = absurd (let h : n < 0 = ltb-true n 0 t in omega arith)
negative-not-below (negsuc n) limit t = refl

-- any other is below the limits that its magnitude is below
pub natural-below : (z : ℤ) (limit : ℕ) → lt_z z (pos 0) ≡ false → ltb (nat_abs z) limit ≡ is_below z limit
natural-below (pos n) limit t = refl
natural-below (negsuc n) limit t = true-is-not-false t

-- and its magnitude fits 64 bits
pub natural-fits : (z : ℤ) → SFits w32 z → lt_z z (pos 0) ≡ false → T (non_neg z) × Fits w64 (nat_abs z)
natural-fits (pos n) f t = (tt, record { fits = omega (arith, f.sfits) })
natural-fits (negsuc n) f t = true-is-not-false t

-- a distance is a number below what is left of the program
pub distance-below : (z : ℤ) (place count : ℕ) → is_below z (count - place) ≡ is_distance z place count
distance-below (pos n) place count = go (leb (place + 1 + n) count) refl
  where
    go : (t : Bool) → leb (place + 1 + n) count ≡ t → ltb n (count - place) ≡ t
    go true e = lt-ltb n (count - place) (omega (arith, leb-true (place + 1 + n) count e))
    go false e = le-ltb n (count - place) (omega (arith, leb-false (place + 1 + n) count e))
distance-below (negsuc n) place count = refl
