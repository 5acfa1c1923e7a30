-- Laws of signed numbers in the machine: `of_z w z` is the bits of z at the width w, and `to_z w n` is the signed number of the bits n.
-- Assumes nothing.
use mathlib.Core.Path.{◌≡◌, refl, ◌∙◌}
use Prim.Native.Nat.{ℕ, suc, ◌-◌, ◌^◌, ◌<◌}
use native.Mathlib.Omega.{arith}
use native.Mathlib.Nat.{lt_trans}
use borrow.Author.Tests.{ne_eqb}
use lib.Dec.{eqb, lit<}
use lib.IntN.{ℤ, pos, negsuc}
use lib.Signed.{shr_z, mag_shr}
use mir.Syntax.{w32, w64}
use mir.Val.{SFits, to_z, of_z}
use Rattle.std.specs.Int.{int_wrap}
use mir.ValLaws.{to_z-of_z, sfits_le}
use Rattle.words.specs.Words.{pattern_of, number_of, wrap, floor_div, is_zero}
use Rattle.words.specs.Meaning.{bits-pattern}

-- ---- 32 bits

-- an operation on the bits of two numbers is the operation on their patterns
pub bits-operation : (f : ℕ → ℕ → ℕ) {a b : ℤ} → SFits w32 a → SFits w32 b → to_z w32 (f (of_z w32 a) (of_z w32 b)) ≡ number_of (f (pattern_of a) (pattern_of b))
unfolding number_of
bits-operation f {a} {b} fa fb = rw (bits-pattern a fa, bits-pattern b fb)

-- the machine's shift rounds down
pub shift-rounds-down : {a : ℤ} (m : ℕ) → SFits w32 a → to_z w32 (of_z w32 (shr_z (to_z w32 (of_z w32 a)) m)) ≡ floor_div a m
unfolding floor_div
shift-rounds-down {a} m f = rw (to_z-of_z w32 a f) (to_z-of_z w32 (shr_z a m) (sfits_le (mag_shr a m) f) ∙ same a)
  where
    same : (a : ℤ) → shr_z a m ≡ floor_div a m
    same (pos n) = refl
    same (negsuc n) = refl

-- 0 is the one number whose bits are 0
pub zero_bits : (a : ℤ) → SFits w32 a → eqb (of_z w32 a) 0 ≡ is_zero a
zero_bits (pos n) f = refl
zero_bits (negsuc n) f = let h : n < 2 ^ 31 = f.sfits in ne_eqb (2 ^ 32 - suc n) 0 (λ e. omega arith)

-- std's wrapped number is the wrapped number
pub wrap-is : (z : ℤ) → int_wrap w32 z ≡ wrap z
unfolding int_wrap wrap number_of pattern_of
wrap-is (pos n) = refl
wrap-is (negsuc n) = refl

-- ---- 64 bits

pub fits-64 : {z : ℤ} → SFits w32 z → SFits w64 z
fits-64 f = record { sfits = lt_trans f.sfits (lit< tt) }

-- ---- 32-bit numbers extended to 64 bits

abbrev pub extend : ℤ → ℤ
extend z = to_z w64 (of_z w64 (to_z w32 (of_z w32 z)))

-- the extended number fits, and is the number
pub extend_fits : {z : ℤ} → SFits w32 z → SFits w64 (to_z w32 (of_z w32 z))
extend_fits {z} f = rw (to_z-of_z w32 z f) (fits-64 f)

pub extend_same : (z : ℤ) → SFits w32 z → extend z ≡ z
extend_same z f = rw (to_z-of_z w32 z f) (to_z-of_z w64 z (fits-64 f))
