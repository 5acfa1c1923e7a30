-- The digits of a number: the fewest that hold it.
use mathlib.Core.Path.{◌≡◌, refl, sym, ap, subst, ◌∙◌}
use mathlib.Core.Bool.{Bool, true, false, true≢false}
use mathlib.Core.List.{List, [], ◌∷◌, ◌++◌}
use Prim.Native.Nat.{ℕ, zero, suc, ◌+◌, ◌-◌, ◌/◌, ◌%◌, ◌^◌, ◌≤◌, ◌<◌}
use native.Mathlib.Nat.{pow-suc, not-suc-le-zero}
use native.Mathlib.Omega.{arith}
use borrow.Author.Tests.{ltb-true, leb-true, leb-false, lt-ltb, le-ltb}
use lib.Dec.{leb}
use lib.IntN.{ℤ, pos, negsuc, nat_abs}
use lib.Signed.{lt_z}
use mir.Syntax.{w32}
use mir.Val.{SFits, to_z, of_z}
use mir.ValLaws.{to_z-of_z}
use Rattle.io.specs.Digits.{hex_digit_ascii, last_digits, IsDigitCount}
use Rattle.text.specs.Pieces.{ascii}
use Rattle.text.specs.Decimal.{digit, digits_within, decimal, signed_decimal}

-- the code of a digit
digit_glyph : (d : ℕ) → d < 10 → hex_digit_ascii d ≡ digit d
digit_glyph d h = rw (lt-ltb d 10 h)

one_power : (k : ℕ) → 1 ≤ 10 ^ k
one_power zero = omega arith
one_power (suc k) = let h = one_power k in let e = pow-suc 10 k in omega (arith, h, e)

-- two digits or more are needed
at_least : (n k : ℕ) → IsDigitCount 10 1 n (suc (suc k)) → 10 ^ suc k ≤ n
at_least n k w =
    let e : suc (suc k) - 1 ≡ suc k = omega arith in
    subst (λ (m : ℕ). 10 ^ m ≤ n) e (w.2 (omega arith))

-- as many digits as are needed are all of them
pub digits-within : (k f n : ℕ) → k ≤ f → IsDigitCount 10 1 n k → last_digits 10 k n ≡ digits_within f n
digits-within zero f n h w = absurd (omega (arith, w.0))
digits-within (suc k) zero n h w = absurd (omega (arith, h))
digits-within (suc zero) (suc f) n h w =
    let small : n < 10 = w.1 in
    let e : n % 10 ≡ n = omega arith in
    rw (lt-ltb n 10 small, e, digit_glyph n small)
digits-within (suc (suc k)) (suc f) n h w =
    let l = at_least n k w in
    let t = pow-suc 10 k in
    let t' = pow-suc 10 (suc k) in
    let o = one_power k in
    let big : 10 ≤ n = omega (arith, l, t, o) in
    let e : suc k - 1 ≡ k = omega arith in
    let fewer : IsDigitCount 10 1 (n / 10) (suc k) = (omega arith, omega (arith, w.1, t'), λ q. subst (λ (m : ℕ). 10 ^ m ≤ n / 10) (sym e) (omega (arith, l, t))) in
    rw (le-ltb n 10 big, digit_glyph (n % 10) (omega arith)) (ap (λ (l : List ℕ). l ++ (digit (n % 10) ∷ [])) (digits-within (suc k) f (n / 10) (omega (arith, h)) fewer))

-- a 64-bit number has at most 20 digits
power-above : (j : ℕ) → 10 ^ 20 ≤ 10 ^ (20 + j)
power-above zero = omega arith
power-above (suc j) =
    let e : 20 + suc j ≡ suc (20 + j) = omega arith in
    let t = pow-suc 10 (20 + j) in
    let h = power-above j in
    subst (λ (m : ℕ). 10 ^ 20 ≤ 10 ^ m) (sym e) (omega (arith, t, h))

pub few-digits : (n k : ℕ) → n < 2 ^ 64 → IsDigitCount 10 1 n k → k ≤ 20
few-digits n k h w = go (leb k 20) refl
  where
    go : (b : Bool) → leb k 20 ≡ b → k ≤ 20
    go true q = leb-true k 20 q
    go false q =
        let l = leb-false k 20 q in
        let e : k ≡ suc (suc (19 + (k - 21))) = omega (arith, l) in
        let e' : suc (19 + (k - 21)) ≡ 20 + (k - 21) = omega arith in
        let a = at_least n (19 + (k - 21)) (subst (IsDigitCount 10 1 n) e w) in
        let b = subst (λ (m : ℕ). 10 ^ 20 ≤ 10 ^ m) (sym e') (power-above (k - 21)) in
        absurd (omega (arith, a, b, h))

-- so many digits, as many as are needed, are the number in decimal
pub all_digits : (n k : ℕ) {text : List ℕ} → n < 2 ^ 64 → IsDigitCount 10 1 n k → text ≡ last_digits 10 k n → text ≡ decimal n
unfolding decimal
all_digits n k h w e = e ∙ digits-within k 20 n (few-digits n k h w) w

-- ---- signed numbers

negative-digits : (z : ℤ) → lt_z z (pos 0) ≡ true → signed_decimal z ≡ ascii "-" ++ decimal (nat_abs z)
negative-digits (pos n) q = absurd (not-suc-le-zero (ltb-true n 0 q))
negative-digits (negsuc n) q = refl

other-digits : (z : ℤ) → lt_z z (pos 0) ≡ false → signed_decimal z ≡ decimal (nat_abs z)
other-digits (pos n) q = refl
other-digits (negsuc n) q = absurd (true≢false q)

-- by the sign and the absolute value of a number that is read from its bits
module _ {z : ℤ} (f : SFits w32 z) {size : ℕ} (e : size ≡ nat_abs (to_z w32 (of_z w32 z))) where
  pub digits-of-negative : lt_z (to_z w32 (of_z w32 z)) (pos 0) ≡ true → signed_decimal z ≡ ascii "-" ++ decimal size
  digits-of-negative q = rw (e, to_z-of_z w32 z f) (negative-digits z (rw (to_z-of_z w32 z f) at q))

  pub digits-of-other : lt_z (to_z w32 (of_z w32 z)) (pos 0) ≡ false → signed_decimal z ≡ decimal size
  digits-of-other q = rw (e, to_z-of_z w32 z f) (other-digits z (rw (to_z-of_z w32 z f) at q))
