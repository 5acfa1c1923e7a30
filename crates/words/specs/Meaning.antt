-- The definitions of Words are what their comments say: the value that each gives has the property, and no other value has it. Assumes nothing.
use Rattle.std.specs.Prelude.{◌≡◌, refl, Bool, true, false, cond, ℕ, suc, zero, ◌+◌, ◌-◌, ◌*◌, ◌/◌, ◌%◌, ◌^◌, ◌<◌, ltb, ℤ, pos, negsuc, ◌+ℤ◌, ◌*ℤ◌, neg_ℤ}
use Rattle.std.proofs.Common.{sym, ap, ◌∙◌, arith, mod-lt, suc-mul, pow-suc, ltb-true, ltb-false, le-ltb, lt-ltb, eqb-true}
use Rattle.std.proofs.Math.Nat.{div-eq_of_lt-le}
use Rattle.std.proofs.Math.IntN.{sub_ℕ, suc_ℤ, suc_ℤ-*ℤ, +ℤ_comm, +ℤ_assoc}
use Rattle.std.specs.Int.Count.{ones, ones_in, ones_step, ones-ones}
use Rattle.std.specs.Int.{w32}
use mir.Val.{SFits, of_z, sel}
use mir.ValLaws.{to_z-Fits, to_z-of_z, of_z-to_z}
use Rattle.words.specs.Words.{pattern_of, number_of, wrap, floor_div, ones_of, is_zero}

-- ---- division rounded down

-- a negative multiple of m plus a number below m
pub negative-multiple : (a m r : ℕ) → r < m → negsuc a *ℤ pos m +ℤ pos r ≡ negsuc (suc a * m - suc r)
negative-multiple a m r h =
    let e : suc a * m ≡ suc (a * m + m - 1) = omega (arith, suc-mul a m) in
    (λ i. neg_ℤ (pos (e i)) +ℤ pos r)
    ∙ simp (lt-ltb r (suc (a * m + m - 1)) (omega arith)) (ap negsuc (omega (arith, suc-mul a m)))

unfoldable pub remainder : ℤ → ℕ → ℕ
remainder (pos n) m = n % m
remainder (negsuc n) m = (m - 1) - n % m

pub remainder-below : (z : ℤ) (m : ℕ) → 0 < m → remainder z m < m
unfolding remainder
remainder-below (pos n) m h = mod-lt n h
remainder-below (negsuc n) m h = omega arith

-- no other quotient leaves such a remainder
pub floor_div-unique : (z q : ℤ) (m r : ℕ) → r < m → q *ℤ pos m +ℤ pos r ≡ z → q ≡ floor_div z m
unfolding floor_div
floor_div-unique z (pos a) m r h e =
    ap pos (sym (div-eq_of_lt-le m (omega arith) (omega (arith, suc-mul a m)))) ∙ ap (λ y. floor_div y m) e
floor_div-unique z (negsuc a) m r h e =
    ap negsuc (sym (div-eq_of_lt-le m (omega (arith, suc-mul a m)) (omega (arith, suc-mul a m))))
    ∙ ap (λ y. floor_div y m) (sym (negative-multiple a m r h) ∙ e)

-- ---- the pattern: the number modulo 2^32

-- w and z are congruent modulo 2^32
abbrev pub Congruent : ℤ → ℤ → Type 0
Congruent w z = (k : ℤ) × (w +ℤ k *ℤ pos (2 ^ 32) ≡ z)

-- a pattern is from 0 to 2^32 − 1
pub pattern_of-range : (z : ℤ) → pattern_of z < 2 ^ 32
unfolding pattern_of
pattern_of-range (pos n) = omega arith
pattern_of-range (negsuc n) = omega arith

pattern-difference : (a b : ℕ) → pattern_of (sub_ℕ a b) ≡ (a + (2 ^ 32 - b % 2 ^ 32)) % 2 ^ 32
unfolding pattern_of
pattern-difference a b = go (ltb a b) refl
  where
    go : (t : Bool) → ltb a b ≡ t → pattern_of (cond t (negsuc (b - suc a)) (pos (a - b))) ≡ (a + (2 ^ 32 - b % 2 ^ 32)) % 2 ^ 32
    go true e = omega (arith, ltb-true a b e)
    go false e = omega (arith, ltb-false a b e)

-- the pattern of a sum is the sum of the patterns modulo 2^32
pattern-sum : (a b : ℤ) → pattern_of (a +ℤ b) ≡ (pattern_of a + pattern_of b) % 2 ^ 32
unfolding pattern_of
pattern-sum (pos a) (pos b) = omega arith
pattern-sum (pos a) (negsuc b) = pattern-difference a (suc b) ∙ omega arith
pattern-sum (negsuc a) (pos b) = pattern-difference b (suc a) ∙ omega arith
pattern-sum (negsuc a) (negsuc b) = omega arith

pattern-multiple : (k : ℤ) → pattern_of (k *ℤ pos (2 ^ 32)) ≡ 0
unfolding pattern_of
pattern-multiple (pos a) = omega arith
pattern-multiple (negsuc a) =
    let e : suc a * 2 ^ 32 ≡ suc (a * 2 ^ 32 + (2 ^ 32 - 1)) = omega arith in
    ap (λ n. pattern_of (neg_ℤ (pos n))) e ∙ omega arith

-- congruent numbers have the same pattern
same-pattern : (w z : ℤ) → Congruent w z → pattern_of w ≡ pattern_of z
same-pattern w z (k, e) =
    omega (arith, pattern-sum w (k *ℤ pos (2 ^ 32)), pattern-multiple k, ap pattern_of e, pattern_of-range w)

-- no other number from 0 to 2^32 − 1 is congruent to the number
pub pattern_of-unique : (z : ℤ) (n : ℕ) → n < 2 ^ 32 → Congruent (pos n) z → n ≡ pattern_of z
unfolding pattern_of
pattern_of-unique z n h c = omega (arith, same-pattern (pos n) z c)

-- ---- patterns and the numbers from −2^31 to 2^31 − 1, which are those of `SFits w32`

-- the bits of such a number in two's complement are its pattern
pub bits-pattern : (z : ℤ) → SFits w32 z → of_z w32 z ≡ pattern_of z
unfolding pattern_of
bits-pattern (pos n) f = omega (arith, f.sfits)
bits-pattern (negsuc n) f = omega (arith, f.sfits)

-- the number of a pattern is such a number
pub number_of-range : (n : ℕ) → n < 2 ^ 32 → SFits w32 (number_of n)
unfolding number_of
number_of-range n h = to_z-Fits w32 n (record { fits = h })

-- `number_of` and `pattern_of` are inverse
pub number_of-pattern_of : (z : ℤ) → SFits w32 z → number_of (pattern_of z) ≡ z
unfolding number_of
number_of-pattern_of z f = ap number_of (sym (bits-pattern z f)) ∙ to_z-of_z w32 z f

pub pattern_of-number_of : (n : ℕ) → n < 2 ^ 32 → pattern_of (number_of n) ≡ n
unfolding number_of
pattern_of-number_of n h = sym (bits-pattern (number_of n) (number_of-range n h)) ∙ of_z-to_z w32 n (record { fits = h })

-- ---- the wrapped number

-- a wrapped number is from −2^31 to 2^31 − 1
pub wrap-range : (z : ℤ) → SFits w32 (wrap z)
unfolding wrap
wrap-range z = number_of-range (pattern_of z) (pattern_of-range z)

-- (k + 1) m is k m + m
next_multiple : (w k m : ℤ) → w +ℤ suc_ℤ k *ℤ m ≡ k *ℤ m +ℤ (m +ℤ w)
next_multiple w k m = +ℤ_comm w (suc_ℤ k *ℤ m) ∙ ap (λ y. y +ℤ w) (suc_ℤ-*ℤ k m) ∙ +ℤ_assoc (k *ℤ m) m w

-- a pattern is 2^32 more than its number, where that is negative
above-negative : (n : ℕ) → n < 2 ^ 32 → pos (2 ^ 32) +ℤ negsuc (2 ^ 32 - suc n) ≡ pos n
above-negative n h = simp (le-ltb (2 ^ 32) (suc (2 ^ 32 - suc n)) (omega arith)) (ap pos (omega arith))

pub number-congruent : (z k : ℤ) (n : ℕ) → n < 2 ^ 32 → k *ℤ pos (2 ^ 32) +ℤ pos n ≡ z → Congruent (number_of n) z
unfolding number_of
number-congruent z k n h e = go (ltb n (2 ^ 31))
  where
    go : (t : Bool) → Congruent (sel t (pos n) (negsuc (2 ^ 32 - suc n))) z
    go true = (k, +ℤ_comm (pos n) (k *ℤ pos (2 ^ 32)) ∙ e)
    go false = (suc_ℤ k, next_multiple (negsuc (2 ^ 32 - suc n)) k (pos (2 ^ 32)) ∙ ap (λ y. k *ℤ pos (2 ^ 32) +ℤ y) (above-negative n h) ∙ e)

-- a number from −2^31 to 2^31 − 1, wrapped, is itself
pub wrap-itself : (z : ℤ) → SFits w32 z → wrap z ≡ z
unfolding wrap
wrap-itself z f = number_of-pattern_of z f

-- no other number from −2^31 to 2^31 − 1 is congruent to the number
pub wrap-unique : (w z : ℤ) → SFits w32 w → Congruent w z → w ≡ wrap z
unfolding wrap
wrap-unique w z f c = sym (number_of-pattern_of w f) ∙ ap number_of (same-pattern w z c)

-- ---- ones and zero

-- the ones among the lowest k digits of a number below 2^k are all its ones
ones-in : (k n : ℕ) → n < 2 ^ k → ones_in k n ≡ ones n
unfolding ones_in
ones-in zero n h = let e : n ≡ 0 = omega arith in rw e (sym (ones-ones 0))
ones-in (suc k) n h = ap (λ (x : ℕ). n % 2 + x) (ones-in k (n / 2) (omega (arith, pow-suc 2 k))) ∙ sym (ones_step n)

-- the ones among the 32 digits of a pattern are all its ones
pub ones_of-ones : (n : ℕ) → n < 2 ^ 32 → ones_of n ≡ ones n
unfolding ones_of
ones_of-ones n h = ones-in 32 n h

pub is_zero-zero : is_zero (pos 0) ≡ true
is_zero-zero = refl

-- no other number is zero
pub is_zero-only : (z : ℤ) → is_zero z ≡ true → z ≡ pos 0
is_zero-only (pos n) e = ap pos (eqb-true n 0 e)
is_zero-only (negsuc n) e = absurd (let z : ◌≡◌ {A = ℕ} 0 1 = cc in omega arith)
