-- What rests on the division that rounds down: the remainder that it leaves, and that a pattern and a wrapped number are congruent to their number. Assumes nothing.
use Rattle.std.specs.Prelude.{◌≡◌, ℕ, ◌-◌, ◌/◌, ◌%◌, ◌^◌, ◌<◌, ℤ, pos, negsuc, ◌+ℤ◌, ◌*ℤ◌}
use Rattle.std.proofs.Common.{ap, ◌∙◌, arith, div-add-mod', mod-lt, suc-mul}
use Rattle.std.proofs.Math.IntN.{+ℤ_comm}
use Rattle.words.specs.Words.{pattern_of, wrap, floor_div}
use Rattle.words.specs.Meaning.{Congruent, negative-multiple, remainder, remainder-below, number-congruent, pattern_of-range}

division : (z : ℤ) (m : ℕ) → 0 < m → floor_div z m *ℤ pos m +ℤ pos (remainder z m) ≡ z
unfolding floor_div remainder
division (pos n) m h = ap pos (div-add-mod' n m)
division (negsuc n) m h =
    negative-multiple (n / m) m ((m - 1) - n % m) (omega arith)
    ∙ ap negsuc (omega (arith, mod-lt n h, div-add-mod' n m, suc-mul (n / m) m))

-- the quotient leaves a remainder from 0 to m − 1
pub floor_div-remainder : (z : ℤ) (m : ℕ) → 0 < m → (r : ℕ) × (r < m) × (floor_div z m *ℤ pos m +ℤ pos r ≡ z)
floor_div-remainder z m h = (remainder z m, remainder-below z m h, division z m h)

pattern-division : (z : ℤ) → floor_div z (2 ^ 32) *ℤ pos (2 ^ 32) +ℤ pos (pattern_of z) ≡ z
unfolding pattern_of remainder
pattern-division (pos n) = division (pos n) (2 ^ 32) (omega arith)
pattern-division (negsuc n) = division (negsuc n) (2 ^ 32) (omega arith)

-- a pattern is congruent to its number
pub pattern_of-congruent : (z : ℤ) → Congruent (pos (pattern_of z)) z
pattern_of-congruent z =
    (floor_div z (2 ^ 32), +ℤ_comm (pos (pattern_of z)) (floor_div z (2 ^ 32) *ℤ pos (2 ^ 32)) ∙ pattern-division z)

-- a wrapped number is congruent to the number
pub wrap-congruent : (z : ℤ) → Congruent (wrap z) z
unfolding wrap
wrap-congruent z = number-congruent z (floor_div z (2 ^ 32)) (pattern_of z) (pattern_of-range z) (pattern-division z)
