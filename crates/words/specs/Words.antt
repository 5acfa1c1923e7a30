-- Signed 32-bit numbers as integers, and their 32-bit patterns. Meaning.antt and proofs/Division.antt prove that each definition is what its comment says.
use Rattle.std.specs.Prelude.{Bool, false, ℕ, suc, ◌-◌, ◌/◌, ◌%◌, ◌^◌, ℤ, pos, negsuc, ltb, eqb}
use Rattle.std.specs.Int.Count.{ones_in}
use mir.Val.{sel}

-- the 32-bit pattern of a number: the number modulo 2^32
unfoldable pub pattern_of : ℤ → ℕ
pattern_of (pos n) = n % 2 ^ 32
pattern_of (negsuc n) = (2 ^ 32 - 1) - n % 2 ^ 32

-- the number of a 32-bit pattern: the pattern itself below 2^31, and 2^32 less from there
unfoldable pub number_of : ℕ → ℤ
number_of n = sel (ltb n (2 ^ 31)) (pos n) (negsuc (2 ^ 32 - suc n))

-- the wrapped number: the number from −2^31 to 2^31 − 1 that is congruent modulo 2^32
unfoldable pub wrap : ℤ → ℤ
wrap z = number_of (pattern_of z)

-- z divided by m, rounded down: the remainder is from 0 to m − 1
unfoldable pub floor_div : ℤ → ℕ → ℤ
floor_div (pos n) m = pos (n / m)
floor_div (negsuc n) m = negsuc (n / m)

-- the number of ones among the 32 binary digits of a pattern
unfoldable pub ones_of : ℕ → ℕ
ones_of n = ones_in 32 n

-- whether a number is 0
abbrev pub is_zero : ℤ → Bool
is_zero (pos n) = eqb n 0
is_zero (negsuc n) = false
