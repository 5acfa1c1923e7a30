-- Computed cases of the 32-bit operations, at the ends of the range and at the signs.
use Rattle.std.specs.Prelude.{◌≡◌, refl, ◌^◌, pos, negsuc, ◌+ℤ◌, neg_ℤ}
use Rattle.std.specs.Int.Bits.{bit_and, bit_or, bit_xor}
use Rattle.std.specs.Int.Count.{ones_in}
use Rattle.words.specs.Words.{pattern_of, number_of, wrap, floor_div, ones_of}

-- −2,147,483,648 negated is itself
least-negated : wrap (neg_ℤ (negsuc 2147483647)) ≡ negsuc 2147483647
unfolding wrap number_of pattern_of
least-negated = refl

-- 2,147,483,647 + 1 is −2,147,483,648
greatest-plus-one : wrap (pos 2147483647 +ℤ pos 1) ≡ negsuc 2147483647
unfolding wrap number_of pattern_of
greatest-plus-one = refl

-- −5 divided by 2^1 is −3
minus-five-halved : floor_div (negsuc 4) (2 ^ 1) ≡ negsuc 2
unfolding floor_div
minus-five-halved = refl

-- −1 has 32 ones
ones-of-minus-one : ones_of (pattern_of (negsuc 0)) ≡ 32
unfolding ones_of ones_in pattern_of
ones-of-minus-one = refl

-- −4 and 7 is 4
and-case : number_of (bit_and (pattern_of (negsuc 3)) (pattern_of (pos 7))) ≡ pos 4
unfolding pattern_of number_of
and-case = refl

-- −8 or 5 is −3
or_case : number_of (bit_or (pattern_of (negsuc 7)) (pattern_of (pos 5))) ≡ negsuc 2
unfolding pattern_of number_of
or_case = refl

-- −1 exclusive or 5 is −6
xor-case : number_of (bit_xor (pattern_of (negsuc 0)) (pattern_of (pos 5))) ≡ negsuc 5
unfolding pattern_of number_of
xor-case = refl
