-- Numbers in decimal.
use Rattle.std.specs.Prelude.{◌≡◌, refl, cond, List, [], ◌∷◌, ◌++◌, ℕ, zero, suc, ◌+◌, ◌/◌, ◌%◌, ltb, ℤ, pos, negsuc}
use Rattle.text.specs.Pieces.{ascii}

-- the ASCII code of a digit
abbrev pub digit : ℕ → ℕ
digit d = 48 + d

-- the digits of a number that has at most so many, the most significant first, no zero before them
abbrev pub digits_within : ℕ → ℕ → List ℕ
digits_within zero n = []
digits_within (suc k) n = cond (ltb n 10) (digit n ∷ []) (digits_within k (n / 10) ++ (digit (n % 10) ∷ []))

-- a 64-bit number has at most 20 digits
unfoldable pub decimal : ℕ → List ℕ
decimal n = digits_within 20 n

-- a signed number: `-` before the digits of a negative one
abbrev pub signed_decimal : ℤ → List ℕ
signed_decimal (pos n) = decimal n
signed_decimal (negsuc n) = ascii "-" ++ decimal (suc n)

-- ---- examples

one-digit : decimal 0 ≡ ascii "0"
unfolding decimal
one-digit = refl

zeros_within : decimal 100 ≡ ascii "100"
unfolding decimal
zeros_within = refl

greatest : decimal 18446744073709551615 ≡ ascii "18446744073709551615"
unfolding decimal
greatest = refl

least-signed : signed_decimal (negsuc 2147483647) ≡ ascii "-2147483648"
unfolding decimal
least-signed = refl

greatest-signed : signed_decimal (pos 2147483647) ≡ ascii "2147483647"
unfolding decimal
greatest-signed = refl
