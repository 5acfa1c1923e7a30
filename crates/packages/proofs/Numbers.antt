-- Numbers in bytes, low byte first: what the library reads is the number of the definition.
use Rattle.std.proofs.Common.{◌≡◌, refl, List, [], ◌∷◌, ℕ, zero, suc, ◌+◌, ◌-◌, ◌<◌, get_or, take, drop, arith, lit<, get_or-drop, get_or-take, sym, ap, ◌∙◌}
use Rattle.std.specs.Int.{w16, w64, from_le_bytes}
use Rattle.model.specs.Package.{number_at}

pub two_bytes : (bytes : List ℕ) → from_le_bytes w16 (get_or bytes 0 0 ∷ get_or bytes 1 0 ∷ []) ≡ number_at bytes 0 2
unfolding number_at
two_bytes bytes = omega arith

-- a number at an index is that of the bytes from there on
number-from : (bytes : List ℕ) (at i size : ℕ) → number_at bytes (at + i) size ≡ number_at (drop at bytes) i size
unfolding number_at
number-from bytes at i zero = refl
number-from bytes at i (suc k) =
    let next : suc (at + i) ≡ at + suc i = omega arith in
    rw (next, number-from bytes at (suc i) k, get_or-drop)

first_eight : (bytes : List ℕ) → from_le_bytes w64 (take 8 bytes) ≡ number_at bytes 0 8
unfolding number_at
first_eight bytes =
    let byte : (k : ℕ) → k < 8 → get_or (take 8 bytes) k 0 ≡ get_or bytes k 0 = λ k h. get_or-take 8 bytes k 0 h in
    omega (arith, byte 0 (lit< tt), byte 1 (lit< tt), byte 2 (lit< tt), byte 3 (lit< tt), byte 4 (lit< tt), byte 5 (lit< tt), byte 6 (lit< tt), byte 7 (lit< tt))

pub eight_bytes : (bytes : List ℕ) (at : ℕ) → from_le_bytes w64 (take (at + 8 - at) (drop at bytes)) ≡ number_at bytes at 8
eight_bytes bytes at =
    let size : at + 8 - at ≡ 8 = omega arith in
    let first : at ≡ at + 0 = omega arith in
    rw size (first_eight (drop at bytes)) ∙ sym (ap (λ (i : ℕ). number_at bytes i 8) first ∙ number-from bytes at 0 8)
