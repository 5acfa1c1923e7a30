-- The bits of two numbers are 0 where both numbers are.
use Rattle.std.proofs.Common.{◌≡◌, ◌&&◌, ℤ, sym, ap, ap₂, ◌∙◌, eqb, bit_or, of_z, to_z, w32}
use Rattle.std.proofs.Math.Facts.{of_z-to_z, Fits-of_z, sfits_to_z, Fits-or}
use mir.Val.{SFits}
use Rattle.general.proofs.Bits.{or-zero}
use Rattle.words.specs.Words.{is_zero}
use Rattle.words.proofs.Laws.{zero_bits}

-- unsigned, at any width
pub ruleset unsigned_or = (or-zero)

-- signed
pub signed_or : (a b : ℤ) → SFits w32 a → SFits w32 b → is_zero (to_z w32 (bit_or (of_z w32 a) (of_z w32 b))) ≡ (is_zero a && is_zero b)
signed_or a b fa fb =
    let n = bit_or (of_z w32 a) (of_z w32 b) in
    let f = Fits-or (Fits-of_z fa) (Fits-of_z fb) in
    sym (zero_bits (to_z w32 n) (sfits_to_z f)) ∙ ap (λ x. eqb x 0) (of_z-to_z f) ∙ or-zero (of_z w32 a) (of_z w32 b) ∙ ap₂ ◌&&◌ (zero_bits a fa) (zero_bits b fb)
