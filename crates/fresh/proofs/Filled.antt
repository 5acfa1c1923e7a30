-- A list stored over another of its length, element by element.
use Rattle.std.proofs.Common.{◌≡◌, ◌∙◌, refl, sym, ap, ap₂, List, ◌++◌, ℕ, ℤ, pos, ◌+◌, ◌<◌, ◌≤◌, length, get_or, set, arith}
use Rattle.std.proofs.lemmas.List.{append-nil, drop_all}
use Rattle.std.proofs.Math.Nat.{zero-add}
use Rattle.std.proofs.Math.Numerals.{add-one}
use Rattle.std.proofs.Math.Seq.{paste, paste-suc, take-length}

module _ (s d : List ℤ) where
  pub paste-next : (i : ℕ) → i < length d → i < length s → set (paste d 0 s i) i (get_or s i (pos 0)) ≡ paste d 0 s (i + 1)
  paste-next i p q =
      ap (λ (k : ℕ). set (paste d 0 s i) k (get_or s i (pos 0))) (sym (zero-add i))
      ∙ paste-suc d 0 s i (pos 0) (omega (arith, zero-add i)) q
      ∙ rw (add-one i) refl

  pub paste-all : length d ≤ length s → paste d 0 s (length s) ≡ s
  paste-all h = ap₂ ◌++◌ (take-length s) (drop_all (0 + length s) d (omega (arith, zero-add (length s)))) ∙ append-nil s
