-- A number put byte by byte.
use Rattle.std.proofs.Common.{◌≡◌, sym, ap, ◌∙◌, List, [], ◌++◌, append-nil, ℕ, suc, ◌+◌, ◌-◌, ◌/◌, ◌%◌, ◌<◌, ◌≤◌, length, set, take, add-one, arith}
use Rattle.std.proofs.Math.Seq.{append_snoc, take-suc-set, take_all}
use Rattle.model.specs.Package.{number_bytes}

-- the first k bytes are put, and the rest of the number makes the others
pub record Written (number size : ℕ) (part : List ℕ) (rest k : ℕ) : Type 0 where
  pub whole : take k part ++ number_bytes (size - k) rest ≡ number_bytes size number

pub written_none : {number size : ℕ} {part : List ℕ} → Written number size part number 0
written_none {number} {size} = let z : size - 0 ≡ size = omega arith in record { whole = ap (λ (k : ℕ). number_bytes k number) z }

pub written_next : {number size : ℕ} {part : List ℕ} {rest k : ℕ} → Written number size part rest k → k < length part → length part ≡ size → Written number size (set part k (rest % 256)) (rest / 256) (k + 1)
written_next {number} {size} {part} {rest} {k} w h e =
    let left : size - k ≡ suc (size - suc k) = omega (arith, h, e) in
    record {
      whole = rw (add-one k, take-suc-set part k (rest % 256) h) (append_snoc (take k part) (rest % 256) (number_bytes (size - suc k) (rest / 256)) ∙ (rw left at w.whole));
    }

pub written_all : {number size : ℕ} {part : List ℕ} {rest k : ℕ} → Written number size part rest k → length part ≤ k → length part ≡ size → part ≡ number_bytes size number
written_all {number} {size} {part} {rest} {k} w h e =
    let z : size - k ≡ 0 = omega (arith, h, e) in
    sym (append-nil part) ∙ sym (ap (◌++ []) (take_all k part h)) ∙ rw z at w.whole
