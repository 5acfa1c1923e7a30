-- How long the parts of a package are.
use mathlib.Core.Path.{◌≡◌, ◌∙◌}
use mathlib.Core.List.{List}
use Prim.Native.Nat.{ℕ, zero, suc, ◌*◌, ◌≤◌, ◌<◌}
use native.Mathlib.Omega.{arith}
use borrow.Author.Tests.{eqb-true, eqb-false}
use lib.Dec.{eqb}
use lib.ListN.{length, get_or, drop, length-append, length-drop}
use lib.Seq.{length-take-le}
use Rattle.general.proofs.Cases.{by-test}
use Rattle.text.specs.Pieces.{pieces_below}
use Rattle.search.specs.Searches.{PlacesWithin}
use Rattle.package_parts.specs.Parts.{total_of, change_entry, withdrawal_entry, body_in, AtMost}
use Rattle.package_entries.specs.Entries.{withdrawal_bytes}

-- the entries of changes
pub changes-length : (order timestamps lengths versions : List ℕ) (k : ℕ) → length (pieces_below k (change_entry order timestamps lengths versions)) ≡ 12 * k
changes-length order timestamps lengths versions zero = omega arith
changes-length order timestamps lengths versions (suc k) =
    length-append (pieces_below k (change_entry order timestamps lengths versions)) (change_entry order timestamps lengths versions k)
    ∙ omega (arith, changes-length order timestamps lengths versions k)

-- the entry of a withdrawal
pub withdrawal-length : (flag t : ℕ) → flag ≤ 1 → length (withdrawal_bytes flag t) ≡ 12 * flag
withdrawal-length flag t h =
    by-test (λ (l : List ℕ). length l ≡ 12 * flag) (eqb flag 0)
    (λ q. omega (arith, eqb-true flag 0 q))
    (λ q. let some : ¬ (flag ≡ 0) = eqb-false flag 0 q in omega (arith, h, some))

pub withdrawals-length : (order timestamps withdrawn : List ℕ) → AtMost 1 withdrawn → (k : ℕ) → length (pieces_below k (withdrawal_entry order timestamps withdrawn)) ≡ 12 * total_of order withdrawn k
unfolding total_of
withdrawals-length order timestamps withdrawn a zero = omega arith
withdrawals-length order timestamps withdrawn a (suc k) =
    let place = get_or order k 0 in
    length-append (pieces_below k (withdrawal_entry order timestamps withdrawn)) (withdrawal_entry order timestamps withdrawn k)
    ∙ omega (arith, withdrawals-length order timestamps withdrawn a k, withdrawal-length (get_or withdrawn place 0) (get_or timestamps place 0) (a.each place))

-- the bodies
module _ (order lengths programs : List ℕ) (a : AtMost 32 lengths) (blocks : length programs ≡ 256 * length lengths) where
  pub body-length : (k : ℕ) → get_or order k 0 < length lengths → length (body_in order lengths programs k) ≡ 8 * get_or lengths (get_or order k 0) 0
  body-length k h =
      let place = get_or order k 0 in
      length-take-le (8 * get_or lengths place 0) (drop (256 * place) programs) (omega (arith, length-drop (256 * place) programs, a.each place, blocks, h))

  pub bodies-length : (count : ℕ) → PlacesWithin count order (length lengths) → (k : ℕ) → k ≤ count → length (pieces_below k (body_in order lengths programs)) ≡ 8 * total_of order lengths k
  unfolding total_of
  bodies-length count p zero h = omega arith
  bodies-length count p (suc k) h =
      length-append (pieces_below k (body_in order lengths programs)) (body_in order lengths programs k)
      ∙ omega (arith, bodies-length count p k (omega (arith, h)), body-length k (p.below k (omega (arith, h))))
