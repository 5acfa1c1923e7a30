-- Sums over the order list.
use mathlib.Core.Path.{◌≡◌}
use mathlib.Core.List.{List}
use Prim.Native.Nat.{ℕ, zero, suc, ◌+◌, ◌-◌, ◌*◌, ◌≤◌, ◌<◌}
use native.Mathlib.Numerals.{add-one}
use native.Mathlib.Omega.{arith}
use lib.ListN.{get_or}
use Rattle.package_parts.specs.Parts.{total_of}

module _ (order column : List ℕ) where
  -- one place more
  pub total-next : (k : ℕ) → total_of order column (k + 1) ≡ total_of order column k + get_or column (get_or order k 0) 0
  unfolding total_of
  total-next k = rw add-one

  -- of 16-bit numbers
  pub total-small : ((i : ℕ) → get_or column i 0 ≤ 65535) → (k : ℕ) → total_of order column k ≤ 65535 * k
  unfolding total_of
  total-small small zero = omega arith
  total-small small (suc k) = omega (arith, total-small small k, small (get_or order k 0))

  rises : (k d : ℕ) → total_of order column k ≤ total_of order column (k + d)
  unfolding total_of
  rises k zero = let e : k + 0 ≡ k = omega arith in rw e (omega arith)
  rises k (suc d) = let e : k + suc d ≡ suc (k + d) = omega arith in rw e (omega (arith, rises k d))

  -- a place and those before it are within the whole
  pub total-within : (k count : ℕ) → k < count → total_of order column k + get_or column (get_or order k 0) 0 ≤ total_of order column count
  total-within k count h =
      let e : k + 1 + (count - (k + 1)) ≡ count = omega arith in
      omega (arith, total-next k, rw e at (rises (k + 1) (count - (k + 1))))
