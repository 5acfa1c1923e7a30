-- One step of the search for the rank of a timestamp, counting down.
use mathlib.Core.Path.{◌≡◌}
use mathlib.Core.Bool.{◌&&◌}
use mathlib.Core.List.{List}
use mathlib.Core.Option.{Option, some}
use Prim.Native.Nat.{ℕ, zero, suc, ◌-◌, ◌<◌, ◌≤◌}
use native.Mathlib.Numerals.{sub-one}
use native.Mathlib.Omega.{arith}
use borrow.Author.Tests.{ltb-true, lt-ltb, le-ltb}
use lib.Dec.{eqb, ltb}
use Rattle.general.proofs.Cases.{by-test, both}
use Rattle.model.specs.Form.{timestamp_of}
use Rattle.search.specs.Searches.{rank_of, position_of}

-- ---- the rank of a timestamp

module _ (order timestamps : List ℕ) (t : ℕ) where
  -- the change below k is stamped below t
  pub rank-here : (k : ℕ) → 0 < k → timestamp_of order timestamps (k - 1) < t → k ≡ rank_of order timestamps t k
  unfolding rank_of
  rank-here zero h q = absurd (omega arith)
  rank-here (suc k) h q = rw (lt-ltb (timestamp_of order timestamps k) t (rw sub-one at q))

  -- the change below k is not stamped below t
  pub rank-lower : (k : ℕ) → 0 < k → t ≤ timestamp_of order timestamps (k - 1) → rank_of order timestamps t (k - 1) ≡ rank_of order timestamps t k
  unfolding rank_of
  rank-lower zero h q = absurd (omega arith)
  rank-lower (suc k) h q = rw (sub-one, le-ltb (timestamp_of order timestamps k) t (rw sub-one at q))

-- the rank among m changes is at most m
pub rank-within : (order timestamps : List ℕ) (t m : ℕ) → rank_of order timestamps t m ≤ m
unfolding rank_of
rank-within order timestamps t zero = omega arith
rank-within order timestamps t (suc m) =
    let ih = rank-within order timestamps t m in
    by-test (◌≤ suc m) (ltb (timestamp_of order timestamps m) t) (λ b. omega arith) (λ b. omega arith)

-- a position that is found among count changes is below count
pub position-below : (order timestamps : List ℕ) (t count : ℕ) {k : ℕ} → position_of order timestamps t count ≡ some k → k < count
position-below order timestamps t count {k} e =
    let r = rank_of order timestamps t count in
    by-test (λ (x : Option ℕ). x ≡ some k → k < count) (ltb r count && eqb (timestamp_of order timestamps r) t)
    (λ b q. let w : r ≡ k = cc in rw w at (ltb-true r count (both (ltb r count) b).0))
    (λ b q. absurd (let z : ◌≡◌ {A = ℕ} 0 1 = cc in omega arith)) e
