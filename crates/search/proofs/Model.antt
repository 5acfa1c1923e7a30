-- The searches in tables that are in form, as questions to the history that the tables hold.
use mathlib.Core.Path.{◌≡◌, sym, ap, subst, ◌∙◌}
use mathlib.Core.Bool.{◌&&◌}
use mathlib.Core.Option.{Option, none, some}
use Prim.Native.Nat.{ℕ, zero, suc, ◌≤◌, ◌<◌}
use native.Mathlib.Omega.{arith}
use borrow.Author.Tests.{ltb-true, ltb-false, lt-ltb, eqb-true, eq-eqb}
use lib.Dec.{eqb, ltb}
use lib.ListN.{length, get_or, drop, drop_of_length-le}
use Rattle.general.proofs.Cases.{by-test, true-is-not-false, both}
use Rattle.model.specs.History.{timestamp, History}
use Rattle.model.specs.Cabinet.{blank, history_of, find}
use Rattle.model.specs.Tables.{Tables, held_count, decode}
use Rattle.model.specs.Form.{timestamp_of, Formed}
use Rattle.model.proofs.Figure.{NoneBelow}
use Rattle.model.proofs.Order.{changes_at-length, changes_at-get}
use Rattle.model.proofs.Tables.{held-count, timestamp-at, order-at}
use Rattle.model.proofs.Form.{facts}
use Rattle.search.specs.Searches.{PlacesWithin, rank_of, position_of}
use Rattle.search.proofs.Split.{Split, below-up-to, none-below-from, find-here, find-nowhere}

-- ---- the searches in some tables

abbrev pub history_in : Tables → History
history_in T = history_of (decode T)

abbrev pub stamp_in : Tables → ℕ → ℕ
stamp_in T k = timestamp_of T.order T.timestamps k

abbrev pub rank_in : Tables → ℕ → ℕ
rank_in T t = rank_of T.order T.timestamps t (held_count T)

abbrev pub position_in : Tables → ℕ → Option ℕ
position_in T t = position_of T.order T.timestamps t (held_count T)

module _ {n : ℕ} {T : Tables} (g : Formed n T) where
  -- ---- what the searches require

  pub placed : (k limit : ℕ) → k ≤ held_count T → limit ≡ n → PlacesWithin k T.order limit
  placed k limit h m =
      record { long = omega (arith, (facts g).sizes.order, (facts g).form.small); below = λ j l. omega (arith, (facts g).form.places j (omega arith), (facts g).form.small) }

  -- for `rank` and `position`
  pub placed-stamps : PlacesWithin (held_count T) T.order (length T.timestamps)
  placed-stamps = placed (held_count T) (length T.timestamps) (omega arith) (facts g).sizes.timestamps

  -- ---- the tables and the history

  pub held-changes : length (decode T).changes ≡ held_count T
  held-changes = sym (held-count n (decode T)) ∙ ap held_count (facts g).laid

  pub history-length : length (history_in T) ≡ held_count T
  history-length = changes_at-length (decode T).changes (decode T).order ∙ (facts g).sound.placed.counted ∙ held-changes

  pub place_of : (k : ℕ) → get_or T.order k 0 ≡ get_or (decode T).order k 0
  place_of k = ap (λ (U : Tables). get_or U.order k 0) (sym (facts g).laid) ∙ order-at n (decode T) k

  module _ (k : ℕ) (h : k < held_count T) where
    pub change-of : get_or (history_in T) k blank ≡ get_or (decode T).changes (get_or (decode T).order k 0) blank
    change-of = changes_at-get (decode T).changes (decode T).order k (omega (arith, (facts g).sound.placed.counted, held-changes))

    -- the change at a position of the order list
    pub by_place : get_or (decode T).changes (get_or T.order k 0) blank ≡ get_or (history_in T) k blank
    by_place = ap (λ (i : ℕ). get_or (decode T).changes i blank) (place_of k) ∙ sym change-of

    pub stamped : stamp_in T k ≡ timestamp (get_or (history_in T) k blank)
    stamped =
        ap (λ (U : Tables). get_or U.timestamps (get_or T.order k 0) 0) (sym (facts g).laid)
        ∙ timestamp-at n (decode T) (get_or T.order k 0)
        ∙ ap timestamp by_place

  -- ---- the rank of a timestamp, and the change that has it

  module _ (t : ℕ) where
    -- from a position on none is below
    rank-from : (m : ℕ) → m ≤ held_count T → NoneBelow t (drop m (history_in T)) → Split t (history_in T) (rank_of T.order T.timestamps t m)
    unfolding rank_of
    rank-from zero h a = record { below = tt; above = a }
    rank-from (suc m) h a =
        let ih = rank-from m (omega arith) in
        by-test (Split t (history_in T)) (ltb (stamp_in T m) t)
        (λ b. record { below = below-up-to t 0 (history_in T) m (facts g).sound.rising (omega (arith, history-length)) (omega (arith, stamped m h, ltb-true (stamp_in T m) t b)); above = a })
        (λ b. ih (none-below-from t 0 (history_in T) m (facts g).sound.rising (omega (arith, history-length)) (omega (arith, stamped m h, ltb-false (stamp_in T m) t b))))

    -- every change below the rank is stamped below the timestamp, no other is
    pub rank-splits : Split t (history_in T) (rank_in T t)
    rank-splits = rank-from (held_count T) (omega arith) (rw (drop_of_length-le (history_in T) {i = held_count T} (omega (arith, history-length))) tt)

    -- what a position says of the change of the timestamp
    abbrev Finds : Option ℕ → Type 0
    Finds none = find t (history_in T) ≡ none
    Finds (some k) = (k < held_count T) × (find t (history_in T) ≡ some (get_or (decode T).changes (get_or (decode T).order k 0) blank))

    finds : Finds (position_in T t)
    finds =
        let k = rank_in T t in
        by-test Finds (ltb k (held_count T) && eqb (stamp_in T k) t)
        (λ b.
        let l : k < held_count T = ltb-true k (held_count T) (both (ltb k (held_count T)) b).0 in
        let same = eqb-true _ t (both (ltb k (held_count T)) b).1 in
        (l, find-here t (history_in T) k rank-splits (omega (arith, history-length)) (sym (stamped k l) ∙ same) ∙ ap some (change-of k l)))
        (λ b.
        find-nowhere t (history_in T) k rank-splits 0 (facts g).sound.rising
        (λ l same.
        let l' : k < held_count T = omega (arith, history-length) in
        true-is-not-false (sym (rw (lt-ltb k (held_count T) l', eq-eqb _ t (stamped k l' ∙ same))) ∙ b)))

    pub position-none : position_in T t ≡ none → find t (history_in T) ≡ none
    position-none p = subst Finds p finds

    pub position_some : (k : ℕ) → position_in T t ≡ some k → (k < held_count T) × (find t (history_in T) ≡ some (get_or (decode T).changes (get_or (decode T).order k 0) blank))
    position_some k p = subst Finds p finds

    -- the change, by its place in the tables
    pub position-change : (k : ℕ) → position_in T t ≡ some k → find t (history_in T) ≡ some (get_or (decode T).changes (get_or T.order k 0) blank)
    position-change k p = (position_some k p).1 ∙ ap (λ (i : ℕ). some (get_or (decode T).changes i blank)) (sym (place_of k))
