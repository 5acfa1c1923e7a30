-- The search for a writer in tables that are in form: the settings as of a position and as of a timestamp.
use mathlib.Core.Path.{◌≡◌, refl, sym, ap, ◌∙◌}
use mathlib.Core.Bool.{true, not}
use mathlib.Core.List.{List, [], ◌∷◌}
use mathlib.Core.Option.{Option}
use Prim.Native.Nat.{ℕ, zero, suc, ◌≤◌, ◌<◌}
use native.Mathlib.Omega.{arith}
use borrow.Author.Tests.{ltb-true}
use lib.Dec.{ltb}
use lib.IntN.{ℤ}
use lib.ListN.{length, get_or, take}
use Rattle.machine.specs.Settings.{setting_count, Environment, Entry, ◌or_if◌, ◌or_else◌, lookup}
use Rattle.general.proofs.Cases.{both}
use Rattle.machine.proofs.Settings.{or-if-else}
use Rattle.model.specs.History.{Change, lists, after_all, as_of}
use Rattle.model.specs.Cabinet.{blank}
use Rattle.model.specs.Tables.{Tables, held_count, writes_at, decode, list_in}
use Rattle.model.specs.Form.{holds, distinct_settings, Formed}
use Rattle.model.proofs.Sound.{at-any-place}
use Rattle.model.proofs.Tables.{writes-at, writes-back}
use Rattle.model.proofs.Form.{facts}
use Rattle.search.specs.Searches.{PlacesWithin}
use Rattle.search.proofs.Model.{history_in, rank_in, placed, held-changes, history-length, by_place, rank-splits}
use Rattle.writers.specs.Writers.{WriteLists, OfSettings, previous_write}
use Rattle.search.proofs.Steps.{rank-within}
use Rattle.search.proofs.Split.{after_next, split-as-of}

-- a place's settings that the test of form has passed
pub tested-settings : (l : List ℕ) → distinct_settings l ≡ true → OfSettings l
tested-settings l e = record { below = go l e }
  where
    go : (l : List ℕ) → distinct_settings l ≡ true → (i : ℕ) → i < length l → get_or l i 0 < setting_count
    go [] e i h = absurd (omega arith)
    go (s ∷ l) e zero h = ltb-true s setting_count (both (ltb s setting_count) e).0
    go (s ∷ l) e (suc i) h = go l (both (not (holds s l)) (both (ltb s setting_count) e).1).1 i (omega arith)

-- the previous write in some tables
abbrev pub previous_in : Tables → ℕ → ℕ → Option ℤ
previous_in T s k = previous_write T.order T.writes T.targets T.written s k

module _ {n : ℕ} {T : Tables} (g : Formed n T) where
  -- what `previous_write` requires
  pub placed-writes : (k : ℕ) → k ≤ held_count T → PlacesWithin k T.order (length T.writes)
  placed-writes k h = placed g k (length T.writes) h (facts g).sizes.writes

  pub listed : WriteLists T.writes T.targets T.written
  listed =
      record {
        capacity = omega (arith, (facts g).sizes.writes, (facts g).sizes.capacity);
        target-slots = omega (arith, (facts g).sizes.writes, (facts g).sizes.targets);
        value-slots = omega (arith, (facts g).sizes.writes, (facts g).sizes.written);
        short = λ i. rw (← (facts g).laid, writes-at n (decode T) i) (at-any-place (λ c. length (lists c).writes ≤ 32) (omega arith) (λ c s. s.writes.short) (decode T).changes i (facts g).sound.each);
      }

  -- what the change at a position writes
  pub wrote : (k : ℕ) → k < held_count T → list_in T.writes T.targets T.written (get_or T.order k 0) ≡ (lists (get_or (history_in T) k blank)).writes
  wrote k h =
      ap (λ (U : Tables). writes_at U (get_or T.order k 0)) (sym (facts g).laid)
      ∙ writes-back n (decode T) (facts g).sound (get_or T.order k 0) (omega (arith, (facts g).form.places k h, held-changes g))
      ∙ ap (λ (c : Change). (lists c).writes) (by_place g k h)

  -- ---- settings

  module _ (env : Environment) (s : ℕ) where
    -- the value of a setting after the changes below a position
    pub after-below : (k : ℕ) → k ≤ held_count T → after_all (take k (history_in T)) env s ≡ (previous_in T s k or_else env s)
    unfolding previous_write
    after-below zero h = refl
    after-below (suc k) h =
        ap (λ (x : Environment). x s) (after_next (history_in T) k env (omega (arith, history-length g)))
        ∙ ap (λ (v : ℤ). lookup (lists (get_or (history_in T) k blank)).writes s or_else v) (after-below k (omega arith))
        ∙ sym (or-if-else (lookup (lists (get_or (history_in T) k blank)).writes s) (previous_in T s k) (env s))
        ∙ ap (λ (w : List Entry). (lookup w s or_if previous_in T s k) or_else env s) (sym (wrote k h))

    -- its value as of a timestamp
    pub as-of : (t : ℕ) → as_of t (history_in T) env s ≡ (previous_in T s (rank_in T t) or_else env s)
    as-of t =
        let k = rank_in T t in
        ap (λ (x : Environment). x s) (split-as-of t (history_in T) k env (rank-splits g t))
        ∙ after-below k (rank-within T.order T.timestamps t (held_count T))
