-- The change whose turn it is, in tables that are in form, as it is in the history that the tables hold.
use mathlib.Core.Path.{◌≡◌, refl, sym, ap, ◌∙◌}
use mathlib.Core.Bool.{true, false, not}
use mathlib.Core.List.{List, ◌∷◌}
use mathlib.Core.Logic.{◌⊎◌, inl, inr}
use mathlib.Core.Option.{none, some}
use Prim.Native.Nat.{ℕ, suc, ◌≤◌, ◌<◌}
use native.Mathlib.Omega.{arith}
use lib.Dec.{eqb}
use lib.IntN.{ℤ}
use lib.ListN.{length, get_or, take, drop}
use lib.Seq.{split_at, take_all}
use Rattle.machine.specs.Settings.{Environment}
use Rattle.general.proofs.Cases.{true-is-not-false}
use Rattle.model.specs.History.{Status, New, Valid, Invalid, Change, status, History, after_all}
use Rattle.model.specs.Cabinet.{blank}
use Rattle.model.specs.Tables.{Tables, status_number, held_count, decode}
use Rattle.model.specs.Figure.{idle}
use Rattle.model.specs.Walk.{walk}
use Rattle.model.specs.Form.{Formed}
use Rattle.model.proofs.Figure.{AllValid}
use Rattle.model.proofs.Form.{facts}
use Rattle.model.proofs.Tables.{status-at}
use Rattle.search.specs.Searches.{PlacesWithin, is_waiting, waiting_in}
use Rattle.search.proofs.First.{first-none, first_some}
use Rattle.search.proofs.Model.{history_in, history-length, placed, by_place}
use Rattle.search.proofs.Passes.{passes, walk-past, walk-valid, all_valid}

-- ---- statuses

number-valid : (s : Status) → not (eqb (status_number s) 1) ≡ false → s ≡ Valid
number-valid New e = true-is-not-false e
number-valid Valid e = refl
number-valid Invalid e = true-is-not-false e

number-waits : (s : Status) → not (eqb (status_number s) 1) ≡ true → (s ≡ New) ⊎ (s ≡ Invalid)
number-waits New e = inl refl
number-waits Valid e = true-is-not-false (sym e)
number-waits Invalid e = inr refl

-- the change at a position is the first of a history that is not Valid
pub record Waits (h : History) (k : ℕ) : Type 0 where
  pub before : AllValid (take k h)
  pub here : (status (get_or h k blank) ≡ New) ⊎ (status (get_or h k blank) ≡ Invalid)

module _ {n : ℕ} {T : Tables} (g : Formed n T) where
  -- for `waiting`
  pub placed-status : PlacesWithin (held_count T) T.order (length T.status)
  placed-status = placed g (held_count T) (length T.status) (omega arith) (facts g).sizes.status

  pub status-of : (k : ℕ) → k < held_count T → get_or T.status (get_or T.order k 0) 0 ≡ status_number (status (get_or (history_in T) k blank))
  status-of k h =
      ap (λ (U : Tables). get_or U.status (get_or T.order k 0) 0) (sym (facts g).laid)
      ∙ status-at n (decode T) (get_or T.order k 0)
      ∙ ap (λ (c : Change). status_number (status c)) (by_place g k h)

  passed-valid : (k : ℕ) → k < held_count T → is_waiting T.order T.status k ≡ false → status (get_or (history_in T) k blank) ≡ Valid
  passed-valid k h t = number-valid _ (rw (status-of k h) at t)

  -- the changes below a position at which none waits
  valid-below : (k : ℕ) → k ≤ held_count T → ((j : ℕ) → j < k → is_waiting T.order T.status j ≡ false) → AllValid (take k (history_in T))
  valid-below k h t = all_valid (history_in T) k (omega (arith, history-length g)) (λ j l. passed-valid j (omega arith) (t j l))

  -- none waits: every change is Valid, and there is no turn
  pub walk_none : waiting_in T ≡ none → (env : Environment) (view : List ℤ) → walk env view (history_in T) ≡ idle
  walk_none w env view =
      walk-valid env view (history_in T)
      (rw (take_all (held_count T) (history_in T) (omega (arith, history-length g))) at (valid-below (held_count T) (omega arith) (first-none (is_waiting T.order T.status) (held_count T) w)))

  module _ (k : ℕ) (w : waiting_in T ≡ some k) where
    pub waiting-held : k < held_count T
    waiting-held = (first_some (is_waiting T.order T.status) (held_count T) k w).0

    pub waiting-some : Waits (history_in T) k
    waiting-some =
        let f = first_some (is_waiting T.order T.status) (held_count T) k w in
        record { before = valid-below k (omega (arith, f.0)) f.2; here = number-waits _ (rw (status-of k f.0) at f.1) }

    -- the turn is that of the change at the position, on the settings that the changes below it leave
    pub walk-some : (env : Environment) (view : List ℤ) → walk env view (history_in T) ≡ passes (take k (history_in T)) (walk (after_all (take k (history_in T)) env) view (get_or (history_in T) k blank ∷ drop (suc k) (history_in T)))
    walk-some env view =
        ap (walk env view) (split_at (history_in T) k blank (omega (arith, waiting-held, history-length g)))
        ∙ walk-past env view (take k (history_in T)) (get_or (history_in T) k blank ∷ drop (suc k) (history_in T)) waiting-some.before
