-- Whether a change below a timestamp waits for its turn: by the first that waits, and by the rank of the timestamp.
use mathlib.Core.Path.{◌≡◌, refl, sym, ap, ap₂, ◌∙◌}
use mathlib.Core.Bool.{Bool, true, false, not, ◌&&◌, ◌||◌, or-true, or_assoc}
use mathlib.Core.List.{[], ◌∷◌, ◌++◌}
use mathlib.Core.Option.{Option, none, some}
use Prim.Native.Nat.{ℕ, zero, suc, ◌≤◌, ◌<◌}
use native.Mathlib.Decide.{dec_lt}
use native.Mathlib.Omega.{arith}
use borrow.Author.Tests.{lt-ltb, le-ltb}
use lib.Dec.{eqb, ltb}
use lib.ListN.{length, get_or, take, drop, take-append-drop, length-take}
use lib.Seq.{get_or-take}
use Rattle.model.specs.History.{Status, New, Valid, Invalid, Change, timestamp, status, History}
use Rattle.model.specs.Cabinet.{blank}
use Rattle.model.specs.Tables.{Tables, status_number, held_count}
use Rattle.model.specs.Form.{Formed}
use Rattle.model.specs.Refusals.{waits, waits_below}
use Rattle.model.proofs.Figure.{AllBelow, NoneBelow}
use Rattle.search.specs.Searches.{is_waiting, waiting_in}
use Rattle.search.proofs.First.{first-none, first_some}
use Rattle.search.proofs.Split.{Split}
use Rattle.search.proofs.Model.{history_in, rank_in, history-length, rank-splits}
use Rattle.search.proofs.Waits.{status-of}
use Rattle.cutoff_tests.specs.CutoffTests.{waits_before}

-- ---- in a history

module _ (t : ℕ) where
  waits-append : (a b : History) → waits_below t (a ++ b) ≡ (waits_below t a || waits_below t b)
  waits-append [] b = refl
  waits-append (c ∷ a) b = ap ((ltb (timestamp c) t && waits (status c)) ||◌) (waits-append a b) ∙ sym (or_assoc (ltb (timestamp c) t && waits (status c)) (waits_below t a) (waits_below t b))

  none-below-waits : (h : History) → NoneBelow t h → waits_below t h ≡ false
  none-below-waits [] a = refl
  none-below-waits (c ∷ h) a = rw (le-ltb (timestamp c) t a.0) (none-below-waits h a.1)

  none-waits : (h : History) → ((j : ℕ) → j < length h → waits (status (get_or h j blank)) ≡ false) → waits_below t h ≡ false
  none-waits [] w = refl
  none-waits (c ∷ h) w = rw (w 0 (omega arith), none-waits h (λ j q. w (suc j) (omega arith))) (go (ltb (timestamp c) t))
    where
      go : (b : Bool) → ((b && false) || false) ≡ false
      go true = refl
      go false = refl

  one-waits : (h : History) (k : ℕ) → k < length h → timestamp (get_or h k blank) < t → waits (status (get_or h k blank)) ≡ true → waits_below t h ≡ true
  one-waits [] k l b w = absurd (omega arith)
  one-waits (c ∷ h) zero l b w = rw (lt-ltb (timestamp c) t b, w)
  one-waits (c ∷ h) (suc k) l b w = rw (one-waits h k (omega arith) b w) (or-true (ltb (timestamp c) t && waits (status c)))

  below_at : (h : History) (d k : ℕ) → AllBelow t (take d h) → k < d → k < length h → timestamp (get_or h k blank) < t
  below_at [] d k a q l = absurd (omega arith)
  below_at (c ∷ h) zero k a q l = absurd (omega arith)
  below_at (c ∷ h) (suc d) zero a q l = a.0
  below_at (c ∷ h) (suc d) (suc k) a q l = below_at h d k a.1 (omega arith) (omega arith)

  -- none of those below the timestamp waits
  first-settled : (h : History) (d : ℕ) → Split t h d → ((j : ℕ) → j < d → j < length h → waits (status (get_or h j blank)) ≡ false) → waits_below t h ≡ false
  first-settled h d s w =
      let few : length (take d h) ≤ d = omega (arith, length-take d h) in
      let less : length (take d h) ≤ length h = omega (arith, length-take d h) in
      ap (waits_below t) (sym (take-append-drop d h))
      ∙ waits-append (take d h) (drop d h)
      ∙ ap₂ ◌||◌ (none-waits (take d h) (λ j q. ap (λ (c : Change). waits (status c)) (get_or-take d h j blank (omega arith)) ∙ w j (omega arith) (omega arith))) (none-below-waits (drop d h) s.above)

-- ---- in tables

number-waits : (s : Status) → not (eqb (status_number s) 1) ≡ waits s
number-waits New = refl
number-waits Valid = refl
number-waits Invalid = refl

module _ {n : ℕ} {T : Tables} (g : Formed n T) (t : ℕ) where
  abbrev h : History
  h = history_in T

  waits-at : (j : ℕ) → j < held_count T → {b : Bool} → is_waiting T.order T.status j ≡ b → waits (status (get_or h j blank)) ≡ b
  waits-at j l e = sym (number-waits (status (get_or h j blank))) ∙ ap (λ (k : ℕ). not (eqb k 1)) (sym (status-of g j l)) ∙ e

  -- the first that waits is at position k
  by_order : (k : ℕ) → Dec (k < rank_in T t) → k < held_count T → waits (status (get_or h k blank)) ≡ true → ((j : ℕ) → j < k → waits (status (get_or h j blank)) ≡ false) → ltb k (rank_in T t) ≡ waits_below t h
  by_order k (yes q) l w f =
      let held : k < length h = omega (arith, history-length g) in
      lt-ltb k (rank_in T t) q ∙ sym (one-waits t h k held (below_at t h (rank_in T t) k (rank-splits g t).below q held) w)
  by_order k (no q) l w f =
      le-ltb k (rank_in T t) (omega arith) ∙ sym (first-settled t h (rank_in T t) (rank-splits g t) (λ j i r. f j (omega arith)))

  pub waits-before : waits_before (waiting_in T) (rank_in T t) ≡ waits_below t h
  waits-before = go (waiting_in T) refl
    where
      go : (x : Option ℕ) → waiting_in T ≡ x → waits_before x (rank_in T t) ≡ waits_below t h
      go none e =
          sym (none-waits t h (λ j l. let q : j < held_count T = omega (arith, history-length g) in waits-at j q (first-none (is_waiting T.order T.status) (held_count T) e j q)))
      go (some k) e =
          let f = first_some (is_waiting T.order T.status) (held_count T) k e in
          by_order k (dec_lt k (rank_in T t)) f.0 (waits-at k f.0 f.1) (λ j q. waits-at j (omega (arith, f.0)) (f.2 j q))
