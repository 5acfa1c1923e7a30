-- A history by rising timestamp, split at a timestamp: the changes below it, the change that has it, and the settings as of it.
use mathlib.Core.Path.{◌≡◌, refl, sym, ap, ◌∙◌}
use mathlib.Core.List.{[], ◌∷◌, ◌++◌}
use mathlib.Core.Option.{none, some}
use Prim.Native.Nat.{ℕ, zero, suc, ◌≤◌, ◌<◌}
use native.Mathlib.Decide.{dec_lt}
use native.Mathlib.Omega.{arith}
use borrow.Author.Tests.{eq-eqb, ne_eqb}
use lib.ListN.{length, get_or, take, drop, take-append-drop, drop_of_length-le}
use lib.Seq.{take-suc, drop-cons}
use Rattle.machine.specs.Settings.{Environment}
use Rattle.model.specs.History.{timestamp, History, after_change, after_all, as_of}
use Rattle.model.specs.Cabinet.{blank, find}
use Rattle.model.specs.Sound.{Rising}
use Rattle.model.proofs.Figure.{AllBelow, NoneBelow, as_of-all-below, as_of-none-below, as_of-append, after_all-append, rising-none-below}

-- the first k changes are stamped below t, the others are not
pub record Split (t : ℕ) (h : History) (k : ℕ) : Type 0 where
  pub below : AllBelow t (take k h)
  pub above : NoneBelow t (drop k h)

-- ---- rising timestamps

pub rising-above : (b : ℕ) (h : History) (k : ℕ) → Rising b h → k < length h → b < timestamp (get_or h k blank)
rising-above b [] k r l = absurd (omega arith)
rising-above b (c ∷ h) zero r l = r.0
rising-above b (c ∷ h) (suc k) r l = omega (arith, r.0, rising-above (timestamp c) h k r.2 (omega arith))

-- a change below t, and those before it
pub below-up-to : (t b : ℕ) (h : History) (k : ℕ) → Rising b h → k < length h → timestamp (get_or h k blank) < t → AllBelow t (take (suc k) h)
below-up-to t b [] k r l q = tt
below-up-to t b (c ∷ h) zero r l q = (q, tt)
below-up-to t b (c ∷ h) (suc k) r l q =
    (omega (arith, rising-above (timestamp c) h k r.2 (omega arith)), below-up-to t (timestamp c) h k r.2 (omega arith) q)

-- a change that is not below t, and those after it
pub none-below-from : (t b : ℕ) (h : History) (k : ℕ) → Rising b h → k < length h → t ≤ timestamp (get_or h k blank) → NoneBelow t (drop k h)
none-below-from t b [] k r l q = absurd (omega arith)
none-below-from t b (c ∷ h) zero r l q = (q, rising-none-below t (timestamp c) h q r.2)
none-below-from t b (c ∷ h) (suc k) r l q = none-below-from t (timestamp c) h k r.2 (omega arith) q

-- ---- the change of a timestamp

find-after : (t : ℕ) (a h : History) → AllBelow t a → find t (a ++ h) ≡ find t h
find-after t [] h k = refl
find-after t (c ∷ a) h k = rw (ne_eqb (timestamp c) t (omega (arith, k.0))) (find-after t a h k.1)

find_none : (t : ℕ) (h : History) → NoneBelow (suc t) h → find t h ≡ none
find_none t [] k = refl
find_none t (c ∷ h) k = rw (ne_eqb (timestamp c) t (omega (arith, k.0))) (find_none t h k.1)

module _ (t : ℕ) (h : History) (k : ℕ) (s : Split t h k) where
  find-above : find t h ≡ find t (drop k h)
  find-above = ap (find t) (sym (take-append-drop k h)) ∙ find-after t (take k h) (drop k h) s.below

  -- the change at the split is stamped t
  pub find-here : k < length h → timestamp (get_or h k blank) ≡ t → find t h ≡ some (get_or h k blank)
  find-here l e = find-above ∙ ap (find t) (drop-cons h k blank l) ∙ rw (eq-eqb (timestamp (get_or h k blank)) t e)

  -- the change at the split is not stamped t, or there is none
  pub find-nowhere : (b : ℕ) → Rising b h → (k < length h → timestamp (get_or h k blank) ≡ t → ⊥) → find t h ≡ none
  find-nowhere b r n = find-above ∙ go (dec_lt k (length h))
    where
      go : Dec (k < length h) → find t (drop k h) ≡ none
      go (yes l) =
          let others : NoneBelow t (get_or h k blank ∷ drop (suc k) h) = rw (drop-cons h k blank l) at s.above in
          find_none t (drop k h) (none-below-from (suc t) b h k r l (omega (arith, others.0, n l)))
      go (no l) = ap (find t) (drop_of_length-le h {i = k} (omega arith))

-- ---- settings

-- the settings after one change more
pub after_next : (h : History) (k : ℕ) (env : Environment) → k < length h → after_all (take (suc k) h) env ≡ after_change (get_or h k blank) (after_all (take k h) env)
after_next h k env l = ap (λ (a : History). after_all a env) (take-suc h k blank l) ∙ after_all-append (take k h) (get_or h k blank ∷ []) env

-- the values as of t are those after the changes below t
pub split-as-of : (t : ℕ) (h : History) (k : ℕ) (env : Environment) → Split t h k → as_of t h env ≡ after_all (take k h) env
split-as-of t h k env s =
    ap (λ (g : History). as_of t g env) (sym (take-append-drop k h))
    ∙ as_of-append t (take k h) (drop k h) env
    ∙ as_of-none-below t (drop k h) (as_of t (take k h) env) s.above
    ∙ as_of-all-below t (take k h) env s.below
