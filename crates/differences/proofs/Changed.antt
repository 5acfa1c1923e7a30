-- Laws of the settings that a change of write lists alters: those collected are those that differ, and restored values are known as of the next position.
use mathlib.Core.Path.{◌≡◌, refl, sym, ap, ◌∙◌}
use mathlib.Core.Bool.{cond}
use mathlib.Core.List.{List, [], ◌∷◌, ◌++◌, append_assoc, append-nil}
use Prim.Native.Nat.{ℕ, ◌+◌, ◌≤◌, ◌<◌}
use native.Mathlib.Numerals.{add-one}
use native.Mathlib.Omega.{arith}
use lib.IntN.{ℤ}
use lib.ListN.{length, get_or, set, take, drop, length-set, drop_of_length-le}
use lib.Seq.{drop-cons, take-suc-set, take-set-le}
use mir.Syntax.{w32}
use mir.Val.{SFits, of_z}
use Rattle.machine.specs.Settings.{value_in}
use Rattle.model.specs.History.{eq_z}
use Rattle.model.proofs.Values.{same_bits, other-bits}
use Rattle.differences.specs.Differences.{changed_in, Collected, restored}

-- ---- collected, one setting after the other

-- what the settings from the i-th on add is what is left to collect
pub record Collecting (settings : List ℕ) (before after : List ℤ) (count : ℕ) (earlier : List ℕ) (total : ℕ) (changed : List ℕ) (i : ℕ) : Type 0 where
  pub within : i ≤ length settings
  pub bound : total ≤ count + i
  pub size : length changed ≡ length earlier
  pub rest : take total changed ++ changed_in before after (drop i settings) ≡ take count earlier ++ changed_in before after settings

module _ {settings : List ℕ} {before after : List ℤ} {count : ℕ} {earlier : List ℕ} where
  pub collecting-none : Collecting settings before after count earlier count earlier 0
  collecting-none = record { within = omega arith; bound = omega arith; size = refl; rest = refl }

  module _ {total : ℕ} {changed : List ℕ} {i : ℕ} (h : Collecting settings before after count earlier total changed i) where
    module _ (l : i < length settings) (room : count + length settings ≤ length earlier) where
      abbrev s : ℕ
      s = get_or settings i 0

      changed-next : changed_in before after (drop i settings) ≡ cond (eq_z (value_in before s) (value_in after s)) (changed_in before after (drop (i + 1) settings)) (s ∷ changed_in before after (drop (i + 1) settings))
      unfolding changed_in
      changed-next = rw (drop-cons settings i 0, add-one)

      -- the values at the i-th differ
      pub collecting-one : (of_z w32 (value_in before s) ≡ of_z w32 (value_in after s) → ⊥) → Collecting settings before after count earlier (total + 1) (set changed total s) (i + 1)
      collecting-one n =
          let e = other-bits (value_in before s) (value_in after s) n in
          record {
            within = omega arith;
            bound = omega (arith, h.bound);
            size = simp length-set h.size;
            rest =
                ap (λ n. take n (set changed total s) ++ changed_in before after (drop (i + 1) settings)) (add-one total)
                ∙ ap (λ k. k ++ changed_in before after (drop (i + 1) settings)) (take-suc-set changed total s (omega (arith, h.bound, h.size)))
                ∙ append_assoc (take total changed) (s ∷ []) (changed_in before after (drop (i + 1) settings))
                ∙ ap (take total changed ++◌) (sym (changed-next ∙ rw e))
                ∙ h.rest;
          }

      -- they are the same
      pub collecting-same : SFits w32 (value_in before s) → SFits w32 (value_in after s) → of_z w32 (value_in before s) ≡ of_z w32 (value_in after s) → Collecting settings before after count earlier total (set changed total s) (i + 1)
      collecting-same f g q =
          let e = same_bits (value_in before s) (value_in after s) f g q in
          record {
            within = omega arith;
            bound = omega (arith, h.bound);
            size = simp length-set h.size;
            rest =
                ap (λ k. k ++ changed_in before after (drop (i + 1) settings)) (take-set-le total changed total s (omega arith))
                ∙ ap (take total changed ++◌) (sym (changed-next ∙ rw e))
                ∙ h.rest;
          }

    pub collecting-all : length settings ≤ i → Collected settings before after count earlier total changed
    unfolding changed_in
    collecting-all l =
        record {
          bound = omega (arith, h.bound, h.within);
          sized = h.size;
          these = sym (ap (λ k. take total changed ++ changed_in before after k) (drop_of_length-le settings {i = i} l) ∙ append-nil (take total changed)) ∙ h.rest;
        }

-- ---- restored, one setting after the other

module _ (settings : List ℕ) (after before : List ℤ) (i : ℕ) where
  pub restored-ends : length settings ≤ i → restored (drop i settings) after before ≡ before
  unfolding restored
  restored-ends h = rw (drop_of_length-le settings {i = i} h)

  pub restored-next : i < length settings → {v : ℤ} → v ≡ value_in after (get_or settings i 0) → restored (drop (i + 1) settings) after (set before (get_or settings i 0) v) ≡ restored (drop i settings) after before
  unfolding restored
  restored-next h e = rw (drop-cons settings i 0, add-one, e)
