-- Which settings stand in a list, in two joined, and among those of a list at which values differ.
use mathlib.Core.Path.{◌≡◌, refl, sym, ap, ◌∙◌}
use mathlib.Core.Bool.{Bool, true, false, cond, not, ◌&&◌, ◌||◌, and-false, or-true, or_assoc}
use mathlib.Core.List.{List, [], ◌∷◌, ◌++◌}
use Prim.Native.Nat.{ℕ, zero, suc, ◌<◌}
use native.Mathlib.Omega.{arith}
use borrow.Author.Tests.{eqb-true, eq-eqb}
use lib.Dec.{eqb}
use lib.IntN.{ℤ}
use lib.ListN.{length, get_or}
use Rattle.machine.specs.Settings.{value_in}
use Rattle.general.proofs.Cases.{true-is-not-false}
use Rattle.model.specs.History.{eq_z}
use Rattle.model.specs.Form.{holds}
use Rattle.differences.specs.Differences.{changed_in}

-- an element stands in its list
pub holds_at : (l : List ℕ) (i : ℕ) → i < length l → holds (get_or l i 0) l ≡ true
holds_at [] i h = absurd (omega arith)
holds_at (s ∷ l) zero h = rw (eq-eqb s s refl)
holds_at (s ∷ l) (suc i) h = ap (λ (b : Bool). eqb s (get_or l i 0) || b) (holds_at l i (omega arith)) ∙ or-true (eqb s (get_or l i 0))

-- what every element has, each that stands there has
pub at-holds : (P : ℕ → Type 0) (l : List ℕ) → ((i : ℕ) → i < length l → P (get_or l i 0)) → (x : ℕ) → holds x l ≡ true → P x
at-holds P [] f x h = true-is-not-false (sym h)
at-holds P (s ∷ l) f x h = go (eqb s x) refl h (at-holds P l (λ i g. f (suc i) (omega arith)) x)
  where
    go : (t : Bool) → eqb s x ≡ t → (t || holds x l) ≡ true → (holds x l ≡ true → P x) → P x
    go true q e ih = let w : s ≡ x = eqb-true s x q in rw w at (f 0 (omega arith))
    go false q e ih = ih e

pub holds-joined : (x : ℕ) (l m : List ℕ) → holds x (l ++ m) ≡ (holds x l || holds x m)
holds-joined x [] m = refl
holds-joined x (s ∷ l) m = ap (λ (b : Bool). eqb s x || b) (holds-joined x l m) ∙ sym (or_assoc (eqb s x) (holds x l) (holds x m))

-- a setting is among those at which values differ where it stands in the list and its values differ
pub holds-changed : (before after : List ℤ) (x : ℕ) (l : List ℕ) → holds x (changed_in before after l) ≡ (holds x l && not (eq_z (value_in before x) (value_in after x)))
unfolding changed_in
holds-changed before after x [] = refl
holds-changed before after x (s ∷ l) = go (eqb s x) refl (eq_z (value_in before s) (value_in after s)) refl (holds-changed before after x l)
  where
    differ : ℕ → Bool
    differ s = not (eq_z (value_in before s) (value_in after s))

    go : (t : Bool) → eqb s x ≡ t → (u : Bool) → eq_z (value_in before s) (value_in after s) ≡ u → holds x (changed_in before after l) ≡ (holds x l && differ x) → holds x (cond u (changed_in before after l) (s ∷ changed_in before after l)) ≡ ((t || holds x l) && differ x)
    go true q true e ih =
        let none : differ x ≡ false = ap differ (sym (eqb-true s x q)) ∙ ap not e in
        ih ∙ ap (λ (b : Bool). holds x l && b) none ∙ and-false (holds x l) ∙ sym none
    go true q false e ih =
        let some : differ x ≡ true = ap differ (sym (eqb-true s x q)) ∙ ap not e in
        ap (λ (b : Bool). b || holds x (changed_in before after l)) q ∙ sym some
    go false q true e ih = ih
    go false q false e ih = ap (λ (b : Bool). b || holds x (changed_in before after l)) q ∙ ih
