-- Places, the order list from a position on, and the changes there.
use mathlib.Core.Path.{◌≡◌, refl, ap, ◌∙◌}
use mathlib.Core.List.{List, [], ◌∷◌, ◌++◌}
use Prim.Native.Nat.{ℕ, zero, suc, ◌+◌}
use native.Mathlib.Omega.{arith}
use lib.ListN.{get_or, take, drop}
use lib.Seq.{set-get_or}
use Rattle.model.specs.History.{Change}
use Rattle.model.specs.Cabinet.{blank, changes_at, put_at}
use Rattle.model.specs.Sound.{Below, AllDistinct}

-- ---- part of the order list

pub below-drop : (n : ℕ) (places : List ℕ) (k : ℕ) → Below n places → Below n (drop k places)
below-drop n places zero b = b
below-drop n [] (suc k) b = tt
below-drop n (i ∷ places) (suc k) b = below-drop n places k b.1

pub distinct-drop : (places : List ℕ) (k : ℕ) → AllDistinct places → AllDistinct (drop k places)
distinct-drop places zero d = d
distinct-drop [] (suc k) d = tt
distinct-drop (i ∷ places) (suc k) d = distinct-drop places k d.1

-- the order list has some places from a position on
abbrev pub Ordered : List ℕ → ℕ → List ℕ → Type 0
Ordered order k [] = Unit {0}
Ordered order k (i ∷ places) = (get_or order k 0 ≡ i) × Ordered order (suc k) places

pub ordered_of : (order places : List ℕ) (k : ℕ) → ((j : ℕ) → get_or order (k + j) 0 ≡ get_or places j 0) → Ordered order k places
ordered_of order [] k a = tt
ordered_of order (i ∷ places) k a =
    let e : k ≡ k + 0 = omega arith in
    let next : (j : ℕ) → suc k + j ≡ k + suc j = λ j. omega arith in
    (ap (λ (m : ℕ). get_or order m 0) e ∙ a 0, ordered_of order places (suc k) (λ j. ap (λ (m : ℕ). get_or order m 0) (next j) ∙ a (suc j)))

-- ---- the changes at some places

module _ (changes : List Change) where
  pub changes_at-drop : (places : List ℕ) (k : ℕ) → drop k (changes_at changes places) ≡ changes_at changes (drop k places)
  changes_at-drop places zero = refl
  changes_at-drop [] (suc k) = refl
  changes_at-drop (i ∷ places) (suc k) = changes_at-drop places k

  -- the first k changes put back where they are
  pub put-from : (places : List ℕ) (k : ℕ) (new : List Change) → put_at places (take k (changes_at changes places) ++ new) changes ≡ put_at (drop k places) new changes
  put-from places zero new = refl
  put-from [] (suc k) new = refl
  put-from (i ∷ places) (suc k) new =
      ap (put_at places (take k (changes_at changes places) ++ new)) (set-get_or changes i blank) ∙ put-from places k new
