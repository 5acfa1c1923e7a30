-- Laws of tabulated lists.
use mathlib.Core.Path.{◌≡◌, refl, ap, ◌∙◌}
use mathlib.Core.List.{List}
use Prim.Native.Nat.{ℕ, zero, suc, ◌+◌, ◌<◌}
use native.Mathlib.Omega.{arith}
use lib.ListN.{length, get_or}
use lib.Seq.{ext_get_or}
use Rattle.general.specs.Lists.{tabulate, tabulate_from}

module _ {A : Type 0} where
  length-tabulate_from : (i n : ℕ) (f : ℕ → A) → length (tabulate_from i n f) ≡ n
  length-tabulate_from i zero f = refl
  length-tabulate_from i (suc n) f = ap suc (length-tabulate_from (suc i) n f)

  pub length-tabulate : (n : ℕ) (f : ℕ → A) → length (tabulate n f) ≡ n
  length-tabulate n f = length-tabulate_from 0 n f

  get_or-tabulate_from : (i n : ℕ) (f : ℕ → A) (j : ℕ) (d : A) → j < n → get_or (tabulate_from i n f) j d ≡ f (i + j)
  get_or-tabulate_from i zero f j d h = absurd (omega arith)
  get_or-tabulate_from i (suc n) f zero d h = let e : i ≡ i + 0 = omega arith in ap f e
  get_or-tabulate_from i (suc n) f (suc j) d h = let e : suc i + j ≡ i + suc j = omega arith in get_or-tabulate_from (suc i) n f j d (omega arith) ∙ ap f e

  pub get_d_tabulate : (n : ℕ) (f : ℕ → A) (j : ℕ) (d : A) → j < n → get_or (tabulate n f) j d ≡ f j
  get_d_tabulate n f j d h = let e : 0 + j ≡ j = omega arith in get_or-tabulate_from 0 n f j d h ∙ ap f e

  -- a list is tabulated by a function that gives its elements
  pub tabulate-is : (l : List A) (f : ℕ → A) (d : A) → ((i : ℕ) → i < length l → f i ≡ get_or l i d) → tabulate (length l) f ≡ l
  tabulate-is l f d h = ext_get_or d (tabulate (length l) f) l (length-tabulate (length l) f) (λ i q. let q' : i < length l = rw (length-tabulate (length l) f) at q in get_d_tabulate (length l) f i d q' ∙ h i q')
