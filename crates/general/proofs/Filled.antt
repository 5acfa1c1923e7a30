-- Laws of a loop that stores the elements of a slice one after the other, each by a function of its index.
use mathlib.Core.Path.{◌≡◌, refl, sym, ap, ◌∙◌}
use mathlib.Core.List.{List, ◌∷◌}
use Prim.Native.Nat.{ℕ, zero, suc, ◌+◌, ◌≤◌, ◌<◌}
use native.Mathlib.Omega.{arith}
use borrow.Author.Count.{below_more}
use lib.ListN.{length, get_or, set, replicate, length-set}
use lib.Seq.{get_or-set_same, get_or-set_other}
use Rattle.general.specs.Lists.{tabulate, tabulate_from}
use Rattle.general.proofs.Tabulate.{tabulate-is}

-- the elements before i are those of f
pub record Filled {A : Type 0} (f : ℕ → A) (d : A) (i : ℕ) (before s : List A) : Type 0 where
  pub within : i ≤ length s
  pub same : length s ≡ length before
  pub front : (j : ℕ) → j < i → f j ≡ get_or s j d

module _ {A : Type 0} {f : ℕ → A} {d : A} where
  pub fill_none : {s : List A} → Filled f d 0 s s
  fill_none = record { within = omega arith; same = refl; front = λ j h. absurd (omega arith) }

  pub fill-next : {i : ℕ} {before s : List A} → i < length s → Filled f d i before s → Filled f d (i + 1) before (set s i (f i))
  fill-next {i} {s = s} h p =
      record {
        within = rw length-set (omega arith);
        same = length-set s i (f i) ∙ p.same;
        front =
            below_more (λ j. f j ≡ get_or (set s i (f i)) j d) i
            (λ j q. p.front j q ∙ sym (get_or-set_other s i j (f i) d (λ e. omega arith)))
            (sym (get_or-set_same s i (f i) d h));
      }

  pub fill-last : {i : ℕ} {before s : List A} → length s ≤ i → Filled f d i before s → s ≡ tabulate (length before) f
  fill-last {s = s} h p = sym (tabulate-is s f d (λ j q. p.front j (omega arith))) ∙ ap (λ (k : ℕ). tabulate k f) p.same

-- one value in every place
same-values : {A : Type 0} (v : A) (i k : ℕ) → tabulate_from i k (λ j. v) ≡ replicate k v
same-values v i zero = refl
same-values v i (suc k) = ap (v ∷◌) (same-values v (suc i) k)

pub fill-same : {A : Type 0} {v d : A} {i : ℕ} {before s : List A} → length s ≤ i → Filled (λ j. v) d i before s → s ≡ replicate (length before) v
fill-same {v = v} {before = before} h p = fill-last h p ∙ same-values v 0 (length before)
