-- Laws of the first place of a setting in a list of entries that stands in two arrays.
use Rattle.std.proofs.Common.{◌≡◌, refl, ap, subst, Bool, true, false, cond, not, List, [], ◌∷◌, ℕ, zero, suc, ◌+◌, ◌≤◌, ◌<◌, ℤ, pos, Option, Some, None, is_some, eqb, ltb, length, get_or, set, take, arith}
use Rattle.std.specs.List.{position, position_or_len}
use borrow.Author.Tests.{eqb-true, ltb-true, ltb-false}
use lib.Seq.{length-take-le}
use Rattle.machine.specs.Settings.{Entry, entry, named, first_value, replace_first, entries}

-- what the place tells of the first k entries
record FirstPlace (s k : ℕ) (ss : List ℕ) (vs : List ℤ) (place : ℕ) : Type 0 where
  is-named : place < k → named s (entries k ss vs) ≡ true
  not_named : k ≤ place → named s (entries k ss vs) ≡ false
  value : place < k → first_value s (entries k ss vs) ≡ get_or vs place (pos 0)
  replaced : (v : ℤ) → place < k → entries k ss (set vs place v) ≡ replace_first s v (entries k ss vs)

first-place : (s k : ℕ) (ss : List ℕ) (vs : List ℤ) → k ≤ length ss → k ≤ length vs → FirstPlace s k ss vs (position_or_len (λ x. eqb x s) (take k ss))
unfolding named entries first_value replace_first
first-place s zero ss vs h g =
    record { is-named = λ q. absurd (omega arith); not_named = λ q. refl; value = λ q. absurd (omega arith); replaced = λ v q. absurd (omega arith) }
first-place s (suc k) [] vs h g = absurd (omega arith)
first-place s (suc k) (x ∷ ss) [] h g = absurd (omega arith)
first-place s (suc k) (x ∷ ss) (y ∷ vs) h g =
    let one_more : suc (position_or_len (λ x. eqb x s) (take k ss)) ≡ 1 + position_or_len (λ x. eqb x s) (take k ss) = omega arith in
    subst (λ n. FirstPlace s (suc k) (x ∷ ss) (y ∷ vs) (cond (not (eqb x s)) n 0)) one_more (go (eqb x s) refl (first-place s k ss vs (omega arith) (omega arith)))
  where
    go : (t : Bool) → eqb x s ≡ t → FirstPlace s k ss vs (position_or_len (λ x. eqb x s) (take k ss)) → FirstPlace s (suc k) (x ∷ ss) (y ∷ vs) (cond (not t) (suc (position_or_len (λ x. eqb x s) (take k ss))) 0)
    go true e ih =
        record {
          is-named = λ q. rw e;
          not_named = λ q. absurd (omega arith);
          value = λ q. rw e;
          replaced = λ v q. let w : x ≡ s = eqb-true x s e in rw (e, w);
        }
    go false e ih =
        record {
          is-named = λ q. rw e (ih.is-named (omega arith));
          not_named = λ q. rw e (ih.not_named (omega arith));
          value = λ q. rw e (ih.value (omega arith));
          replaced = λ v q. rw e (ap (λ (l : List Entry). entry x y ∷ l) (ih.replaced v (omega arith)));
        }

-- what the search among the first k settings tells of the entries
pub record Searched (s k : ℕ) (ss : List ℕ) (vs : List ℤ) (found : Option ℕ) : Type 0 where
  pub is-named : is_some found ≡ true → named s (entries k ss vs) ≡ true
  pub not_named : is_some found ≡ false → named s (entries k ss vs) ≡ false
  pub value : (i : ℕ) → found ≡ Some i → first_value s (entries k ss vs) ≡ get_or vs i (pos 0)
  pub replaced : (i : ℕ) (v : ℤ) → found ≡ Some i → entries k ss (set vs i v) ≡ replace_first s v (entries k ss vs)

pub searched : (s k : ℕ) (ss : List ℕ) (vs : List ℤ) → k ≤ length ss → k ≤ length vs → Searched s k ss vs (position (λ x. eqb x s) (take k ss))
searched s k ss vs h g = go (ltb place (length (take k ss))) refl
  where
    place : ℕ
    place = position_or_len (λ x. eqb x s) (take k ss)

    first : FirstPlace s k ss vs place
    first = first-place s k ss vs h g

    go : (t : Bool) → ltb place (length (take k ss)) ≡ t → Searched s k ss vs (cond t (Some place) None)
    go true e =
        let below : place < k = omega (arith, ltb-true place (length (take k ss)) e, length-take-le k ss h) in
        record {
          is-named = λ q. first.is-named below;
          not_named = λ q. absurd (cc);
          value = λ i q. let w : place ≡ i = cc in rw (← w) (first.value below);
          replaced = λ i v q. let w : place ≡ i = cc in rw (← w) (first.replaced v below);
        }
    go false e =
        let above : k ≤ place = omega (arith, ltb-false place (length (take k ss)) e, length-take-le k ss h) in
        record { is-named = λ q. absurd (cc); not_named = λ q. first.not_named above; value = λ i q. absurd (cc); replaced = λ i v q. absurd (cc) }
