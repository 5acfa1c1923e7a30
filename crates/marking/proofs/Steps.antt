-- Marking step by step: a list's slots, a place, one change more of the walk.
use mathlib.Core.Path.{◌≡◌, refl, sym, ap, ◌∙◌}
use mathlib.Core.Bool.{Bool, true, false, ◌||◌}
use mathlib.Core.List.{List, [], ◌∷◌}
use Prim.Native.Nat.{ℕ, zero, suc, ◌+◌, ◌-◌, ◌*◌, ◌<◌, ◌≤◌}
use native.Mathlib.Numerals.{add-one}
use native.Mathlib.Omega.{arith}
use borrow.Author.Tests.{ne_eqb}
use lib.Dec.{eqb}
use lib.ListN.{length, get_or, take, drop}
use lib.Seq.{get_or-drop}
use Rattle.model.specs.Form.{holds}
use Rattle.writers.proofs.Named.{lent-first}
use Rattle.uses.specs.Columns.{Columns, list_at, writes_setting, Listed}
use Rattle.marking.specs.Marks.{marked_place, marked_from, end_from}
use Rattle.marking.proofs.Walks.{place-length}

-- ---- a list of settings

-- zeros behind a list name no setting but 0
zeros-name : (s : ℕ) → (s ≡ 0 → ⊥) → (count m : ℕ) (l : List ℕ) → count ≤ m → ((j : ℕ) → count ≤ j → j < m → get_or l j 0 ≡ 0) → holds s (take m l) ≡ holds s (take count l)
zeros-name s n zero zero l h z = refl
zeros-name s n zero (suc m) [] h z = refl
zeros-name s n zero (suc m) (x ∷ l) h z =
    let none : eqb x s ≡ false = ne_eqb x s (λ e. n (sym e ∙ z 0 (omega arith) (omega arith))) in
    rw none (zeros-name s n zero m l (omega arith) (λ j a b. z (suc j) (omega arith) (omega arith)))
zeros-name s n (suc count) zero l h z = absurd (omega arith)
zeros-name s n (suc count) (suc m) [] h z = refl
zeros-name s n (suc count) (suc m) (x ∷ l) h z = ap (eqb x s ||◌) (zeros-name s n count m l (omega arith) (λ j a b. z (suc j) (omega arith) (omega arith)))

-- so the 32 slots of a place, as they are lent, tell of such a setting what the list tells
pub lent-slots : (s place : ℕ) (counts settings : List ℕ) → (s ≡ 0 → ⊥) → Listed place counts settings → holds s (take (32 * place + 32 - 32 * place) (drop (32 * place) settings)) ≡ holds s (list_at counts settings place)
lent-slots s place counts settings n l =
    ap (holds s) (lent-first place 32 settings)
    ∙ zeros-name s n (get_or counts place 0) 32 (drop (32 * place) settings) l.short (λ j a b. get_or-drop (32 * place) settings j 0 ∙ l.rest j a b)

-- ---- along the order list

-- from position p up to the last the definitions give what they give of the whole walk
pub record Walked (C : Columns) (s from to : ℕ) (status₀ status : List ℕ) (p : ℕ) : Type 0 where
  pub long : length status ≡ length status₀
  pub marks : marked_from C s p (to - p) status ≡ marked_from C s from (to - from) status₀
  pub ended : end_from C s p (to - p) ≡ end_from C s from (to - from)

module _ {C : Columns} {s from to : ℕ} {status₀ status : List ℕ} {p : ℕ} (w : Walked C s from to status₀ status p) where
  module _ {r : Bool} {status' : List ℕ} (h : p < to) (e : (r ≡ writes_setting C s p) × (status' ≡ marked_place s C.reads C.sources (get_or C.order p 0) status)) where
    one_more : to - p ≡ suc (to - suc p)
    one_more = omega arith

    -- a change that writes the setting
    pub walked-last : r ≡ true → (status' ≡ marked_from C s from (to - from) status₀) × (p + 1 ≡ end_from C s from (to - from))
    unfolding marked_from end_from
    walked-last q =
        let w' : writes_setting C s p ≡ true = sym e.0 ∙ q in
        (e.1 ∙ (rw (one_more, w') at w.marks), rw add-one (rw (one_more, w') at w.ended))

    -- one that does not
    pub walked_next : r ≡ false → Walked C s from to status₀ status' (p + 1)
    unfolding marked_from end_from
    walked_next q =
        let w' : writes_setting C s p ≡ false = sym e.0 ∙ q in
        record {
          long = ap length e.1 ∙ place-length C s status p ∙ w.long;
          marks = rw (e.1, add-one) (rw (one_more, w') at w.marks);
          ended = rw add-one (rw (one_more, w') at w.ended);
        }

  pub walked_end : to ≤ p → (status ≡ marked_from C s from (to - from) status₀) × (p ≡ end_from C s from (to - from))
  unfolding marked_from end_from
  walked_end h = let none : to - p ≡ 0 = omega arith in (rw none at w.marks, rw none at w.ended)
