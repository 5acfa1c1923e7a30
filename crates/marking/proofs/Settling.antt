-- Marking setting by setting: where nothing is to be marked, and what is settled afterwards.
use mathlib.Core.Path.{◌≡◌, sym, ap, subst, ◌∙◌}
use mathlib.Core.Bool.{true}
use mathlib.Core.List.{List}
use mathlib.Core.Logic.{◌⊎◌, inl, inr, ⊎_elim}
use Prim.Native.Nat.{ℕ, ◌+◌, ◌-◌, ◌<◌, ◌≤◌}
use native.Mathlib.Decide.{ℕ_discrete}
use native.Mathlib.Numerals.{add-one}
use native.Mathlib.Omega.{arith}
use lib.ListN.{length, get_or, set, drop, length-set, drop_of_length-le}
use lib.Seq.{drop-cons, get_or-set_same, get_or-set_other}
use Rattle.machine.specs.Settings.{setting_count}
use Rattle.uses.specs.Columns.{Columns, writes_setting, Walkable}
use Rattle.marking.specs.Marks.{marked_from, end_from, marked_settings}
use Rattle.uses.specs.declared.SettingUses.{SettingUses}
use Rattle.uses.specs.Uses.{reads_valid, Settled, Markable, Marked}
use Rattle.uses.proofs.LastUses.{fewer-read}
use Rattle.marking.proofs.Walks.{walk-valid, walk-length, walk_same, walk-closed, end-within, end-ends, end-unread}

-- ---- one setting

module _ {from : ℕ} {C : Columns} {status readers settled : List ℕ} (m : Settled from C status readers settled) (s : ℕ) (h : s < setting_count) where
  -- how far it has readers, and how far it is settled
  abbrev to : ℕ
  to = get_or readers s 0

  abbrev done : ℕ
  done = get_or settled s 0

  -- it has no reader
  pub no_reader : to ≤ from → status ≡ marked_from C s from (to - from) status
  unfolding marked_from
  no_reader q = let e : to - from ≡ 0 = omega arith in rw e

  -- it is settled
  pub settled-already : from < done → status ≡ marked_from C s from (to - from) status
  settled-already q =
      sym (⊎_elim (λ w. walk-closed C s from (to - from) done status q w (λ p a b. m.unread s p h a b))
      (λ e. walk_same C s from (to - from) status (λ p a b. m.unread s p h a (omega arith)))
      (m.ends s h q))

  -- it is walked for, and is settled then
  module _ (q : from < to) {status' : List ℕ} {r : ℕ} (e : (status' ≡ marked_from C s from (to - from) status) × (r ≡ end_from C s from (to - from))) where
    pub end_below : r ≤ to
    end_below = omega (arith, e.1, end-within C s from (to - from))

    still : (t p : ℕ) → reads_valid C status' t p ≡ true → reads_valid C status t p ≡ true
    still t p v = fewer-read C t p status (marked_from C s from (to - from) status) (walk-valid C s from (to - from) status) (rw e.0 at v)

    here : get_or (set settled s r) s 0 ≡ r
    here = get_or-set_same settled s r 0 (omega (arith, m.sized))

    other : (t : ℕ) → (t ≡ s → ⊥) → get_or (set settled s r) t 0 ≡ get_or settled t 0
    other t n = get_or-set_other settled s t r 0 n

    pub walk-settles : (status' ≡ marked_from C s from (to - from) status) × Settled from C status' readers (set settled s r)
    walk-settles = (
      e.0,
      record {
        sized = length-set settled s r ∙ m.sized;
        within = λ t l. within t l (ℕ_discrete t s);
        unread = λ t p l a b v. unread t p l a b v (ℕ_discrete t s);
        ends = λ t l a. ends t l a (ℕ_discrete t s);
      },
    )
      where
        within : (t : ℕ) → t < setting_count → Dec (t ≡ s) → get_or (set settled s r) t 0 ≤ get_or readers t 0
        within t l (yes i) = rw (i, here) (omega (arith, end_below))
        within t l (no i) = rw (other t i) (m.within t l)

        unread : (t p : ℕ) → t < setting_count → from ≤ p → p < get_or (set settled s r) t 0 → reads_valid C status' t p ≡ true → Dec (t ≡ s) → ⊥
        unread t p l a b v (yes i) =
            let b' : p < end_from C s from (to - from) = rw (← e.1) (rw (i, here) at b) in
            end-unread C s from (to - from) status p a b' (rw (← e.0) (rw i at v))
        unread t p l a b v (no i) = m.unread t p l a (rw (other t i) at b) (still t p v)

        ends : (t : ℕ) → t < setting_count → from < get_or (set settled s r) t 0 → Dec (t ≡ s) → (writes_setting C t (get_or (set settled s r) t 0 - 1) ≡ true) ⊎ (get_or readers t 0 ≤ get_or (set settled s r) t 0)
        ends t l a (yes i) =
            rw (i, here, e.1)
            (⊎_elim inl (λ b. inr (omega arith)) (end-ends C s from (to - from)))
        ends t l a (no i) = rw (other t i) (m.ends t l (rw (other t i) at a))

-- ---- one setting after the other

-- marking the settings from index i on is marking them all
pub record MarkedTo (C : Columns) (from : ℕ) (changed status₀ : List ℕ) (u₀ : SettingUses) (i : ℕ) (status : List ℕ) (u : SettingUses) : Type 0 where
  pub long : length status ≡ length status₀
  pub marks : marked_settings C u₀.readers from (drop i changed) status ≡ marked_settings C u₀.readers from changed status₀
  pub marked : Marked from C status u₀ u

module _ {C : Columns} {from : ℕ} {changed status₀ : List ℕ} {u₀ : SettingUses} {i : ℕ} {status : List ℕ} {u : SettingUses} (w : MarkedTo C from changed status₀ u₀ i status u) where
  pub markable-again : Markable from C status₀ u₀ → Markable from C status u
  markable-again m =
      record {
        walkable = subst (Walkable C) (sym w.long) m.walkable;
        within = λ s h. rw w.marked.readers (m.within s h);
        settled-to = w.marked.settled-to;
      }

  pub marked_next : {status' : List ℕ} {u' : SettingUses} → i < length changed → (status' ≡ marked_from C (get_or changed i 0) from (get_or u.readers (get_or changed i 0) 0 - from) status) × Marked from C status' u u' → MarkedTo C from changed status₀ u₀ (i + 1) status' u'
  unfolding marked_settings
  marked_next h e =
      record {
        long = ap length e.0 ∙ walk-length C _ from _ status ∙ w.long;
        marks = rw (e.0, w.marked.readers, add-one) (rw (drop-cons changed i 0 h) at w.marks);
        marked = record { readers = e.1.readers ∙ w.marked.readers; writers = e.1.writers ∙ w.marked.writers; settled-to = e.1.settled-to };
      }

  pub marked-end : length changed ≤ i → (status ≡ marked_settings C u₀.readers from changed status₀) × Marked from C status u₀ u
  unfolding marked_settings
  marked-end h = (rw (drop_of_length-le changed {i = i} h) at w.marks, w.marked)
