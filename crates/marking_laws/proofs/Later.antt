-- What is known of the settings' later uses stays known while turns go up the order list.
use mathlib.Core.Path.{◌≡◌, refl, sym, ap, ◌∙◌}
use mathlib.Core.Bool.{Bool, true}
use mathlib.Core.List.{List, [], ◌∷◌}
use mathlib.Core.Logic.{⊎_elim, inl, inr}
use Prim.Native.Nat.{ℕ, zero, suc, ◌+◌, ◌-◌, ◌<◌, ◌≤◌}
use native.Mathlib.Omega.{arith}
use borrow.Author.Tests.{eqb-true}
use lib.Dec.{eqb}
use lib.ListN.{length, get_or, drop}
use lib.Seq.{get_or-drop}
use Rattle.general.proofs.Cases.{both}
use Rattle.model.specs.History.{Status, New, Valid, Invalid, Lists, change, status, lists, History}
use Rattle.model.specs.Form.{holds}
use Rattle.model.specs.Walk.{mark_live, close}
use Rattle.model.specs.Cabinet.{Cabinet, blank, history_of}
use Rattle.model.specs.Tables.{status_number, settings_of, Tables, encode, held_count}
use Rattle.model.specs.Sound.{Sound}
use Rattle.model.proofs.Tables.{held-count}
use Rattle.uses.specs.Columns.{Columns, columns_of, reads_setting, writes_setting}
use Rattle.marking.specs.Marks.{marked_settings}
use Rattle.uses.specs.declared.SettingUses.{SettingUses}
use Rattle.uses.specs.Uses.{reads_valid, Uses, Marked}
use Rattle.marking.proofs.Walks.{walk-valid}
use Rattle.uses.proofs.LastUses.{readers-fewer}
use Rattle.marking_laws.proofs.Positions.{status-position, reads-position, writes-position}
use Rattle.marking_laws.proofs.Restated.{with_status}

-- from a position on, what is Valid in the second tables is Valid in the first, and they have the same lists
pub record LaterKept (from : ℕ) (T U : Tables) : Type 0 where
  pub held : held_count U ≡ held_count T
  pub valid : (p : ℕ) → from ≤ p → p < held_count T → get_or U.status (get_or U.order p 0) 0 ≡ 1 → get_or T.status (get_or T.order p 0) 0 ≡ 1
  pub read : (p : ℕ) → from ≤ p → p < held_count T → (s : ℕ) → reads_setting (columns_of U) s p ≡ reads_setting (columns_of T) s p
  pub wrote : (p : ℕ) → from ≤ p → p < held_count T → (s : ℕ) → writes_setting (columns_of U) s p ≡ writes_setting (columns_of T) s p

-- ---- from one position to a later one

module _ {from from' : ℕ} {T U : Tables} {v : SettingUses} (k : LaterKept from' T U) (l : from ≤ from') (u : Uses from T v) where
  still : (s p : ℕ) → from' ≤ p → p < held_count T → reads_valid (columns_of U) U.status s p ≡ true → reads_valid (columns_of T) T.status s p ≡ true
  still s p a b v =
      let r = both (eqb (get_or U.status (get_or U.order p 0) 0) 1) v in
      rw (k.valid p a b (eqb-true (get_or U.status (get_or U.order p 0) 0) 1 r.0), sym (k.read p a b s) ∙ r.1)

  pub uses-later : Uses from' U v
  uses-later =
      let r = u.readers-end in
      let w = u.writers-end in
      let d = u.settled-to in
      record {
        readers-end =
            record {
              sized = r.sized;
              within = λ s h. omega (arith, r.within s h, k.held);
              bound = λ s p h a b e. let b' : p < held_count T = omega (arith, b, k.held) in r.bound s p h (omega (arith, a, l)) b' (still s p a b' e);
            };
        writers-end =
            record {
              sized = w.sized;
              within = λ s h. omega (arith, w.within s h, k.held);
              bound = λ s p h a b e. let b' : p < held_count T = omega (arith, b, k.held) in w.bound s p h (omega (arith, a, l)) b' (sym (k.wrote p a b' s) ∙ e);
              last = λ s h a. k.wrote (get_or v.writers s 0 - 1) (omega (arith, a)) (omega (arith, a, w.within s h)) s ∙ w.last s h (omega (arith, a, l));
            };
        settled-to =
            record {
              sized = d.sized;
              within = d.within;
              unread = λ s p h a b e. d.unread s p h (omega (arith, a, l)) b (still s p a (omega (arith, b, d.within s h, r.within s h)) e);
              ends =
                  λ s h a.
                  ⊎_elim (λ e. inl (k.wrote (get_or v.settled s 0 - 1) (omega (arith, a)) (omega (arith, a, d.within s h, r.within s h)) s ∙ e)) inr (d.ends s h (omega (arith, a, l)));
            };
      }

-- nothing is done: a Valid change is passed over
pub kept_same : (from : ℕ) (T : Tables) → LaterKept from T T
kept_same from T = record { held = refl; valid = λ p a b v. v; read = λ p a b s. refl; wrote = λ p a b s. refl }

-- ---- histories

-- the same lists, and no change Valid that was not
abbrev pub NoneMoreValid : History → History → Type 0
NoneMoreValid [] h' = h' ≡ []
NoneMoreValid (c ∷ h) [] = ⊥
NoneMoreValid (c ∷ h) (c' ∷ h') = (lists c' ≡ lists c) × (status c' ≡ Valid → status c ≡ Valid) × NoneMoreValid h h'

pub none-more-same : (h : History) → NoneMoreValid h h
none-more-same [] = refl
none-more-same (c ∷ h) = (refl, λ v. v, none-more-same h)

pub none-more-marked : (f : ℕ → Bool) (h : History) → NoneMoreValid h (mark_live f h)
none-more-marked f [] = refl
none-more-marked f (change t p New w l ∷ h) = (refl, λ v. v, none-more-marked (close f l) h)
none-more-marked f (change t p Valid w l ∷ h) = (refl, λ v. refl, none-more-marked (close f l) h)
none-more-marked f (change t p Invalid w l ∷ h) = (refl, λ v. v, none-more-marked (close f l) h)

pub none-more-length : (h h' : History) → NoneMoreValid h h' → length h' ≡ length h
none-more-length [] h' m = ap length m
none-more-length (c ∷ h) [] m = absurd m
none-more-length (c ∷ h) (c' ∷ h') m = ap suc (none-more-length h h' m.2)

none-more-at : (h h' : History) → NoneMoreValid h h' → (j : ℕ) → (lists (get_or h' j blank) ≡ lists (get_or h j blank)) × (status (get_or h' j blank) ≡ Valid → status (get_or h j blank) ≡ Valid)
none-more-at [] h' m j = rw m (refl, λ v. v)
none-more-at (c ∷ h) [] m j = absurd m
none-more-at (c ∷ h) (c' ∷ h') m zero = (m.0, m.1)
none-more-at (c ∷ h) (c' ∷ h') m (suc j) = none-more-at h h' m.2 j

number-valid : (s : Status) → status_number s ≡ 1 → s ≡ Valid
number-valid New e = absurd (omega arith)
number-valid Valid e = refl
number-valid Invalid e = absurd (omega arith)

module _ {n : ℕ} {c c' : Cabinet} (s : Sound n c) (s' : Sound n c') (from : ℕ) (e : length c'.changes ≡ length c.changes) (m : NoneMoreValid (drop from (history_of c)) (drop from (history_of c'))) where
  at : (p : ℕ) → from ≤ p → (lists (get_or (history_of c') p blank) ≡ lists (get_or (history_of c) p blank)) × (status (get_or (history_of c') p blank) ≡ Valid → status (get_or (history_of c) p blank) ≡ Valid)
  at p a =
      let i : from + (p - from) ≡ p = omega arith in
      rw (get_or-drop from (history_of c) (p - from) blank, get_or-drop from (history_of c') (p - from) blank, i) at (none-more-at (drop from (history_of c)) (drop from (history_of c')) m (p - from))

  pub cabinets-kept : LaterKept from (encode n c) (encode n c')
  cabinets-kept =
      let low : (p : ℕ) → p < held_count (encode n c) → p < length c.changes = λ p b. omega (arith, b, held-count n c) in
      let low' : (p : ℕ) → p < held_count (encode n c) → p < length c'.changes = λ p b. omega (arith, b, held-count n c) in
      record {
        held = held-count n c' ∙ e ∙ sym (held-count n c);
        valid = λ p a b v. status-position s p (low p b) ∙ ap status_number ((at p a).1 (number-valid _ (sym (status-position s' p (low' p b)) ∙ v)));
        read = λ p a b x. reads-position s' p (low' p b) x ∙ ap (λ (l : Lists). holds x (settings_of l.reads)) (at p a).0 ∙ sym (reads-position s p (low p b) x);
        wrote = λ p a b x. writes-position s' p (low' p b) x ∙ ap (λ (l : Lists). holds x (settings_of l.writes)) (at p a).0 ∙ sym (writes-position s p (low p b) x);
      }

-- ---- marking

settings-valid : (C : Columns) (readers : List ℕ) (from : ℕ) (changed status : List ℕ) (i : ℕ) → get_or (marked_settings C readers from changed status) i 0 ≡ 1 → get_or status i 0 ≡ 1
unfolding marked_settings
settings-valid C readers from [] status i v = v
settings-valid C readers from (s ∷ changed) status i v = walk-valid C s from (get_or readers s 0 - from) status i (settings-valid C readers from changed _ i v)

-- marking some settings keeps what is known, where it tells what is settled then
pub uses-marked : {from : ℕ} {T : Tables} {v v' : SettingUses} {status : List ℕ} (changed : List ℕ) → Uses from T v → status ≡ marked_settings (columns_of T) v.readers from changed T.status → Marked from (columns_of T) status v v' → Uses from (with_status T status) v'
uses-marked {from} {T} {v} {v'} {status} changed u e d =
    record {
      readers-end = rw d.readers (readers-fewer u.readers-end _ (λ i r. settings-valid (columns_of T) v.readers from changed T.status i (rw e at r)));
      writers-end = rw d.writers u.writers-end;
      settled-to = d.settled-to;
    }
