-- Sets of live settings: marking for a union is marking for one and then for the other; for settings that no Valid change reads it changes nothing; for one setting it goes up to the next writer.
use mathlib.Core.Path.{◌≡◌, refl, sym, ap, ap₂, fun_ext, ◌∙◌}
use mathlib.Core.Bool.{Bool, true, false, cond, not, ◌&&◌, ◌||◌, and-true, and-false, and-or_distrib_right, or-true}
use mathlib.Core.List.{List, [], ◌∷◌}
use Prim.Native.Nat.{ℕ, zero, suc, ◌<◌}
use native.Mathlib.Omega.{arith}
use borrow.Author.Tests.{eqb-true}
use lib.Dec.{eqb}
use lib.IntN.{pos}
use lib.ListN.{length, get_or}
use Rattle.machine.specs.Settings.{setting_count, Entry, is_some, lookup, named, Distinct}
use Rattle.machine.proofs.Settings.{lookup-named}
use Rattle.model.specs.History.{Status, New, Valid, Invalid, Lists, change, status, lists, History}
use Rattle.model.specs.Figure.{reads_any, mark, mark_update}
use Rattle.model.specs.Form.{holds}
use Rattle.model.specs.Cabinet.{blank}
use Rattle.model.specs.Sound.{AllSound}
use Rattle.model.specs.Walk.{close, mark_live, live_at_end}
use Rattle.model.specs.Tables.{settings_of}
use Rattle.model.proofs.Values.{eq_z-sym}

-- ---- a union

reads-union : (f g : ℕ → Bool) (l : List Entry) → reads_any (λ x. f x || g x) l ≡ (reads_any f l || reads_any g l)
reads-union f g [] = refl
reads-union f g (e ∷ l) = ap (λ (b : Bool). (f e.setting || g e.setting) || b) (reads-union f g l) ∙ shuffle (f e.setting) (g e.setting) (reads_any f l) (reads_any g l)
  where
    shuffle : (a b c d : Bool) → ((a || b) || (c || d)) ≡ ((a || c) || (b || d))
    shuffle true b c d = refl
    shuffle false true true d = refl
    shuffle false true false d = refl
    shuffle false false c d = refl

mark-twice : (a b : Bool) (s : Status) → mark (a || b) s ≡ mark a (mark b s)
mark-twice a b New = refl
mark-twice true true Valid = refl
mark-twice true false Valid = refl
mark-twice false true Valid = refl
mark-twice false false Valid = refl
mark-twice a b Invalid = refl

close-union : (f g : ℕ → Bool) (l : Lists) (x : ℕ) → close (λ y. f y || g y) l x ≡ (close f l x || close g l x)
close-union f g l x = and-or_distrib_right (f x) (g x) (not (is_some (lookup l.writes x)))

pub mark-union : (f g : ℕ → Bool) (h : History) → mark_live (λ x. f x || g x) h ≡ mark_live f (mark_live g h)
mark-union f g [] = refl
mark-union f g (change t p s w l ∷ h) =
    ap₂ ◌∷◌
    (ap (λ (b : Bool). change t p (mark b s) w l) (reads-union f g l.reads) ∙ ap (λ (u : Status). change t p u w l) (mark-twice (reads_any f l.reads) (reads_any g l.reads) s))
    (ap (λ (k : ℕ → Bool). mark_live k h) (fun_ext (close-union f g l)) ∙ mark-union (close f l) (close g l) h)

-- ---- settings that no Valid change reads

abbrev pub Unread : (ℕ → Bool) → History → Type 0
Unread f [] = Unit {0}
Unread f (c ∷ h) = (status c ≡ Valid → reads_any f (lists c).reads ≡ false) × Unread (close f (lists c)) h

pub mark-unread : (f : ℕ → Bool) (h : History) → Unread f h → mark_live f h ≡ h
mark-unread f [] u = refl
mark-unread f (change t p New w l ∷ h) u = ap (change t p New w l ∷◌) (mark-unread (close f l) h u.1)
mark-unread f (change t p Valid w l ∷ h) u =
    ap₂ (λ (b : Bool) (later : History). change t p (mark b Valid) w l ∷ later) (u.0 refl) (mark-unread (close f l) h u.1)
mark-unread f (change t p Invalid w l ∷ h) u = ap (change t p Invalid w l ∷◌) (mark-unread (close f l) h u.1)

-- no setting is live
module _ (f : ℕ → Bool) (n : (x : ℕ) → f x ≡ false) where
  reads_none : (l : List Entry) → reads_any f l ≡ false
  reads_none [] = refl
  reads_none (e ∷ l) = rw (n e.setting) (reads_none l)

pub unread-none : (f : ℕ → Bool) → ((x : ℕ) → f x ≡ false) → (h : History) → Unread f h
unread-none f n [] = tt
unread-none f n (c ∷ h) =
    (λ v. reads_none f n (lists c).reads, unread-none (close f (lists c)) (λ x. ap (◌&& not (is_some (lookup (lists c).writes x))) (n x)) h)

-- ---- one setting

pub reads-one : (s : ℕ) (l : List Entry) → reads_any (eqb s) l ≡ holds s (settings_of l)
reads-one s [] = refl
reads-one s (e ∷ l) = ap₂ ◌||◌ (eq_z-sym (pos s) (pos e.setting)) (reads-one s l)

named-holds : (s : ℕ) (l : List Entry) → named s l ≡ holds s (settings_of l)
unfolding named
named-holds s [] = refl
named-holds s (e ∷ l) = either (eqb e.setting s) (named-holds s l)
  where
    either : (t : Bool) {b b' : Bool} → b ≡ b' → cond t true b ≡ (t || b')
    either true q = refl
    either false q = q

-- a list gives a setting a value where its settings have it
pub writes_one : (l : List Entry) (s : ℕ) → is_some (lookup l s) ≡ holds s (settings_of l)
writes_one l s = lookup-named l s ∙ named-holds s l

module _ (s : ℕ) (l : Lists) where
  closed-one : (x : ℕ) → close (eqb s) l x ≡ (eqb s x && not (holds s (settings_of l.writes)))
  closed-one x = go (eqb s x) refl
    where
      go : (b : Bool) → eqb s x ≡ b → (b && not (is_some (lookup l.writes x))) ≡ (b && not (holds s (settings_of l.writes)))
      go true e = ap not (writes_one l.writes x ∙ ap (λ (y : ℕ). holds y (settings_of l.writes)) (sym (eqb-true s x e)))
      go false e = refl

  -- it is written
  pub close-written : holds s (settings_of l.writes) ≡ true → (x : ℕ) → close (eqb s) l x ≡ false
  close-written e x = closed-one x ∙ rw e (and-false (eqb s x))

  -- it is not
  pub close-unwritten : holds s (settings_of l.writes) ≡ false → close (eqb s) l ≡ eqb s
  close-unwritten e = fun_ext (λ x. closed-one x ∙ rw e (and-true (eqb s x)))

-- ---- what is live past the last change

-- does a change of a history write a setting
abbrev pub written_in : ℕ → History → Bool
written_in x [] = false
written_in x (c ∷ h) = is_some (lookup (lists c).writes x) || written_in x h

pub live-unwritten : (f : ℕ → Bool) (h : History) (x : ℕ) → live_at_end f h x ≡ (f x && not (written_in x h))
live-unwritten f [] x = sym (and-true (f x))
live-unwritten f (c ∷ h) x = live-unwritten (close f (lists c)) h x ∙ go (f x) (is_some (lookup (lists c).writes x)) (written_in x h)
  where
    go : (a b w : Bool) → ((a && not b) && not w) ≡ (a && not (b || w))
    go false b w = refl
    go true true w = refl
    go true false w = refl

-- ---- sets that agree on settings

abbrev pub Agree : (ℕ → Bool) → (ℕ → Bool) → Type 0
Agree f g = (x : ℕ) → x < setting_count → f x ≡ g x

reads-agree : (f g : ℕ → Bool) (l : List Entry) → Agree f g → Distinct l → reads_any f l ≡ reads_any g l
unfolding Distinct
reads-agree f g [] a d = refl
reads-agree f g (e ∷ l) a d = ap₂ ◌||◌ (a e.setting d.0) (reads-agree f g l a d.2)

pub mark-agrees : (f g : ℕ → Bool) (h : History) → Agree f g → AllSound h → mark_live f h ≡ mark_live g h
mark-agrees f g [] a s = refl
mark-agrees f g (c ∷ h) a s =
    ap₂ (λ (b : Bool) (later : History). mark_update b c ∷ later) (reads-agree f g (lists c).reads a s.0.reads.distinct)
    (mark-agrees (close f (lists c)) (close g (lists c)) h (λ x q. ap (◌&& not (is_some (lookup (lists c).writes x))) (a x q)) s.1)

-- ---- whether a change of a history writes a setting

module _ (x : ℕ) where
  -- the change at a position does, or does not
  abbrev writes_at : History → ℕ → Bool
  writes_at h j = is_some (lookup (lists (get_or h j blank)).writes x)

  pub written-some : (h : History) (j : ℕ) → j < length h → writes_at h j ≡ true → written_in x h ≡ true
  written-some [] j q e = absurd (omega arith)
  written-some (c ∷ h) zero q e = ap (◌|| written_in x h) e
  written-some (c ∷ h) (suc j) q e = ap (is_some (lookup (lists c).writes x) ||◌) (written-some h j (omega arith) e) ∙ or-true (is_some (lookup (lists c).writes x))

  pub written_none : (h : History) → ((j : ℕ) → j < length h → writes_at h j ≡ true → ⊥) → written_in x h ≡ false
  written_none [] n = refl
  written_none (c ∷ h) n =
      ap₂ ◌||◌ (not_so (is_some (lookup (lists c).writes x)) (n 0 (omega arith))) (written_none h (λ j q e. n (suc j) (omega arith) e))
    where
      not_so : (b : Bool) → (b ≡ true → ⊥) → b ≡ false
      not_so true f = absurd (f refl)
      not_so false f = refl
