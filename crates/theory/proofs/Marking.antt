-- What marking keeps, where the settings as of the first change become others that agree with them on every setting that is not live.
use mathlib.Core.Path.{◌≡◌, refl, sym, ap, ◌∙◌}
use mathlib.Core.Bool.{Bool, true, false, not, ◌&&◌}
use mathlib.Core.List.{List, [], ◌∷◌}
use mathlib.Core.Option.{Option, none, some}
use Prim.Native.Nat.{ℕ}
use borrow.Author.Tests.{not-false}
use lib.IntN.{ℤ}
use Rattle.machine.specs.Settings.{Environment, Entry, ◌or_else◌, is_some, lookup, Holds, after}
use Rattle.general.proofs.Cases.{true-is-not-false, neither}
use Rattle.model.specs.History.{New, Valid, Invalid, Lists, run_lists, Change, change, lists, History, after_change, after_all}
use Rattle.model.specs.Figure.{Event, reads_any, mark, mark_update}
use Rattle.model.specs.Walk.{differs, close, mark_live, live_at_end}
use Rattle.model.specs.Book.{booked, book_of}
use Rattle.model.proofs.Values.{eq_z-true}
use Rattle.model.proofs.Programs.{run_lists-holds, run_lists-same}
use Rattle.theory.proofs.Invariant.{Consistent, AllConsistent, Traced, AllTraced}

-- two environments agree on every setting that is not live
abbrev pub Agree : (ℕ → Bool) → Environment → Environment → Type 0
Agree live env env' = (x : ℕ) → live x ≡ false → env x ≡ env' x

pub differs-agree : (old new : Lists) (env : Environment) → Agree (differs old new env) (after old.writes env) (after new.writes env)
differs-agree old new env x h = eq_z-true (after old.writes env x) (after new.writes env x) (not-false _ h)

close-agree : (live : ℕ → Bool) (l : Lists) (env env' : Environment) → Agree live env env' → Agree (close live l) (after l.writes env) (after l.writes env')
close-agree live l env env' a x h = go (lookup l.writes x) (live x) (a x) h
  where
    go : (written : Option ℤ) (b : Bool) → (b ≡ false → env x ≡ env' x) → (b && not (is_some written)) ≡ false → (written or_else env x) ≡ (written or_else env' x)
    go (some v) b k h = refl
    go none true k h = k h
    go none false k h = k refl

-- a read list without live settings holds in both
unread-holds : (live : ℕ → Bool) (env env' : Environment) → Agree live env env' → (l : List Entry) → reads_any live l ≡ false → Holds env l → Holds env' l
unfolding Holds
unread-holds live env env' a [] h k = tt
unread-holds live env env' a (e ∷ l) h k =
    let n = neither (live e.setting) h in
    (sym (a e.setting n.0) ∙ k.0, unread-holds live env env' a l n.1 k.1)

mark-consistent : (live : ℕ → Bool) (env env' : Environment) → Agree live env env' → (c : Change) → Consistent env c → Consistent env' (mark_update (reads_any live (lists c).reads) c)
mark-consistent live env env' a (change t p New w l) k = k
mark-consistent live env env' a (change t p Invalid w l) k = tt
mark-consistent live env env' a (change t p Valid true l) k = rw k
mark-consistent live env env' a (change t p Valid false l) k = go (reads_any live l.reads) refl
  where
    go : (b : Bool) → reads_any live l.reads ≡ b → Consistent env' (change t p (mark b Valid) false l)
    go true q = tt
    go false q = run_lists-same env env' p (unread-holds live env env' a (run_lists env p).reads (rw k q) (run_lists-holds env p)) ∙ k

pub marked-consistent : (live : ℕ → Bool) (env env' : Environment) → Agree live env env' → (h : History) → AllConsistent env h → AllConsistent env' (mark_live live h)
marked-consistent live env env' a [] k = tt
marked-consistent live env env' a (change t p s w l ∷ h) k = (
  mark-consistent live env env' a (change t p s w l) k.0,
  marked-consistent (close live l) (after l.writes env) (after l.writes env') (close-agree live l env env' a) h k.1,
)

pub marked-after : (live : ℕ → Bool) (h : History) (env : Environment) → after_all (mark_live live h) env ≡ after_all h env
marked-after live [] env = refl
marked-after live (change t p s w l ∷ h) env = marked-after (close live l) h (after l.writes env)

pub marked-book : (live : ℕ → Bool) (h : History) → book_of (mark_live live h) ≡ book_of h
marked-book live [] = refl
marked-book live (change t p s w l ∷ h) = ap (booked t p w ∷◌) (marked-book (close live l) h)

mark-traced : (b : Bool) (events : List Event) (c : Change) → Traced events c → Traced events (mark_update b c)
mark-traced b events (change t p New w l) k = k
mark-traced true events (change t p Valid true l) k = tt
mark-traced false events (change t p Valid true l) k = tt
mark-traced true events (change t p Valid false l) k = k
mark-traced false events (change t p Valid false l) k = k
mark-traced b events (change t p Invalid w l) k = k

pub marked-traced : (live : ℕ → Bool) (events : List Event) (h : History) → AllTraced events h → AllTraced events (mark_live live h)
marked-traced live events [] k = tt
marked-traced live events (change t p s w l ∷ h) k =
    (mark-traced (reads_any live l.reads) events (change t p s w l) k.0, marked-traced (close live l) events h k.1)

-- a setting that is not live at the end is the same after both
pub agree_after : (live : ℕ → Bool) (env env' : Environment) → Agree live env env' → (h : History) → Agree (live_at_end live h) (after_all h env) (after_all h env')
agree_after live env env' a [] = a
agree_after live env env' a (c ∷ h) =
    agree_after (close live (lists c)) (after_change c env) (after_change c env') (close-agree live (lists c) env env' a) h

-- a setting that is live at the end was live from the start, and no change of the history writes it
pub live-unwritten : (live : ℕ → Bool) (env : Environment) (h : History) (x : ℕ) → live_at_end live h x ≡ true → (live x ≡ true) × (after_all h env x ≡ env x)
live-unwritten live env [] x q = (q, refl)
live-unwritten live env (c ∷ h) x q =
    let rest = live-unwritten (close live (lists c)) (after_change c env) h x q in
    let first = go (lookup (lists c).writes x) (live x) rest.0 in
    (first.0, rest.1 ∙ first.1)
  where
    go : (written : Option ℤ) (b : Bool) → (b && not (is_some written)) ≡ true → (b ≡ true) × ((written or_else env x) ≡ env x)
    go none true h = (refl, refl)
    go none false h = (h, refl)
    go (some v) true h = true-is-not-false (sym h)
    go (some v) false h = true-is-not-false (sym h)
