-- The cabinet by place: what taking in, and another history of the same places, do to the history and to the order list.
use mathlib.Core.Path.{◌≡◌, refl, sym, ap, ap₂, ◌∙◌}
use mathlib.Core.Bool.{Bool, false, cond}
use mathlib.Core.List.{List, [], ◌∷◌, ◌++◌, map}
use Prim.Native.Nat.{ℕ, suc, ◌<◌, ◌≤◌}
use native.Mathlib.Omega.{arith}
use lib.Dec.{eqb, ltb}
use lib.IntN.{ℤ}
use lib.ListN.{length, get_or, set, length-append, length-map, length-set, get_or-append}
use lib.Seq.{get_or-set_same, get_or-set_other, get_or-append_seam, set-get_or, set-set, set_comm}
use Rattle.machine.specs.Instruction.{Code}
use Rattle.general.proofs.Cases.{by-test, of-choice}
use Rattle.model.specs.History.{New, empty, Change, change, timestamp, History}
use Rattle.model.specs.Walk.{insert}
use Rattle.model.specs.Cabinet.{Cabinet, blank, changes_at, history_of, put_at, with_history, enter_place, add, flag, remove}
use Rattle.model.specs.Sound.{AllSound, NoneUnder, Below, NotIn, AllDistinct, Placed}
use Rattle.model.proofs.Sound.{sound-at, set-sound, under_at, set-under}
use Rattle.model.proofs.Order.{changes_at-length, placed_of}

-- ---- changes at places

pub length-put_at : (places : List ℕ) (new changes : List Change) → length (put_at places new changes) ≡ length changes
length-put_at [] new changes = refl
length-put_at (i ∷ places) [] changes = refl
length-put_at (i ∷ places) (c ∷ new) changes = length-put_at places new (set changes i c) ∙ length-set changes i c

put_at-other : (places : List ℕ) (new changes : List Change) (i : ℕ) → NotIn i places → get_or (put_at places new changes) i blank ≡ get_or changes i blank
put_at-other [] new changes i h = refl
put_at-other (j ∷ places) [] changes i h = refl
put_at-other (j ∷ places) (c ∷ new) changes i h = put_at-other places new (set changes j c) i h.1 ∙ get_or-set_other changes j i c blank h.0

-- a change put at another place
pub changes_at-other : (changes : List Change) (i : ℕ) (c : Change) (places : List ℕ) → NotIn i places → changes_at (set changes i c) places ≡ changes_at changes places
changes_at-other changes i c [] n = refl
changes_at-other changes i c (j ∷ places) n =
    ap₂ ◌∷◌ (get_or-set_other changes i j c blank (λ e. n.0 (sym e))) (changes_at-other changes i c places n.1)

-- what was put at some places stands there
changes_at-put_at : (places : List ℕ) (new changes : List Change) → AllDistinct places → Below (length changes) places → length new ≡ length places → changes_at (put_at places new changes) places ≡ new
changes_at-put_at [] [] changes d b q = refl
changes_at-put_at [] (c ∷ new) changes d b q = absurd (omega arith)
changes_at-put_at (i ∷ places) [] changes d b q = absurd (omega arith)
changes_at-put_at (i ∷ places) (c ∷ new) changes d b q =
    ap₂ ◌∷◌ (put_at-other places new (set changes i c) i d.0 ∙ get_or-set_same changes i c blank b.0)
    (changes_at-put_at places new (set changes i c) d.1 (rw (length-set changes i c) b.1) (omega arith))

-- ---- another history of the same places

pub with_history-history : (c : Cabinet) (h : History) (view : List ℤ) → Placed c → length h ≡ length (history_of c) → history_of (with_history c h view) ≡ h
with_history-history c h view p q =
    changes_at-put_at c.order h c.changes p.distinct p.below (q ∙ changes_at-length c.changes c.order)

pub with_history-placed : (c : Cabinet) (h : History) (view : List ℤ) → Placed c → Placed (with_history c h view)
with_history-placed c h view p =
    let n = length-put_at c.order h c.changes in
    placed_of (with_history c h view) (rw n p.counted) (rw n p.below) p.distinct

-- ---- a history put back, or replaced twice

-- every change put back where it is
pub put_back : (changes : List Change) (places : List ℕ) → put_at places (changes_at changes places) changes ≡ changes
put_back changes [] = refl
put_back changes (i ∷ places) = ap (put_at places (changes_at changes places)) (set-get_or changes i blank) ∙ put_back changes places

-- the order of two puts
set-put : (places : List ℕ) (new changes : List Change) (i : ℕ) (c : Change) → NotIn i places → set (put_at places new changes) i c ≡ put_at places new (set changes i c)
set-put [] new changes i c n = refl
set-put (j ∷ places) [] changes i c n = refl
set-put (j ∷ places) (d ∷ new) changes i c n = set-put places new (set changes j d) i c n.1 ∙ ap (put_at places new) (set_comm changes j i d c (λ e. n.0 (sym e)))

put-over : (places : List ℕ) (new old changes : List Change) → AllDistinct places → length new ≡ length places → put_at places new (put_at places old changes) ≡ put_at places new changes
put-over [] new old changes d q = refl
put-over (i ∷ places) [] old changes d q = absurd (omega arith)
put-over (i ∷ places) (b ∷ new) [] changes d q = refl
put-over (i ∷ places) (b ∷ new) (a ∷ old) changes d q =
    ap (put_at places new) (set-put places old (set changes i a) i b d.0)
    ∙ put-over places new old (set (set changes i a) i b) d.1 (omega arith)
    ∙ ap (put_at places new) (set-set changes i a b)

pub same-history : (c : Cabinet) → with_history c (history_of c) c.view ≡ c
same-history c = ap (λ (changes : List Change). record { changes = changes; order = c.order; view = c.view; cutoff = c.cutoff; kept = c.kept }) (put_back c.changes c.order)

pub history-again : (c : Cabinet) (h h' : History) (view view' : List ℤ) → Placed c → length h' ≡ length (history_of c) → with_history (with_history c h view) h' view' ≡ with_history c h' view'
history-again c h h' view view' p q =
    ap (λ (changes : List Change). record { changes = changes; order = c.order; view = view'; cutoff = c.cutoff; kept = c.kept })
    (put-over c.order h' h c.changes p.distinct (q ∙ changes_at-length c.changes c.order))

-- the history with the change of a timestamp withdrawn
abbrev pub withdraw_in : ℕ → History → History
withdraw_in t h = map (λ u. cond (eqb (timestamp u) t) (flag u) u) h

pub remove-history : (t : ℕ) (c : Cabinet) → Placed c → history_of (remove t c) ≡ withdraw_in t (history_of c)
remove-history t c p = with_history-history c _ c.view p (length-map (history_of c) _)

-- ---- a place more

below_more : (n m : ℕ) (places : List ℕ) → n ≤ m → Below n places → Below m places
below_more n m [] q b = tt
below_more n m (i ∷ places) q b = (omega arith, below_more n m places q b.1)

below-not-in : (n : ℕ) (places : List ℕ) → Below n places → NotIn n places
below-not-in n [] b = tt
below-not-in n (i ∷ places) b = (omega arith, below-not-in n places b.1)

changes_at-more : (changes more : List Change) (places : List ℕ) → Below (length changes) places → changes_at (changes ++ more) places ≡ changes_at changes places
changes_at-more changes more [] b = refl
changes_at-more changes more (i ∷ places) b = ap₂ ◌∷◌ (get_or-append changes more blank i b.0) (changes_at-more changes more places b.1)

module _ (changes : List Change) (t place : ℕ) where
  -- is the place entered before i
  abbrev before : ℕ → Bool
  before i = ltb t (timestamp (get_or changes i blank))

  enter-length : (order : List ℕ) → length (enter_place changes t place order) ≡ suc (length order)
  enter-length [] = refl
  enter-length (i ∷ order) =
      by-test (λ l. length l ≡ suc (suc (length order))) (before i) (λ q. refl) (λ q. ap suc (enter-length order))

  enter-not-in : (j : ℕ) (order : List ℕ) → ¬ (j ≡ place) → NotIn j order → NotIn j (enter_place changes t place order)
  enter-not-in j [] n h = (n, tt)
  enter-not-in j (i ∷ order) n h = by-test (NotIn j) (before i) (λ q. (n, h)) (λ q. (h.0, enter-not-in j order n h.1))

  enter-distinct : (order : List ℕ) → Below place order → AllDistinct order → AllDistinct (enter_place changes t place order)
  enter-distinct [] b d = (tt, tt)
  enter-distinct (i ∷ order) b d =
      by-test AllDistinct (before i) (λ q. (below-not-in place (i ∷ order) b, d))
      (λ q. (enter-not-in i order (omega arith) d.0, enter-distinct order b.1 d.1))

  enter-below : (m : ℕ) (order : List ℕ) → place < m → Below m order → Below m (enter_place changes t place order)
  enter-below m [] l b = (l, tt)
  enter-below m (i ∷ order) l b = by-test (Below m) (before i) (λ q. (l, b)) (λ q. (b.0, enter-below m order l b.1))

-- ---- taking in

pub add-history : (t : ℕ) (p : Code) (c : Cabinet) → Placed c → history_of (add t p c) ≡ insert t p (history_of c)
add-history t p c k = entered c.order k.below
  where
    all : List Change
    all = c.changes ++ (change t p New false empty ∷ [])

    last : get_or all (length c.changes) blank ≡ change t p New false empty
    last = get_or-append_seam c.changes (change t p New false empty) [] blank

    entered : (order : List ℕ) → Below (length c.changes) order → changes_at all (enter_place c.changes t (length c.changes) order) ≡ insert t p (changes_at c.changes order)
    entered [] b = ap (◌∷ []) last
    entered (i ∷ order) b =
        of-choice (changes_at all) (ltb t (timestamp (get_or c.changes i blank)))
        (ap₂ ◌∷◌ last (changes_at-more c.changes (change t p New false empty ∷ []) (i ∷ order) b))
        (ap₂ ◌∷◌ (get_or-append c.changes (change t p New false empty ∷ []) blank i b.0) (entered order b.1))

pub add-placed : (t : ℕ) (p : Code) (c : Cabinet) → Placed c → Placed (add t p c)
add-placed t p c k =
    let count = length c.changes in
    let n : length (c.changes ++ (change t p New false empty ∷ [])) ≡ suc count = simp length-append (omega arith) in
    placed_of (add t p c) (enter-length c.changes t count c.order ∙ omega arith)
    (enter-below c.changes t count _ c.order (omega arith) (below_more count _ c.order (omega arith) k.below))
    (enter-distinct c.changes t count c.order k.below k.distinct)

-- ---- sound changes

pub changes_at-sound : (changes : List Change) (places : List ℕ) → Below (length changes) places → AllSound changes → AllSound (changes_at changes places)
changes_at-sound changes [] b a = tt
changes_at-sound changes (i ∷ places) b a = (sound-at changes i a b.0, changes_at-sound changes places b.1 a)

pub put_at-sound : (places : List ℕ) (new changes : List Change) → AllSound new → AllSound changes → AllSound (put_at places new changes)
put_at-sound [] new changes a b = b
put_at-sound (i ∷ places) [] changes a b = b
put_at-sound (i ∷ places) (c ∷ new) changes a b = put_at-sound places new (set changes i c) a.1 (set-sound changes i c b a.0)

-- ---- none stamped below a cutoff

pub changes_at-under : (b : ℕ) (changes : List Change) (places : List ℕ) → Below (length changes) places → NoneUnder b (map timestamp changes) → NoneUnder b (map timestamp (changes_at changes places))
changes_at-under b changes [] q u = tt
changes_at-under b changes (i ∷ places) q u = (under_at b changes i u q.0, changes_at-under b changes places q.1 u)

pub put_at-under : (b : ℕ) (places : List ℕ) (new changes : List Change) → NoneUnder b (map timestamp new) → NoneUnder b (map timestamp changes) → NoneUnder b (map timestamp (put_at places new changes))
put_at-under b [] new changes u v = v
put_at-under b (i ∷ places) [] changes u v = v
put_at-under b (i ∷ places) (c ∷ new) changes u v = put_at-under b places new (set changes i c) u.1 (set-under b changes i c v u.0)
