-- Laws of sound changes: what keeps a change sound, lists of sound changes, and lists of which none is stamped below a cutoff.
use mathlib.Core.Path.{◌≡◌, refl}
use mathlib.Core.Bool.{Bool, true, false}
use mathlib.Core.List.{List, [], ◌∷◌, ◌++◌, map}
use Prim.Native.Nat.{ℕ, zero, suc, ◌≤◌, ◌<◌}
use native.Mathlib.Omega.{arith}
use lib.ListN.{length, get_or, set}
use Rattle.machine.specs.Settings.{Environment, Distinct, Bounded}
use Rattle.machine.specs.Instruction.{Code}
use Rattle.machine.specs.Form.{length_fits, all_well_formed}
use Rattle.model.specs.History.{infinity, Status, New, Valid, Invalid, Lists, empty, run_lists, Change, change, timestamp}
use Rattle.model.specs.Figure.{mark, mark_update}
use Rattle.model.specs.Cabinet.{blank, unsettled, flag}
use Rattle.model.specs.Sound.{ChangeSound, AllSound, NoneUnder}
use Rattle.model.proofs.Programs.{run_lists-bounded}

-- ---- a sound change

empty-bounded : Bounded []
unfolding Distinct
empty-bounded = record { short = omega arith; distinct = tt }

-- just taken in
pub new-sound : {t : ℕ} {p : Code} → 0 < t → t < infinity → length_fits p.bytes ≡ true → p.version ≤ 1 → all_well_formed p.bytes ≡ true → ChangeSound (change t p New false empty)
new-sound above below sized versioned formed =
    record { above = above; below = below; sized = sized; versioned = versioned; formed = formed; reads = empty-bounded; writes = empty-bounded; new = λ e. refl }

-- another status, another flag, other lists
altered-sound : {t : ℕ} {p : Code} {s s' : Status} {w w' : Bool} {l l' : Lists} → Bounded l'.reads → Bounded l'.writes → (s' ≡ New → l' ≡ empty) → ChangeSound (change t p s w l) → ChangeSound (change t p s' w' l')
altered-sound r b n k =
    record { above = k.above; below = k.below; sized = k.sized; versioned = k.versioned; formed = k.formed; reads = r; writes = b; new = n }

-- Valid with the same lists
pub stood-sound : {t : ℕ} {p : Code} {s : Status} {w : Bool} {l : Lists} → ChangeSound (change t p s w l) → ChangeSound (change t p Valid w l)
stood-sound k = altered-sound k.reads k.writes (λ e. cc) k

-- run, or cleared
pub ran-sound : (env : Environment) {t : ℕ} {p : Code} {s : Status} {w : Bool} {l : Lists} → ChangeSound (change t p s w l) → ChangeSound (change t p Valid w (run_lists env p))
ran-sound env {p = p} k = let r = run_lists-bounded env p k.sized in altered-sound r.0 r.1 (λ e. cc) k

pub cleared-sound : {t : ℕ} {p : Code} {s : Status} {w : Bool} {l : Lists} → ChangeSound (change t p s w l) → ChangeSound (change t p Valid w empty)
cleared-sound k = altered-sound empty-bounded empty-bounded (λ e. cc) k

pub marked-sound : (b : Bool) (u : Change) → ChangeSound u → ChangeSound (mark_update b u)
marked-sound b (change t p s w l) k = altered-sound k.reads k.writes (λ e. k.new (go b s e)) k
  where
    go : (b : Bool) (s : Status) → mark b s ≡ New → s ≡ New
    go b New e = refl
    go true Valid e = cc
    go false Valid e = e
    go b Invalid e = e

pub flag-sound : (u : Change) → ChangeSound u → ChangeSound (flag u)
flag-sound (change t p s w l) k = altered-sound k.reads k.writes (λ e. k.new (go s e)) k
  where
    go : (s : Status) → unsettled s ≡ New → s ≡ New
    go New e = refl
    go Valid e = cc
    go Invalid e = e

-- ---- lists of sound changes

pub sound-at : (changes : List Change) (i : ℕ) → AllSound changes → i < length changes → ChangeSound (get_or changes i blank)
sound-at [] i a h = absurd (omega arith)
sound-at (c ∷ changes) zero a h = a.0
sound-at (c ∷ changes) (suc i) a h = sound-at changes i a.1 (omega arith)

-- what holds of sound changes, and of what stands at a place that is not held, holds at every place
pub at-any-place : (P : Change → Type 0) → P blank → ((c : Change) → ChangeSound c → P c) → (changes : List Change) (i : ℕ) → AllSound changes → P (get_or changes i blank)
at-any-place P b h [] i a = b
at-any-place P b h (c ∷ changes) zero a = h c a.0
at-any-place P b h (c ∷ changes) (suc i) a = at-any-place P b h changes i a.1

pub all_sound : (changes : List Change) → ((i : ℕ) → i < length changes → ChangeSound (get_or changes i blank)) → AllSound changes
all_sound [] h = tt
all_sound (c ∷ changes) h = (h 0 (omega arith), all_sound changes (λ i q. h (suc i) (omega arith)))

pub map-sound : (f : Change → Change) → ((u : Change) → ChangeSound u → ChangeSound (f u)) → (changes : List Change) → AllSound changes → AllSound (map f changes)
map-sound f s [] a = tt
map-sound f s (u ∷ changes) a = (s u a.0, map-sound f s changes a.1)

pub append-sound : (changes : List Change) (c : Change) → AllSound changes → ChangeSound c → AllSound (changes ++ (c ∷ []))
append-sound [] c a s = (s, tt)
append-sound (d ∷ changes) c a s = (a.0, append-sound changes c a.1 s)

pub set-sound : (changes : List Change) (i : ℕ) (c : Change) → AllSound changes → ChangeSound c → AllSound (set changes i c)
set-sound [] i c a s = tt
set-sound (d ∷ changes) zero c a s = (s, a.1)
set-sound (d ∷ changes) (suc i) c a s = (a.0, set-sound changes i c a.1 s)

-- ---- none stamped below a cutoff

pub none-under : (b : ℕ) (changes : List Change) → ((i : ℕ) → i < length changes → b ≤ timestamp (get_or changes i blank)) → NoneUnder b (map timestamp changes)
none-under b [] h = tt
none-under b (c ∷ changes) h = (h 0 (omega arith), none-under b changes (λ i q. h (suc i) (omega arith)))

pub under_at : (b : ℕ) (changes : List Change) (i : ℕ) → NoneUnder b (map timestamp changes) → i < length changes → b ≤ timestamp (get_or changes i blank)
under_at b [] i u h = absurd (omega arith)
under_at b (c ∷ changes) zero u h = u.0
under_at b (c ∷ changes) (suc i) u h = under_at b changes i u.1 (omega arith)

pub append-under : (b : ℕ) (changes : List Change) (c : Change) → NoneUnder b (map timestamp changes) → b ≤ timestamp c → NoneUnder b (map timestamp (changes ++ (c ∷ [])))
append-under b [] c u q = (q, tt)
append-under b (d ∷ changes) c u q = (u.0, append-under b changes c u.1 q)

pub set-under : (b : ℕ) (changes : List Change) (i : ℕ) (c : Change) → NoneUnder b (map timestamp changes) → b ≤ timestamp c → NoneUnder b (map timestamp (set changes i c))
set-under b [] i c u q = tt
set-under b (d ∷ changes) zero c u q = (q, u.1)
set-under b (d ∷ changes) (suc i) c u q = (u.0, set-under b changes i c u.1 q)
