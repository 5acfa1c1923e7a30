-- One change of a history by rising timestamp flagged: the change of a timestamp withdrawn.
use mathlib.Core.Path.{◌≡◌, refl, sym, ap, ap₂, ◌∙◌}
use mathlib.Core.List.{List, [], ◌∷◌}
use mathlib.Core.Option.{Option, some}
use Prim.Native.Nat.{ℕ, zero, suc, ◌≤◌, ◌<◌}
use native.Mathlib.Omega.{arith}
use borrow.Author.Tests.{eq-eqb, ne_eqb, eqb-true}
use lib.Dec.{eqb}
use lib.ListN.{length, get_or, set}
use lib.Seq.{set-get_or}
use Rattle.general.proofs.Cases.{by-test}
use Rattle.model.specs.History.{New, Valid, Invalid, Change, change, timestamp, status, withdrawn, History}
use Rattle.model.specs.Cabinet.{blank, changes_at, put_at, find, flag}
use Rattle.model.specs.Tables.{status_number, flag_number}
use Rattle.model.specs.Sound.{Rising, AllDistinct}
use Rattle.model.proofs.Cabinet.{put_back, changes_at-other, withdraw_in}
use Rattle.model.proofs.Order.{changes_at-length, changes_at-get}
use Rattle.model.proofs.Restated.{Restates}
use Rattle.search.proofs.Split.{rising-above}
use Rattle.withdrawing.specs.Withdrawing.{unsettled_number}

-- ---- a flagged change

pub flag-restates : (u : Change) → Restates (flag u) u
flag-restates (change t p s w l) = record { stamped = refl; programmed = refl; listed = refl }

pub flag-status : (u : Change) → unsettled_number (status_number (status u)) ≡ status_number (status (flag u))
flag-status (change t p New w l) = refl
flag-status (change t p Valid w l) = refl
flag-status (change t p Invalid w l) = refl

pub flag-number : (u : Change) → 1 ≡ flag_number (withdrawn (flag u))
flag-number (change t p s w l) = refl

-- ---- the change of a timestamp

pub find-stamp : (t : ℕ) (h : History) {c : Change} → find t h ≡ some c → timestamp c ≡ t
find-stamp t [] e = absurd (let z : ◌≡◌ {A = ℕ} 0 1 = cc in omega arith)
find-stamp t (d ∷ h) {c} e =
    let ih = find-stamp t h {c = c} in
    by-test (λ (x : Option Change). x ≡ some c → timestamp c ≡ t) (eqb (timestamp d) t)
    (λ b q. let w : d ≡ c = cc in rw w at (eqb-true (timestamp d) t b)) (λ b q. ih q) e

-- none above it has the timestamp
flagged-none : (t b : ℕ) (h : History) → t ≤ b → Rising b h → withdraw_in t h ≡ h
flagged-none t b [] l r = refl
flagged-none t b (c ∷ h) l r =
    ap₂ ◌∷◌ (rw (ne_eqb (timestamp c) t (omega (arith, r.0)))) (flagged-none t (timestamp c) h (omega (arith, r.0)) r.2)

-- the change at a position of the order list has it, and is flagged
pub flagged-one : (changes : List Change) (t b : ℕ) (order : List ℕ) (k : ℕ) → AllDistinct order → Rising b (changes_at changes order) → k < length order → timestamp (get_or changes (get_or order k 0) blank) ≡ t → put_at order (withdraw_in t (changes_at changes order)) changes ≡ set changes (get_or order k 0) (flag (get_or changes (get_or order k 0) blank))
flagged-one changes t b [] k d r l e = absurd (omega arith)
flagged-one changes t b (i ∷ order) zero d r l e =
    let c = get_or changes i blank in
    ap₂ (λ (g : History) (x : Change). put_at order g (set changes i x)) (flagged-none t (timestamp c) (changes_at changes order) (omega arith) r.2) (rw (eq-eqb (timestamp c) t e))
    ∙ ap (λ (g : History). put_at order g (set changes i (flag c))) (sym (changes_at-other changes i (flag c) order d.0))
    ∙ put_back (set changes i (flag c)) order
flagged-one changes t b (i ∷ order) (suc k) d r l e =
    let c = get_or changes i blank in
    let above = rising-above (timestamp c) (changes_at changes order) k r.2 (omega (arith, changes_at-length changes order)) in
    let below : timestamp c < t = omega (arith, e, above, ap timestamp (changes_at-get changes order k (omega arith))) in
    ap (put_at order (withdraw_in t (changes_at changes order))) (ap (set changes i) (rw (ne_eqb (timestamp c) t (omega arith))) ∙ set-get_or changes i blank)
    ∙ flagged-one changes t (timestamp c) order k d.1 r.2 (omega arith) e
