-- What a cutoff leaves (document 02, R-7): the history and the order list of the changes that remain, the values that are kept, and the book.
use mathlib.Core.Path.{◌≡◌, refl, ap, ap₂, ◌∙◌}
use mathlib.Core.Bool.{false, cond, ◌&&◌}
use mathlib.Core.List.{List, [], ◌∷◌, ◌++◌}
use mathlib.Core.Option.{none}
use Prim.Native.Nat.{ℕ, zero, suc, ◌+◌, ◌≤◌, ◌<◌}
use native.Mathlib.Omega.{arith}
use borrow.Author.Tests.{ltb-false, le-ltb, ne_eqb}
use lib.Dec.{ltb}
use lib.IntN.{pos}
use lib.ListN.{length, get_or, get_or-eq_default}
use lib.Seq.{take-length}
use Rattle.machine.specs.Settings.{setting_count, Environment, Entry, lookup, Distinct}
use Rattle.general.proofs.Cases.{by-test, by-test₂, of-choice, neither, true-is-not-false}
use Rattle.model.specs.History.{infinity, Status, New, Valid, Invalid, Change, change, timestamp, lists, History, after_change, after_all, as_of}
use Rattle.model.specs.Cabinet.{Cabinet, blank, changes_at, history_of, kept_values_in, remaining, closed_to, renumbered, cut_at}
use Rattle.model.specs.Refusals.{waits, waits_below}
use Rattle.model.specs.Book.{booked, book_of, book_below, book_from}
use Rattle.model.specs.Sound.{Rising, AllSound, Below, Placed, Sound}
use Rattle.general.proofs.Tabulate.{length-tabulate}
use Rattle.model.proofs.Values.{value-all}
use Rattle.model.proofs.Order.{rising-distinct, placed_of, sum_over, sum-places}
use Rattle.model.proofs.Keeps.{history-sound}
use Rattle.model.proofs.AsOf.{NoneBelow, rising-none-below}
use Rattle.model.proofs.Drains.{AllValid}

-- ---- by place

-- a change that remains stands at the place that it closes up to
remaining-at : (t : ℕ) (changes : List Change) (i : ℕ) → i < length changes → ltb (timestamp (get_or changes i blank)) t ≡ false → (closed_to t changes i < length (remaining t changes)) × (get_or (remaining t changes) (closed_to t changes i) blank ≡ get_or changes i blank)
remaining-at t [] i h q = absurd (omega arith)
remaining-at t (c ∷ changes) zero h q = rw q (omega arith, refl)
remaining-at t (c ∷ changes) (suc i) h q =
    let rest = remaining-at t changes i (omega arith) q in
    by-test₂ (λ (all before : List Change). (length before < length all) × (get_or all (length before) blank ≡ get_or changes i blank)) (ltb (timestamp c) t)
    (λ e. rest) (λ e. (omega (arith, rest.0), rest.1))

module _ (t : ℕ) where
  -- one if the change at a place remains, else none
  abbrev remains : List Change → ℕ → ℕ
  remains changes i = cond (ltb (timestamp (get_or changes i blank)) t) 0 1

  closed-next : (changes : List Change) (i : ℕ) → i < length changes → closed_to t changes (suc i) ≡ remains changes i + closed_to t changes i
  closed-next [] i h = absurd (omega arith)
  closed-next (c ∷ changes) zero h = by-test₂ (λ (l : List Change) (m : ℕ). length l ≡ m + 0) (ltb (timestamp c) t) (λ q. refl) (λ q. refl)
  closed-next (c ∷ changes) (suc i) h =
      let rest = closed-next changes i (omega arith) in
      by-test₂ (λ (l l' : List Change). length l ≡ remains changes i + length l') (ltb (timestamp c) t) (λ q. rest) (λ q. omega (arith, rest))

module _ (t : ℕ) (changes : List Change) where
  changes_at-remaining : (order : List ℕ) → Below (length changes) order → changes_at (remaining t changes) (renumbered t changes order) ≡ remaining t (changes_at changes order)
  changes_at-remaining [] b = refl
  changes_at-remaining (i ∷ order) b =
      let rest = changes_at-remaining order b.1 in
      by-test₂ (λ (places : List ℕ) (h : History). changes_at (remaining t changes) places ≡ h) (ltb (timestamp (get_or changes i blank)) t)
      (λ q. rest) (λ q. ap₂ ◌∷◌ (remaining-at t changes i b.0 q).1 rest)

  renumbered-below : (order : List ℕ) → Below (length changes) order → Below (length (remaining t changes)) (renumbered t changes order)
  renumbered-below [] b = tt
  renumbered-below (i ∷ order) b =
      let rest = renumbered-below order b.1 in
      by-test (Below (length (remaining t changes))) (ltb (timestamp (get_or changes i blank)) t) (λ q. rest) (λ q. ((remaining-at t changes i b.0 q).0, rest))

  renumbered-sum : (order : List ℕ) → length (renumbered t changes order) ≡ sum_over (remains t changes) order
  renumbered-sum [] = refl
  renumbered-sum (i ∷ order) =
      let rest = renumbered-sum order in
      by-test₂ (λ (places : List ℕ) (m : ℕ). length places ≡ m + sum_over (remains t changes) order) (ltb (timestamp (get_or changes i blank)) t)
      (λ q. omega (arith, rest)) (λ q. omega (arith, rest))

-- the history is what remains of it
pub cut-history : (t : ℕ) (c : Cabinet) → Placed c → history_of (cut_at t c) ≡ remaining t (history_of c)
cut-history t c p = changes_at-remaining t c.changes c.order p.below

-- the order list has as many entries as changes remain
cut-counted : (t : ℕ) (c : Cabinet) → Placed c → length (cut_at t c).order ≡ length (cut_at t c).changes
cut-counted t c p =
    renumbered-sum t c.changes c.order
    ∙ sum-places (remains t c.changes) (closed_to t c.changes) refl (length c.changes) (closed-next t c.changes) c.order p.distinct p.below p.counted
    ∙ ap (λ (changes : List Change). length (remaining t changes)) (take-length c.changes)

-- ---- what remains is sound

module _ (t : ℕ) where
  remaining-short : (changes : List Change) → length (remaining t changes) ≤ length changes
  remaining-short [] = omega arith
  remaining-short (c ∷ changes) =
      let rest = remaining-short changes in
      by-test (λ (l : List Change). length l ≤ suc (length changes)) (ltb (timestamp c) t) (λ q. omega (arith, rest)) (λ q. omega (arith, rest))

  remaining-sound : (changes : List Change) → AllSound changes → AllSound (remaining t changes)
  remaining-sound [] a = tt
  remaining-sound (c ∷ changes) a =
      let rest = remaining-sound changes a.1 in
      by-test AllSound (ltb (timestamp c) t) (λ q. rest) (λ q. (a.0, rest))

  remaining-from : (changes : List Change) → NoneBelow t (remaining t changes)
  remaining-from [] = tt
  remaining-from (c ∷ changes) =
      let rest = remaining-from changes in
      by-test (NoneBelow t) (ltb (timestamp c) t) (λ q. rest) (λ q. (omega (arith, ltb-false (timestamp c) t q), rest))

  remaining-rising : (a b : ℕ) (h : History) → a ≤ b → Rising b h → Rising a (remaining t h)
  remaining-rising a b [] q r = tt
  remaining-rising a b (c ∷ h) q r =
      by-test (Rising a) (ltb (timestamp c) t) (λ e. remaining-rising a (timestamp c) h (omega arith) r.2)
      (λ e. (omega arith, r.1, remaining-rising (timestamp c) (timestamp c) h (omega arith) r.2))

pub cut-sound : {n : ℕ} {c : Cabinet} (t : ℕ) → t < infinity → Sound n c → Sound n (cut_at t c)
cut-sound {c = c} t h s =
    let p = s.placed in
    let history = cut-history t c p in
    let rising : Rising 0 (history_of (cut_at t c)) = rw history (remaining-rising t 0 0 (history_of c) (omega arith) s.rising) in
    record {
      some-capacity = s.some-capacity;
      capacity = s.capacity;
      small = omega (arith, remaining-short t c.changes, s.small);
      each = remaining-sound t c.changes s.each;
      placed =
          placed_of (cut_at t c) (cut-counted t c p) (renumbered-below t c.changes c.order p.below)
          (rising-distinct (cut_at t c).changes (cut_at t c).order 0 rising);
      rising = rising;
      viewed = s.viewed;
      cut = h;
      uncut = remaining-from t c.changes;
      kept-sized = length-tabulate setting_count (as_of t (history_of c) (kept_values_in c));
    }

-- ---- what is stamped below it

module _ (t : ℕ) where
  -- the changes that it drops, by rising timestamp
  abbrev pub stamped_below : History → History
  stamped_below [] = []
  stamped_below (c ∷ h) = cond (ltb (timestamp c) t) (c ∷ stamped_below h) (stamped_below h)

  -- nothing below it, nothing dropped
  pub none_dropped : (h : History) → NoneBelow t h → (stamped_below h ≡ []) × (remaining t h ≡ h)
  none_dropped [] k = (refl, refl)
  none_dropped (c ∷ h) k =
      let rest = none_dropped h k.1 in
      rw (le-ltb (timestamp c) t k.0) (rest.0, ap (c ∷◌) rest.1)

  -- it cuts a history by rising timestamp in two
  pub cut-in-two : (b : ℕ) (h : History) → Rising b h → stamped_below h ++ remaining t h ≡ h
  cut-in-two b [] r = refl
  cut-in-two b (c ∷ h) r =
      by-test₂ (λ (below rest : History). below ++ rest ≡ c ∷ h) (ltb (timestamp c) t) (λ q. ap (c ∷◌) (cut-in-two (timestamp c) h r.2))
      (λ q. let none = none_dropped h (rising-none-below t (timestamp c) h (omega (arith, ltb-false (timestamp c) t q)) r.2) in ap₂ (λ (below rest : History). below ++ (c ∷ rest)) none.0 none.1)

  -- the values as of it are what the dropped changes leave
  pub as_of-dropped : (h : History) (env : Environment) → as_of t h env ≡ after_all (stamped_below h) env
  as_of-dropped [] env = refl
  as_of-dropped (c ∷ h) env =
      by-test₂ (λ (env' : Environment) (below : History). as_of t h env' ≡ after_all below env) (ltb (timestamp c) t) (λ q. as_of-dropped h (after_change c env)) (λ q. as_of-dropped h env)

  pub book-dropped : (h : History) → book_of (stamped_below h) ≡ book_below t (book_of h)
  book-dropped [] = refl
  book-dropped (change u p s w l ∷ h) = of-choice book_of (ltb u t) (ap (booked u p w ∷◌) (book-dropped h)) (book-dropped h)

  pub book-remaining : (h : History) → book_of (remaining t h) ≡ book_from t (book_of h)
  book-remaining [] = refl
  book-remaining (change u p s w l ∷ h) = of-choice book_of (ltb u t) (book-remaining h) (ap (booked u p w ∷◌) (book-remaining h))

  -- where none below it waits, each that it drops is Valid
  pub dropped-valid : (h : History) → waits_below t h ≡ false → AllValid (stamped_below h)
  dropped-valid [] e = tt
  dropped-valid (change u p s w l ∷ h) e =
      let (first, rest) = neither (ltb u t && waits s) e in
      by-test AllValid (ltb u t) (λ q. go s (rw q at first) (dropped-valid h rest)) (λ q. dropped-valid h rest)
    where
      go : (s : Status) → waits s ≡ false → AllValid (stamped_below h) → AllValid (change u p s w l ∷ stamped_below h)
      go Valid q v = v
      go New q v = true-is-not-false q
      go Invalid q v = true-is-not-false q

-- ---- the kept values

-- no list writes past the last setting
unwritten : (l : List Entry) (s : ℕ) → setting_count ≤ s → Distinct l → lookup l s ≡ none
unfolding lookup Distinct
unwritten [] s h d = refl
unwritten (e ∷ l) s h d = rw (unwritten l s h d.2, ne_eqb e.setting s (omega (arith, d.0)))

as_of-past : (t : ℕ) (h : History) (env : Environment) (s : ℕ) → setting_count ≤ s → AllSound h → as_of t h env s ≡ env s
as_of-past t [] env s q a = refl
as_of-past t (c ∷ h) env s q a =
    as_of-past t h (cond (ltb (timestamp c) t) (after_change c env) env) s q a.1
    ∙ by-test (λ (env' : Environment). env' s ≡ env s) (ltb (timestamp c) t) (λ e. rw (unwritten (lists c).writes s q a.0.writes.distinct)) (λ e. refl)

-- runs then begin from the values as of the cutoff
pub kept-as-of : {n : ℕ} {c : Cabinet} (t : ℕ) → Sound n c → kept_values_in (cut_at t c) ≡ as_of t (history_of c) (kept_values_in c)
kept-as-of {c = c} t s =
    value-all (as_of t (history_of c) (kept_values_in c))
    (λ x h. as_of-past t (history_of c) (kept_values_in c) x h (history-sound s) ∙ get_or-eq_default c.kept (pos 0) (omega (arith, s.kept-sized)))
