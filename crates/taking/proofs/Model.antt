-- Taking in on tables that are in form, as the model has it.
use mathlib.Core.Path.{◌≡◌, refl, sym, ap, subst, ◌∙◌}
use mathlib.Core.Bool.{true, false}
use mathlib.Core.List.{List}
use mathlib.Core.Option.{none, some}
use Prim.Native.Nat.{ℕ, ◌*◌, ◌+◌, ◌/◌, ◌<◌, ◌≤◌}
use native.Mathlib.Omega.{arith}
use lib.ListN.{length, get_or, set}
use Rattle.machine.specs.Instruction.{Code}
use Rattle.general.proofs.Cases.{by-test}
use Rattle.model.specs.Answers.{Answer}
use Rattle.model.specs.History.{Change}
use Rattle.model.specs.Cabinet.{blank, find, add}
use Rattle.model.specs.Tables.{Tables, with_taking, encode, held_count, cutoff_in, program_at, decode}
use Rattle.model.specs.Refusals.{first_of, same_program}
use Rattle.model.specs.Package.{taking}
use Rattle.model.specs.Calls.{reply, if_done, item_call}
use Rattle.model.specs.Form.{Formed}
use Rattle.model.proofs.Tests.{Lengths}
use Rattle.model.proofs.Form.{facts}
use Rattle.model.proofs.Tables.{length-short, program-back}
use Rattle.search.specs.Searches.{rank_of, stamped_at}
use Rattle.search.proofs.Steps.{rank-within}
use Rattle.search.proofs.Model.{history_in, position_in, held-changes, rank-splits, position-none, position_some, position-change}
use Rattle.tables.proofs.Parts.{item-replied}
use Rattle.item_tests.specs.ItemTests.{argument_tests, compared_answer}
use Rattle.taking.specs.Taking.{entered, copied}
use Rattle.taking.proofs.Entered.{entered_in, added}
use Rattle.taking.proofs.Answers.{Acceptable, acceptable, refused, compared, none_left, place-left}

-- refused by its arguments
pub refused-replied : {n : ℕ} {T : Tables} → Formed n T → (t : ℕ) (p : Code) {r : ℕ} → r ≡ first_of (argument_tests (cutoff_in T) t p) → (r ≡ 0 → ⊥) → reply (Answer.Refused r) T ≡ item_call n T (taking t p)
unfolding decode
refused-replied {n} {T} g t p e f = item-replied (taking t p) g (refused n (decode T) t p e f) refl

-- a held count and the rank of a timestamp, as the code finds them
pub record AtRank (T : Tables) (t count position : ℕ) : Type 0 where
  pub counted : count ≡ held_count T
  pub ranked : position ≡ rank_of T.order T.timestamps t count

-- as the code finds them
pub at-rank : {T : Tables} {t count position : ℕ} → count ≡ held_count T → position ≡ rank_of T.order T.timestamps t count → AtRank T t count position
at-rank e f = record { counted = e; ranked = f }

-- the change at a position is held: its place, and its program
pub record HeldAt (T : Tables) (position : ℕ) : Type 0 where
  pub within : position < length T.order
  pub place : get_or T.order position 0 < length T.lengths
  pub blocks : length T.programs ≡ 256 * length T.lengths
  pub short : get_or T.lengths (get_or T.order position 0) 0 ≤ 32
  pub versioned : length T.versions ≡ length T.lengths

-- a place is left
pub record Room (n : ℕ) (T : Tables) (p : Code) (count position : ℕ) : Type 0 where
  pub next : count < n
  pub positioned : position ≤ count
  pub short : length p.bytes ≤ 256
  pub slots : Lengths n T

module _ {n : ℕ} {T : Tables} (g : Formed n T) {t count position : ℕ} (r : AtRank T t count position) where
  -- the change at the place of the position
  abbrev change_at : Change
  change_at = get_or (decode T).changes (get_or T.order position 0) blank

  -- the position is that of the timestamp
  found : stamped_at T.order T.timestamps t count position ≡ true → (position < held_count T) × (find t (history_in T) ≡ some change_at)
  found e =
      let k : position_in T t ≡ some position = rw (← r.counted, ← r.ranked, e) in
      ((position_some g t position k).0, position-change g t position k)

  -- or none has it
  free : stamped_at T.order T.timestamps t count position ≡ false → find t (history_in T) ≡ none
  free e = position-none g t (rw (← r.counted, ← r.ranked, e))

  pub place-held : stamped_at T.order T.timestamps t count position ≡ true → HeldAt T position
  place-held e =
      let l = (facts g).sizes in
      let f = (facts g).form in
      let h = f.places position (found e).0 in
      record {
        within = omega (arith, (found e).0, f.small, l.order);
        place = omega (arith, f.small, l.lengths);
        blocks = omega (arith, l.lengths, l.programs);
        short = (f.programs (get_or T.order position 0) h).short;
        versioned = l.versions ∙ sym l.lengths;
      }

  module _ {p : Code} (accepted : Acceptable (cutoff_in T) t p) where
    a : Acceptable (decode T).cutoff t p
    unfolding decode
    a = accepted

    room-left : (count ≡ length T.timestamps → ⊥) → Room n T p count position
    room-left f =
        record {
          next = omega (arith, f, r.counted, (facts g).form.small, (facts g).sizes.timestamps);
          positioned = omega (arith, r.ranked, rank-within T.order T.timestamps t count);
          short = length-short p.bytes a.sized;
          slots = (facts g).sizes;
        }

    -- the timestamp is held
    pub held-replied : stamped_at T.order T.timestamps t count position ≡ true → {b : Answer} → b ≡ compared_answer (program_at T (get_or T.order position 0)) p → reply b T ≡ item_call n T (taking t p)
    held-replied e {b} q =
        let at = found e in
        let i = get_or T.order position 0 in
        let same = ap (λ (U : Tables). program_at U i) (sym (facts g).laid) ∙ program-back n (decode T) (facts g).sound i (omega (arith, (facts g).form.places position at.0, held-changes g)) in
        item-replied (taking t p) g (q ∙ ap (λ (held : Code). compared_answer held p) same ∙ compared n (decode T) t p a at.1)
        (rw q (by-test (λ (x : Answer). T ≡ if_done x (encode n (add t p (decode T))) T) (same_program (program_at T i) p) (λ s. refl) (λ s. refl)))

    module _ (e : stamped_at T.order T.timestamps t count position ≡ false) where
      -- it is not, and no place is left
      pub full-replied : count ≡ length T.timestamps → reply (Answer.Refused 9) T ≡ item_call n T (taking t p)
      full-replied q = item-replied (taking t p) g (none_left n (decode T) t p a (free e) (omega (arith, r.counted, held-changes g, (facts g).sizes.timestamps))) refl

      -- one is left, and the change is stored there
      pub done-replied : {order programs : List ℕ} → (count ≡ length T.timestamps → ⊥) → order ≡ entered count position T.order → programs ≡ copied p.bytes (256 * count) T.programs → reply Answer.Done (with_taking T (set T.held 0 (count + 1)) (set T.timestamps count t) order (set T.lengths count (length p.bytes / 8)) programs (set T.versions count p.version)) ≡ item_call n T (taking t p)
      done-replied {order} {programs} f ordered programmed =
          let left = room-left f in
          let room : length (decode T).changes < n = omega (arith, left.next, r.counted, held-changes g) in
          let within : position ≤ length (decode T).changes = omega (arith, left.positioned, r.counted, held-changes g) in
          let split = rw (← r.counted, ← r.ranked) at (rank-splits g t) in
          item-replied (taking t p) g (place-left n (decode T) t p a (free e) room)
          ((λ j. with_taking T (set T.held 0 (count + 1)) (set T.timestamps count t) (ordered j) (set T.lengths count (length p.bytes / 8)) (programmed j) (set T.versions count p.version))
          ∙ ap (λ (m : ℕ). entered_in T m position t p) (r.counted ∙ sym (held-changes g))
          ∙ subst (λ (U : Tables). entered_in U (length (decode T).changes) position t p ≡ encode n (add t p (decode T))) (facts g).laid
          (added n (decode T) (facts g).sound t p room left.short (free e) position within split))

-- a place is left, by what the tests and the search found
pub room-found : {n : ℕ} {T : Tables} → Formed n T → (t : ℕ) (p : Code) {count position : ℕ} → count ≡ held_count T → position ≡ rank_of T.order T.timestamps t count → 0 ≡ first_of (argument_tests (cutoff_in T) t p) → (count ≡ length T.timestamps → ⊥) → Room n T p count position
room-found {T = T} g t p e f passed left = room-left g (at-rank e f) (acceptable (cutoff_in T) t p (sym passed)) left
