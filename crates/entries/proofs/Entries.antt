-- The entries of a package, carried out one after the other on the part of the tables that items alter.
use mathlib.Core.Path.{◌≡◌, refl, sym, ap, subst, ◌∙◌}
use mathlib.Core.List.{List}
use Prim.Native.Nat.{ℕ, ◌+◌, ◌*◌, ◌<◌, ◌≤◌}
use native.Mathlib.Omega.{arith}
use lib.ListN.{length, set}
use Rattle.model.specs.Answers.{Answer}
use Rattle.model.specs.Cabinet.{Cabinet}
use Rattle.model.specs.Tables.{Tables, encode, decode}
use Rattle.model.specs.Package.{Item, entry_count, entry_at, count_of, item_at}
use Rattle.model.specs.Calls.{Reply, answer_number, reply, item_answer, item_step, item_call}
use Rattle.model.specs.Sound.{Sound}
use Rattle.model.proofs.Tables.{decode-encode}
use Rattle.model.proofs.Items.{of-answer}
use Rattle.model.proofs.Form.{facts, encode-formed}
use Rattle.model.specs.Form.{Formed}
use Rattle.tables.specs.Parts.{ItemAnswered}
use Rattle.packages.proofs.Entries.{laid_out}
use Rattle.packages.proofs.Carried.{Carried, cabinet-sound, carried_none, carried-faultless, carried-length, carried-next}
use Rattle.packages.proofs.Outcomes.{package-done}
use Rattle.entry.specs.Entry.{EntryReady}
use Rattle.entries.specs.Entries.{EntriesReady, EntriesTaken}

-- an item called on tables that hold a sound cabinet: its answer, and the cabinet after it
next-item : {n : ℕ} {c : Cabinet} {T U : Tables} (i : Item) {a : Answer} → Sound n c → T ≡ encode n c → reply a U ≡ item_call n T i → (a ≡ item_answer n c i) × (U ≡ encode n (item_step n c i))
next-item {n} {c} {T} {U} i {a} s e q =
    let called = rw (e, (encode-formed s).sized, (encode-formed s).form, decode-encode n c s) at q in (
      ap (λ (r : Reply Answer). r.answer) called,
      ap (λ (r : Reply Answer). r.tables) called ∙ sym (of-answer (encode n) (item_answer n c i) refl refl),
    )

-- ---- the loop

-- after the entries before entry j, from the tables and the answer bytes lent
pub record EntriesBefore (bytes lent : List ℕ) (before : Tables → Tables) (j body : ℕ) (after : Tables → Tables) (answers : List ℕ) : Type 0 where
  pub carried : {n : ℕ} (T : Tables) → Formed n (before T) → Carried n (decode (before T)) bytes lent j body (after T) answers

module _ {bytes lent : List ℕ} {before : Tables → Tables} (r : EntriesReady bytes lent before) where
  -- before the first entry
  pub entries_none : {body : ℕ} → body ≡ entry_at (entry_count bytes) → EntriesBefore bytes lent before 0 body before lent
  entries_none e = record { carried = λ {n} T g. carried_none n (before T) bytes lent g e }

  module _ {j body : ℕ} {after : Tables → Tables} {answers : List ℕ} (k : EntriesBefore bytes lent before j body after answers) where
    -- what stands with the others that make the tables in form
    now : Carried r.formed.capacity (decode (before r.formed.others)) bytes lent j body (after r.formed.others) answers
    now = k.carried r.formed.others r.formed.formed

    -- the tables are still in form
    still_formed : Formed r.formed.capacity (after r.formed.others)
    still_formed = carried-faultless now (facts r.formed.formed).sound

    -- the answer bytes are as many as were lent
    still-sized : length answers ≡ length lent
    still-sized = carried-length now (omega (arith, r.sized, (laid_out bytes r.laid_out).few))

    -- there is one for entry j
    pub answer-within : j < entry_count bytes → j < length answers
    answer-within h = omega (arith, still-sized, r.sized, (laid_out bytes r.laid_out).few)

    -- entry j may be carried out
    pub entry_ready : j < entry_count bytes → EntryReady bytes j body after
    entry_ready h =
        record {
          laid_out = r.laid_out;
          within = h;
          begins = now.body-at;
          formed = record { capacity = r.formed.capacity; others = r.formed.others; formed = still_formed };
        }

    -- one entry more
    pub entries_next : {a : Answer} {number count : ℕ} {next : Tables → Tables} → j < entry_count bytes → ItemAnswered after next (item_at bytes j) a → number ≡ answer_number a → count ≡ count_of bytes j → EntriesBefore bytes lent before (j + 1) (body + 8 * count) next (set answers j number)
    entries_next {a} {number} {count} {next} h e numbered counted =
        record {
          carried = λ {n} T g.
              let c = k.carried T g in
              let s = (facts g).sound in
              let m = next-item (item_at bytes j) (cabinet-sound n (decode (before T)) bytes j s) c.tables (e.answered T (carried-faultless c s)) in
              subst (λ (q : ℕ). Carried n (decode (before T)) bytes lent (j + 1) (body + 8 * count) (next T) (set answers j q)) (sym numbered)
              (carried-next c h (omega (arith, r.sized, (laid_out bytes r.laid_out).few)) counted refl m.0 m.1);
        }

    -- after the last entry
    pub entries-taken : entry_count bytes ≤ j → EntriesTaken bytes lent answers before after
    entries-taken h =
        record { taken = λ {n} T g. package-done n (before T) bytes lent r.sized g r.laid_out h (k.carried T g) }
