-- The items of a package carried out one after the other: what the loop over its entries keeps.
use mathlib.Core.Path.{◌≡◌, refl, sym, ap, ap₂, subst, ◌∙◌}
use mathlib.Core.List.{List, [], ◌∷◌, ◌++◌, map, map-append}
use Prim.Native.Nat.{ℕ, suc, ◌+◌, ◌*◌, ◌≤◌, ◌<◌}
use native.Mathlib.Numerals.{add-one}
use native.Mathlib.Omega.{arith}
use lib.ListN.{length, get_or, set, take, drop, length-append, length-drop, length-map}
use lib.Seq.{length-take-le, drop-cons, append_snoc, set_at}
use Rattle.model.specs.Answers.{Answer}
use Rattle.model.specs.Cabinet.{Cabinet}
use Rattle.model.specs.Tables.{Tables, encode, decode}
use Rattle.model.specs.Package.{Item, entry_count, entry_at, count_of, body_at, item_at, items_of}
use Rattle.model.specs.Calls.{answer_number, item_answer, item_step, item_answers, item_steps}
use Rattle.model.specs.Sound.{Sound}
use Rattle.model.proofs.Form.{facts, encode-formed}
use Rattle.model.proofs.Items.{items-sound, length-item_answers}
use Rattle.model.proofs.Packing.{items-count}
use Rattle.model.specs.Form.{Formed}
use Rattle.packages.proofs.Entries.{body-first, body-next}
use Rattle.packages.proofs.Items.{items-all, items-next}

-- ---- one item more

-- the cabinet after it
pub steps_next : (n : ℕ) (c : Cabinet) (items : List Item) (i : Item) → item_steps n c (items ++ (i ∷ [])) ≡ item_step n (item_steps n c items) i
steps_next n c [] i = refl
steps_next n c (x ∷ items) i = steps_next n (item_step n c x) items i

-- its answer stands last
pub answers_next : (n : ℕ) (c : Cabinet) (items : List Item) (i : Item) → item_answers n c (items ++ (i ∷ [])) ≡ item_answers n c items ++ (item_answer n (item_steps n c items) i ∷ [])
answers_next n c [] i = refl
answers_next n c (x ∷ items) i = ap (item_answer n c x ∷◌) (answers_next n (item_step n c x) items i)

-- ---- the entries before entry j

-- the cabinet after them
abbrev pub cabinet_at : ℕ → Cabinet → List ℕ → ℕ → Cabinet
cabinet_at n c bytes j = item_steps n c (take j (items_of bytes))

-- the numbers of their answers
abbrev pub numbers_at : ℕ → Cabinet → List ℕ → ℕ → List ℕ
numbers_at n c bytes j = map answer_number (item_answers n c (take j (items_of bytes)))

module _ (n : ℕ) (c : Cabinet) (bytes : List ℕ) (j : ℕ) where
  -- it is sound
  pub cabinet-sound : Sound n c → Sound n (cabinet_at n c bytes j)
  cabinet-sound s = items-sound (take j (items_of bytes)) s

  -- one number for each entry
  numbers-count : j ≤ entry_count bytes → length (numbers_at n c bytes j) ≡ j
  numbers-count h =
      length-map (item_answers n c (take j (items_of bytes))) answer_number
      ∙ length-item_answers n c (take j (items_of bytes))
      ∙ length-take-le j (items_of bytes) (omega (arith, items-count bytes))

  module _ (h : j < entry_count bytes) where
    -- the cabinet after entry j too
    cabinet-next : cabinet_at n c bytes (j + 1) ≡ item_step n (cabinet_at n c bytes j) (item_at bytes j)
    cabinet-next = ap (item_steps n c) (items-next bytes j h) ∙ steps_next n c (take j (items_of bytes)) (item_at bytes j)

    -- the numbers with that of entry j
    numbers-next : numbers_at n c bytes (j + 1) ≡ numbers_at n c bytes j ++ (answer_number (item_answer n (cabinet_at n c bytes j) (item_at bytes j)) ∷ [])
    numbers-next =
        ap (λ (items : List Item). map answer_number (item_answers n c items)) (items-next bytes j h)
        ∙ ap (map answer_number) (answers_next n c (take j (items_of bytes)) (item_at bytes j))
        ∙ map-append answer_number (item_answers n c (take j (items_of bytes))) (item_answer n (cabinet_at n c bytes j) (item_at bytes j) ∷ [])

-- ---- the loop

-- after the entries before entry j, from cabinet c and the lent answer bytes: where the next body begins, the tables, and the answer bytes
pub record Carried (n : ℕ) (c : Cabinet) (bytes lent : List ℕ) (j body : ℕ) (T : Tables) (answers : List ℕ) : Type 0 where
  pub within : j ≤ entry_count bytes
  pub body-at : body ≡ body_at bytes j
  pub tables : T ≡ encode n (cabinet_at n c bytes j)
  pub answered : answers ≡ numbers_at n c bytes j ++ drop j lent

-- before the first entry
pub carried_none : (n : ℕ) (T : Tables) (bytes lent : List ℕ) {body : ℕ} → Formed n T → body ≡ entry_at (entry_count bytes) → Carried n (decode T) bytes lent 0 body T lent
carried_none n T bytes lent g e =
    record {
      within = omega arith;
      body-at = e ∙ sym (body-first bytes);
      tables = sym (facts g).laid;
      answered = refl;
    }

module _ {n : ℕ} {c : Cabinet} {bytes lent : List ℕ} {j body : ℕ} {T : Tables} {answers : List ℕ} (k : Carried n c bytes lent j body T answers) where
  -- the tables are in form
  pub carried-faultless : Sound n c → Formed n T
  carried-faultless s =
      let s' = cabinet-sound n c bytes j s in
      subst (Formed n) (sym k.tables) (encode-formed s')

  -- the answer bytes are as many as were lent
  pub carried-length : entry_count bytes ≤ length lent → length answers ≡ length lent
  carried-length h =
      ap length k.answered
      ∙ length-append (numbers_at n c bytes j) (drop j lent)
      ∙ omega (arith, numbers-count n c bytes j k.within, length-drop j lent, k.within)

  -- one entry more
  pub carried-next : {count : ℕ} {i : Item} {a : Answer} {U : Tables} → j < entry_count bytes → entry_count bytes ≤ length lent → count ≡ count_of bytes j → i ≡ item_at bytes j → a ≡ item_answer n (cabinet_at n c bytes j) i → U ≡ encode n (item_step n (cabinet_at n c bytes j) i) → Carried n c bytes lent (j + 1) (body + 8 * count) U (set answers j (answer_number a))
  carried-next {count} {i} {a} {U} h l counted item answer-is tables-are =
      let numbers = numbers_at n c bytes j in
      let answer_at : item_answer n (cabinet_at n c bytes j) (item_at bytes j) ≡ a = sym (answer-is ∙ ap (item_answer n (cabinet_at n c bytes j)) item) in
      let number-last : numbers_at n c bytes (j + 1) ≡ numbers ++ (answer_number a ∷ []) = numbers-next n c bytes j h ∙ ap (λ (b : Answer). numbers ++ (answer_number b ∷ [])) answer_at in
      record {
        within = omega arith;
        body-at = omega (arith, k.body-at, counted, body-next bytes j);
        tables = tables-are ∙ ap (λ (x : Item). encode n (item_step n (cabinet_at n c bytes j) x)) item ∙ ap (encode n) (sym (cabinet-next n c bytes j h));
        answered =
            ap (λ (s : List ℕ). set s j (answer_number a)) (k.answered ∙ ap (numbers ++◌) (drop-cons lent j 0 (omega arith)))
            ∙ set_at numbers (get_or lent j 0) (drop (suc j) lent) (answer_number a) j (numbers-count n c bytes j k.within)
            ∙ sym (append_snoc numbers (answer_number a) (drop (suc j) lent))
            ∙ ap₂ ◌++◌ (sym number-last) (ap (λ (m : ℕ). drop m lent) (sym (add-one j)));
      }

  -- after the last entry
  module _ (h : entry_count bytes ≤ j) where
    all-entries : j ≡ entry_count bytes
    all-entries = omega (arith, k.within)

    -- the tables of the call
    pub carried-tables : T ≡ encode n (item_steps n c (items_of bytes))
    carried-tables = k.tables ∙ ap (λ (items : List Item). encode n (item_steps n c items)) (items-all bytes all-entries)

    -- its answer bytes
    pub carried-answers : answers ≡ map answer_number (item_answers n c (items_of bytes)) ++ drop (length (items_of bytes)) lent
    carried-answers =
        k.answered
        ∙ ap (λ (items : List Item). map answer_number (item_answers n c items) ++ drop j lent) (items-all bytes all-entries)
        ∙ ap (λ (m : ℕ). map answer_number (item_answers n c (items_of bytes)) ++ drop m lent) (all-entries ∙ sym (items-count bytes))
