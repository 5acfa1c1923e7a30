-- Tables with other statuses, and nothing else.
use mathlib.Core.Path.{◌≡◌, refl, sym, ap, ap₂, ◌∙◌}
use mathlib.Core.Bool.{Bool}
use mathlib.Core.List.{List, [], ◌∷◌, ◌++◌, map}
use Prim.Native.Nat.{ℕ, ◌/◌}
use lib.IntN.{pos}
use lib.ListN.{length, get_or, set, take, drop, take-append-drop}
use lib.Seq.{map-set_same}
use Rattle.general.proofs.Cases.{impossible}
use Rattle.machine.specs.Instruction.{Code}
use Rattle.model.specs.History.{New, Lists, Change, change, timestamp, program, status, withdrawn, lists, History}
use Rattle.model.specs.Figure.{mark_update}
use Rattle.model.specs.Walk.{mark_live, close}
use Rattle.model.specs.Cabinet.{Cabinet, blank, changes_at, history_of, put_at, with_history}
use Rattle.model.specs.Tables.{flag_number, pad, settings_of, values_of, Tables, tables, encode}
use Rattle.model.specs.Sound.{AllDistinct, Placed}
use Rattle.model.proofs.Blocks.{blocks-same}
use Rattle.model.proofs.Cabinet.{length-put_at, changes_at-other}

abbrev pub with_status : Tables → List ℕ → Tables
with_status T status = tables T.held T.timestamps T.order status T.withdrawn T.lengths T.programs T.reads T.writes T.sources T.seen T.targets T.written T.view T.versions T.cutoff T.kept

-- a change without its status
abbrev pub unstated : Change → Change
unstated (change t p s w l) = change t p New w l

-- the same changes, with any statuses
abbrev pub Restated : List Change → List Change → Type 0
Restated h h' = map unstated h' ≡ map unstated h

-- ---- a history put at some places

put-restated : (places : List ℕ) (h : History) (changes : List Change) → AllDistinct places → Restated (changes_at changes places) h → Restated changes (put_at places h changes)
put-restated [] h changes d e = refl
put-restated (i ∷ places) [] changes d e = refl
put-restated (i ∷ places) (c ∷ h) changes d e =
    let here : unstated c ≡ unstated (get_or changes i blank) = cc in
    let rest : map unstated h ≡ map unstated (changes_at changes places) = cc in
    put-restated places h (set changes i c) d.1 (rest ∙ ap (map unstated) (sym (changes_at-other changes i c places d.0)))
    ∙ map-set_same unstated changes i c blank here

-- ---- the columns

-- a field of a change that does not tell the status
abbrev pub field_of : {B : Type 0} → (ℕ → Code → Bool → Lists → B) → Change → B
field_of g d = g (timestamp d) (program d) (withdrawn d) (lists d)

field-same : {B : Type 0} (g : ℕ → Code → Bool → Lists → B) (c d : Change) → unstated c ≡ unstated d → field_of g c ≡ field_of g d
field-same g c d e = unstate c ∙ ap (field_of g) e ∙ sym (unstate d)
  where
    unstate : (c : Change) → field_of g c ≡ field_of g (unstated c)
    unstate (change t p s w l) = refl

pub fields-same : {B : Type 0} (g : ℕ → Code → Bool → Lists → B) (a b : List Change) → Restated b a → map (field_of g) a ≡ map (field_of g) b
fields-same g [] [] e = refl
fields-same g [] (d ∷ b) e = impossible (cc)
fields-same g (c ∷ a) [] e = impossible (cc)
fields-same g (c ∷ a) (d ∷ b) e =
    let here : unstated c ≡ unstated d = cc in
    let rest : map unstated a ≡ map unstated b = cc in
    ap₂ ◌∷◌ (field-same g c d here) (fields-same g a b rest)

-- ---- the tables

module _ (n : ℕ) (c : Cabinet) (s : Placed c) (h : History) (r : Restated (history_of c) h) where
  abbrev changes : List Change
  changes = put_at c.order h c.changes

  map_same : {B : Type 0} (g : ℕ → Code → Bool → Lists → B) → map (field_of g) changes ≡ map (field_of g) c.changes
  map_same g = fields-same g changes c.changes (put-restated c.order h c.changes s.distinct r)

  pub restated : encode n (with_history c h c.view) ≡ with_status (encode n c) (encode n (with_history c h c.view)).status
  unfolding encode
  restated =
      let held = ap (◌∷ []) (length-put_at c.order h c.changes) in
      let timestamps = ap (pad n 0) (map_same (λ t p w l. t)) in
      let withdrawn = ap (pad n 0) (map_same (λ t p w l. flag_number w)) in
      let lengths = ap (pad n 0) (map_same (λ t p w l. length p.bytes / 8)) in
      let programs = blocks-same n 256 0 (λ d. (program d).bytes) changes c.changes (map_same (λ t p w l. p.bytes)) in
      let reads = ap (pad n 0) (map_same (λ t p w l. length l.reads)) in
      let writes = ap (pad n 0) (map_same (λ t p w l. length l.writes)) in
      let sources = blocks-same n 32 0 (λ d. settings_of (lists d).reads) changes c.changes (map_same (λ t p w l. settings_of l.reads)) in
      let seen = blocks-same n 32 (pos 0) (λ d. values_of (lists d).reads) changes c.changes (map_same (λ t p w l. values_of l.reads)) in
      let targets = blocks-same n 32 0 (λ d. settings_of (lists d).writes) changes c.changes (map_same (λ t p w l. settings_of l.writes)) in
      let written = blocks-same n 32 (pos 0) (λ d. values_of (lists d).writes) changes c.changes (map_same (λ t p w l. values_of l.writes)) in
      let versions = ap (pad n 0) (map_same (λ t p w l. p.version)) in
      λ j.
      tables (held j) (timestamps j) (encode n c).order (encode n (with_history c h c.view)).status (withdrawn j) (lengths j) (programs j) (reads j) (writes j) (sources j) (seen j) (targets j) (written j) c.view (versions j) (encode n c).cutoff c.kept

-- ---- marking

mark-unstated : (b : Bool) (c : Change) → unstated (mark_update b c) ≡ unstated c
mark-unstated b (change t p s w l) = refl

marks-restated : (f : ℕ → Bool) (h : History) → Restated h (mark_live f h)
marks-restated f [] = refl
marks-restated f (c ∷ h) = ap₂ ◌∷◌ (mark-unstated _ c) (marks-restated (close f (lists c)) h)

-- the later changes marked
abbrev pub marked_after : ℕ → (ℕ → Bool) → History → History
marked_after k f h = take k h ++ mark_live f (drop k h)

pub marked-restated : (k : ℕ) (f : ℕ → Bool) (h : History) → Restated h (marked_after k f h)
marked-restated k f h = go (take k h) (drop k h) (mark_live f (drop k h)) (marks-restated f (drop k h)) ∙ ap (map unstated) (take-append-drop k h)
  where
    go : (a b b' : History) → Restated b b' → Restated (a ++ b) (a ++ b')
    go [] b b' e = e
    go (c ∷ a) b b' e = ap (unstated c ∷◌) (go a b b' e)
