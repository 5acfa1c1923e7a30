-- The cabinet: changes by place, the order list, the view, the cutoff and the kept values; what taking in, withdrawing and a cutoff do to it (document 01, "Tables", "Calls"; document 02, R-7).
use Rattle.std.specs.Prelude.{◌≡◌, true, false, cond, List, [], ◌∷◌, ◌++◌, map, ◌⊎◌, ℕ, eqb, ltb, ℤ, length, get_or, take, set}
use Rattle.std.proofs.Math.Option.{Option, none, some}
use Rattle.machine.specs.Settings.{Environment, value_in}
use Rattle.machine.specs.Instruction.{Code, code}
use Rattle.model.specs.History.{start, Status, New, Valid, Invalid, empty, Change, change, timestamp, History, as_of, all_settings}

-- changes in order of arrival, the places by rising timestamp, the current settings, the cutoff, and each setting's value as of it
pub record Cabinet : Type 0 where
  pub changes : List Change
  pub order : List ℕ
  pub view : List ℤ
  pub cutoff : ℕ
  pub kept : List ℤ

-- a place stands in a list of places
abbrev pub In : ℕ → List ℕ → Type 0
In i [] = ⊥
In i (j ∷ places) = (i ≡ j) ⊎ In i places

-- nothing held, every setting at its start; "the cutoff, 0 at set-up, and 1,024 kept values, at set-up the start values" (document 02, R-7)
abbrev pub empty_cabinet : Cabinet
empty_cabinet = record { changes = []; order = []; view = all_settings start; cutoff = 0; kept = all_settings start }

-- what runs and values as of a timestamp begin from: "Any other fresh run, the plain run and a value as of a time before any write then begin from the kept values" (document 02, R-7)
abbrev pub kept_values_in : Cabinet → Environment
kept_values_in c = value_in c.kept

-- what stands at a place that is not held
abbrev pub blank : Change
blank = change 0 (code 0 []) New false empty

-- the changes at some places, in the places' order
abbrev pub changes_at : List Change → List ℕ → List Change
changes_at changes [] = []
changes_at changes (i ∷ places) = get_or changes i blank ∷ changes_at changes places

-- the changes by rising timestamp
abbrev pub history_of : Cabinet → History
history_of c = changes_at c.changes c.order

-- changes put at some places
abbrev pub put_at : List ℕ → List Change → List Change → List Change
put_at [] new changes = changes
put_at (i ∷ places) [] changes = changes
put_at (i ∷ places) (c ∷ new) changes = put_at places new (set changes i c)

-- the cabinet with another history of the same places, and another view
abbrev pub with_history : Cabinet → History → List ℤ → Cabinet
with_history c h view = record { changes = put_at c.order h c.changes; order = c.order; view = view; cutoff = c.cutoff; kept = c.kept }

-- the held change of a timestamp
abbrev pub find : ℕ → History → Option Change
find t [] = none
find t (c ∷ h) = cond (eqb (timestamp c) t) (some c) (find t h)

-- a place entered into the order list, below the first change stamped above t
abbrev pub enter_place : List Change → ℕ → ℕ → List ℕ → List ℕ
enter_place changes t place [] = place ∷ []
enter_place changes t place (i ∷ order) =
    cond (ltb t (timestamp (get_or changes i blank))) (place ∷ i ∷ order) (i ∷ enter_place changes t place order)

-- take in: the next place, New, not withdrawn, lists empty
abbrev pub add : ℕ → Code → Cabinet → Cabinet
add t p c =
    record {
      changes = c.changes ++ (change t p New false empty ∷ []);
      order = enter_place c.changes t (length c.changes) c.order;
      view = c.view;
      cutoff = c.cutoff;
      kept = c.kept;
    }

-- withdraw: sets the flag; Valid becomes Invalid
abbrev pub unsettled : Status → Status
unsettled New = New
unsettled Valid = Invalid
unsettled Invalid = Invalid

abbrev pub flag : Change → Change
flag (change t p s w l) = change t p (unsettled s) true l

abbrev pub remove : ℕ → Cabinet → Cabinet
remove t c = with_history c (map (λ u. cond (eqb (timestamp u) t) (flag u) u) (history_of c)) c.view

-- ---- a cutoff (document 02, R-7; source document 004, section 4.3)

-- "drops every change stamped below it"; "Remaining changes close up in order of arrival"
abbrev pub remaining : ℕ → List Change → List Change
remaining t [] = []
remaining t (c ∷ changes) = cond (ltb (timestamp c) t) (remaining t changes) (c ∷ remaining t changes)

-- the place that a change closes up to: as many as remain before it
abbrev pub closed_to : ℕ → List Change → ℕ → ℕ
closed_to t changes i = length (remaining t (take i changes))

-- the order list of the changes that remain, by their places then
abbrev pub renumbered : ℕ → List Change → List ℕ → List ℕ
renumbered t changes [] = []
renumbered t changes (i ∷ order) =
    cond (ltb (timestamp (get_or changes i blank)) t) (renumbered t changes order) (closed_to t changes i ∷ renumbered t changes order)

-- "keeps each setting's value as of it": Value-Upto(x, T0) of section 4.3. The view stays
abbrev pub cut_at : ℕ → Cabinet → Cabinet
cut_at t c =
    record {
      changes = remaining t c.changes;
      order = renumbered t c.changes c.order;
      view = c.view;
      cutoff = t;
      kept = all_settings (as_of t (history_of c) (kept_values_in c));
    }
