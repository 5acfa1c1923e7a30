-- The book of held changes, the fresh run over it (document 01, "Demand 3 spelled out"), the items that give it (document 02, R-3), and what a cutoff takes out of it (document 02, R-7).
use Rattle.std.specs.Prelude.{Bool, true, false, cond, List, [], ◌∷◌, ◌++◌, map, ℕ, ◌<◌, eqb, ltb}
use Rattle.machine.specs.Settings.{Environment, after}
use Rattle.machine.specs.Instruction.{Code}
use Rattle.model.specs.History.{Lists, empty, run_lists, Change, change, History}
use Rattle.model.specs.Package.{Item, taking, withdrawing}

-- a change in the book: timestamp, program, withdrawn or not
pub data Booked : Type 0 where
  booked : ℕ → Code → Bool → Booked

-- by rising timestamp
abbrev pub Book : Type 0
Book = List Booked

-- enters its timestamp and program, not withdrawn
abbrev pub enter : ℕ → Code → Book → Book
enter t p [] = booked t p false ∷ []
enter t p (booked u q w ∷ book) = cond (ltb t u) (booked t p false ∷ booked u q w ∷ book) (booked u q w ∷ enter t p book)

-- marks that timestamp withdrawn
abbrev pub strike : ℕ → Book → Book
strike t [] = []
strike t (booked u q w ∷ book) = booked u q (cond (eqb u t) true w) ∷ strike t book

-- the book of what a history holds
abbrev pub booked_as : Change → Booked
booked_as (change t p s w l) = booked t p w

abbrev pub book_of : History → Book
book_of h = map booked_as h

-- ---- the fresh run

-- a withdrawn change is passed over, its lists are empty; any other is run on the settings as they then stand, by its own version (document 02, R-6: "The drained state is that of running each change by its own version")
abbrev pub fresh_lists : Booked → Environment → Lists
fresh_lists (booked t p true) env = empty
fresh_lists (booked t p false) env = run_lists env p

abbrev pub booked_at : Booked → ℕ
booked_at (booked t p w) = t

-- its writes are then carried into the settings
abbrev pub fresh_after : Booked → Environment → Environment
fresh_after b env = after (fresh_lists b env).writes env

-- the lists that the fresh run gives, by timestamp
abbrev pub fresh_run : Book → Environment → List (ℕ × Lists)
fresh_run [] env = []
fresh_run (b ∷ book) env = (booked_at b, fresh_lists b env) ∷ fresh_run book (fresh_after b env)

-- the settings at the fresh run's end
abbrev pub fresh_end : Book → Environment → Environment
fresh_end [] env = env
fresh_end (b ∷ book) env = fresh_end book (fresh_after b env)

-- the settings in the fresh run just before the change of a timestamp
abbrev pub fresh_before : ℕ → Book → Environment → Environment
fresh_before t [] env = env
fresh_before t (b ∷ book) env = cond (ltb (booked_at b) t) (fresh_before t book (fresh_after b env)) env

-- ---- a cutoff: "takes every change stamped below it out of the book too" (document 02, R-7)

-- the changes that it takes out, and those that stay
abbrev pub book_below : ℕ → Book → Book
book_below t [] = []
book_below t (b ∷ book) = cond (ltb (booked_at b) t) (b ∷ book_below t book) (book_below t book)

abbrev pub book_from : ℕ → Book → Book
book_from t [] = []
book_from t (b ∷ book) = cond (ltb (booked_at b) t) (book_from t book) (b ∷ book_from t book)

-- timestamps rise above a bound
abbrev pub RisingBook : ℕ → Book → Type 0
RisingBook a [] = Unit {0}
RisingBook a (b ∷ book) = (a < booked_at b) × RisingBook (booked_at b) book

-- ---- as items of a package

-- every change, a withdrawn one too, by rising timestamp
abbrev pub takings : Book → List Item
takings [] = []
takings (booked t p w ∷ book) = taking t p ∷ takings book

-- a withdrawal of each withdrawn change, by rising timestamp
abbrev pub withdrawals : Book → List Item
withdrawals [] = []
withdrawals (booked t p true ∷ book) = withdrawing t ∷ withdrawals book
withdrawals (booked t p false ∷ book) = withdrawals book

-- "Write all held changes by rising timestamp, then the withdrawals by rising timestamp" (document 02, R-3)
abbrev pub booked_items : Book → List Item
booked_items book = takings book ++ withdrawals book
