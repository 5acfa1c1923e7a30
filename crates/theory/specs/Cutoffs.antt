-- R-7: what a cutoff leaves (document 02, R-7; source document 004, section 4.3).
use Rattle.std.specs.Prelude.{◌≡◌, List, [], ◌∷◌, ◌++◌, ℕ, length, drop}
use Rattle.model.specs.Answers.{Done}
use Rattle.model.specs.Cabinet.{history_of}
use Rattle.model.specs.Tables.{Tables, cutoff_in, decode}
use Rattle.model.specs.Calls.{reply, drain, raise_cutoff}
use Rattle.model.specs.Log.{Call, take_in_call, package_call, withdraw_call, turn_call, drain_call, cutoff_call, Ledger}
use Rattle.theory.specs.Packages.{cabinet_of}

-- no call of a list is a cutoff
abbrev pub NoCutoff : List Call → Type 0
NoCutoff [] = Unit {0}
NoCutoff (take_in_call t p ∷ calls) = NoCutoff calls
NoCutoff (package_call bytes answers ∷ calls) = NoCutoff calls
NoCutoff (withdraw_call t ∷ calls) = NoCutoff calls
NoCutoff (turn_call ∷ calls) = NoCutoff calls
NoCutoff (drain_call lent ∷ calls) = NoCutoff calls
NoCutoff (cutoff_call t ∷ calls) = ⊥

-- "When all sites agree that nothing older will be issued": dropping then loses nothing. A cabinet k, with cutoffs, and a cabinet k' that never dropped a change and holds all that k holds or has dropped, whatever their capacities, the order of arrival and the statuses
pub record LosesNothing (n : ℕ) (k : Ledger) (n' : ℕ) (k' : Ledger) : Type 0 where
  -- drained, both show the same value of every setting
  pub same_view : (drain n k.tables).tables.view ≡ (drain n' k'.tables).tables.view
  -- and what k still holds stands in k' alike, above what k has dropped: timestamp, program with its version, status, withdrawn or not, read list, seen values, write list
  pub same-changes : history_of (decode (drain n k.tables).tables) ≡ drop (length k.dropped) (history_of (decode (drain n' k'.tables).tables))

abbrev pub NothingLost : ℕ → Ledger → ℕ → Ledger → Type 0
NothingLost n k n' k' = k'.dropped ≡ [] → k'.book ≡ k.dropped ++ k.book → LosesNothing n k n' k'

-- such a cabinet is there for every capacity that holds all, reached by calls of which none is a cutoff
pub record NeverDropping (k : Ledger) (n' : ℕ) (U : Tables) : Type 0 where
  pub calls : List Call
  pub no-cutoff : NoCutoff calls
  pub nothing-dropped : (cabinet_of n' U calls).dropped ≡ []
  pub all_held : (cabinet_of n' U calls).book ≡ k.dropped ++ k.book

-- "a timestamp equal to the cutoff is not below it": the cutoff that there is, set again on tables in form, is done and alters nothing
abbrev pub SameAgain : ℕ → Tables → Type 0
SameAgain n T = ¬ (cutoff_in T ≡ 0) → raise_cutoff n T (cutoff_in T) ≡ reply Done T
