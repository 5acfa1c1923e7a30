-- R-3 over cabinets: what package out writes, and a cabinet filled with it (document 02, R-3).
use Rattle.std.specs.Prelude.{◌≡◌, true, List, ◌++◌, ℕ, ◌≤◌, length, take, drop, replicate}
use Rattle.model.specs.Answers.{Done, Length}
use Rattle.model.specs.Cabinet.{history_of}
use Rattle.model.specs.Tables.{Tables, decode}
use Rattle.model.specs.Form.{lengths_fit}
use Rattle.model.specs.Package.{entry_count, layout_fits, items_of}
use Rattle.model.specs.Calls.{set_up, PackageReply, take_in_package, drain, held_items_of, package_out}
use Rattle.model.specs.Log.{Call, package_call, Ledger, begun, after_call, after_calls}
use Rattle.theory.specs.Totals.{DrainAnswered}

-- "In these requests a cabinet means tables reached from set-up by the calls."
abbrev pub cabinet_of : ℕ → Tables → List Call → Ledger
cabinet_of n T calls = after_calls n calls (begun (set_up n T).tables)

-- the package that is written into a slice, where its length is answered
abbrev pub written_of : ℕ → Tables → List ℕ → ℕ → List ℕ
written_of n T bytes size = take size (package_out n T bytes).bytes

-- of any tables, where a length is answered
pub record ReadsBack (n : ℕ) (T : Tables) (bytes : List ℕ) (size : ℕ) : Type 0 where
  -- "as one package": it passes the layout test
  pub layout : layout_fits (written_of n T bytes size) ≡ true
  -- "all held changes by rising timestamp, then the withdrawals by rising timestamp" are what it holds
  pub items : items_of (written_of n T bytes size) ≡ held_items_of T
  -- "The written length is returned and later bytes of the lent slice keep their contents."
  pub counted : length (written_of n T bytes size) ≡ size
  pub later : drop size (package_out n T bytes).bytes ≡ drop size bytes

-- "Cabinets that hold the same changes and withdrawn marks write the same bytes if neither is refused", whatever their capacities, their slices, the order of arrival and the statuses
abbrev pub SamePackage : ℕ → Ledger → ℕ → Ledger → Type 0
SamePackage n k n' k' =
    k.book ≡ k'.book
    → (bytes bytes' : List ℕ) (size size' : ℕ)
    → (package_out n k.tables bytes).answer ≡ Length size
    → (package_out n' k'.tables bytes').answer ≡ Length size'
    → (size ≡ size') × (written_of n k.tables bytes size ≡ written_of n' k'.tables bytes' size')

-- a package taken into tables just set up
abbrev pub taken_into : ℕ → Tables → List ℕ → List ℕ → PackageReply
taken_into n U written answers = take_in_package n (set_up n U).tables written answers

-- "A package so written, taken into empty tables with enough capacity and drained, gives the neighbour's drained state by timestamp."
pub record FilledWith (n : ℕ) (k : Ledger) (n' : ℕ) (U : Tables) (written answers : List ℕ) : Type 0 where
  -- the package is answered done, and so is every entry
  pub done : (taken_into n' U written answers).answer ≡ Done
  pub each-done : (taken_into n' U written answers).answers ≡ replicate (entry_count written) 0 ++ drop (entry_count written) answers
  -- the two cabinets hold the same changes and withdrawn marks
  pub same-book : (after_call n' (package_call written answers) (begun (set_up n' U).tables)).book ≡ k.book
  -- each drain is answered
  pub drained : DrainAnswered n' (taken_into n' U written answers).tables
  pub neighbour-drained : DrainAnswered n k.tables
  -- after them both have the same changes by rising timestamp: program with its version, status, withdrawn or not, read list, seen values, write list
  pub changes : history_of (decode (drain n' (taken_into n' U written answers).tables).tables) ≡ history_of (decode (drain n k.tables).tables)
  -- and the same value of every setting
  pub view : (drain n' (taken_into n' U written answers).tables).tables.view ≡ (drain n k.tables).tables.view

-- "filling an empty cabinet holds only where both cabinets have cutoff 0" (document 02, R-7): the empty one has it, just set up, and the neighbour's is a premise. For any capacity that holds the neighbour's changes, tables with any contents that are then set up, and any answer slice of 512
abbrev pub Filled : ℕ → Ledger → Type 0
Filled n k =
    k.cutoff ≡ 0
    → (bytes : List ℕ) (size : ℕ)
    → (package_out n k.tables bytes).answer ≡ Length size
    → (n' : ℕ) (U : Tables) (answers : List ℕ)
    → lengths_fit n' U ≡ true
    → length k.book ≤ n'
    → length answers ≡ 512
    → FilledWith n k n' U (written_of n k.tables bytes size) answers
