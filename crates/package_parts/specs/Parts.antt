-- What is put of the first changes of the order list, part by part, as functions of the lent lists.
use Rattle.std.specs.Prelude.{List, ℕ, zero, suc, ◌+◌, ◌≤◌, get_or}
use Rattle.model.specs.Tables.{program_in}
use Rattle.model.specs.Package.{entry_bytes}
use Rattle.package_entries.specs.Entries.{withdrawal_bytes}

-- each number of a column is at most a limit
pub record AtMost (limit : ℕ) (column : List ℕ) : Type 0 where
  pub each : (i : ℕ) → get_or column i 0 ≤ limit

-- the sum of a column over their places
unfoldable pub total_of : List ℕ → List ℕ → ℕ → ℕ
total_of order column zero = 0
total_of order column (suc k) = total_of order column k + get_or column (get_or order k 0) 0

-- the entry of the change at a position
abbrev pub change_entry : List ℕ → List ℕ → List ℕ → List ℕ → ℕ → List ℕ
change_entry order timestamps lengths versions k =
    let place = get_or order k 0 in
    entry_bytes (get_or timestamps place 0) 0 (get_or lengths place 0) (get_or versions place 0)

-- that of its withdrawal; none where its flag is 0
abbrev pub withdrawal_entry : List ℕ → List ℕ → List ℕ → ℕ → List ℕ
withdrawal_entry order timestamps withdrawn k =
    let place = get_or order k 0 in
    withdrawal_bytes (get_or withdrawn place 0) (get_or timestamps place 0)

-- the body of the change at a position
abbrev pub body_in : List ℕ → List ℕ → List ℕ → ℕ → List ℕ
body_in order lengths programs k = program_in lengths programs (get_or order k 0)
