-- What running held changes gives, as a function of the lent lists.
use Rattle.std.specs.Prelude.{◌≡◌, true, cond, List, ℕ, zero, suc, ◌*◌, ◌<◌, ◌≤◌, eqb, ℤ, length, get_or}
use Rattle.machine.specs.Settings.{value_in, carry}
use Rattle.machine.specs.Instruction.{Code}
use Rattle.machine.specs.Form.{all_well_formed}
use Rattle.machine.specs.Run.{run}
use Rattle.model.specs.Tables.{program_in}
use Rattle.search.specs.Searches.{PlacesWithin}

-- a change run on some values, its writes carried into them; a withdrawn one is passed over. The program is that of its place
abbrev pub run_place : List ℕ → (ℕ → Code) → ℕ → List ℤ → List ℤ
run_place withdrawn program place values =
    cond (eqb (get_or withdrawn place 0) 0) (carry (run (value_in values) (program place)).writes values) values

-- the first changes of the order list, one after the other
unfoldable pub held_run : List ℕ → List ℕ → (ℕ → Code) → List ℤ → ℕ → List ℤ
held_run order withdrawn program values zero = values
held_run order withdrawn program values (suc k) =
    run_place withdrawn program (get_or order k 0) (held_run order withdrawn program values k)

-- the programs of the places below a limit have at most 32 instructions, well formed
pub record ProgramsWithin (limit : ℕ) (lengths programs : List ℕ) : Type 0 where
  pub sizes : limit ≤ length lengths
  pub blocks : 256 * limit ≤ length programs
  pub short : (i : ℕ) → i < limit → get_or lengths i 0 ≤ 32
  pub formed : (i : ℕ) → i < limit → all_well_formed (program_in lengths programs i) ≡ true

-- what the run of the first changes of the order list relies on: their places are below a limit of at most 4,096 and have flags, programs and versions
pub record HeldPrograms (count : ℕ) (order withdrawn lengths programs versions : List ℕ) : Type 0 where
  pub limit : ℕ
  pub small : limit ≤ 4096
  pub placed : PlacesWithin count order limit
  pub flags : limit ≤ length withdrawn
  pub programmed : ProgramsWithin limit lengths programs
  pub versioned : limit ≤ length versions
