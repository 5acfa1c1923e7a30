-- What carrying out the entries of a package requires and leaves.
use Rattle.std.specs.Prelude.{◌≡◌, true, List, ℕ, length}
use Rattle.model.specs.Answers.{Answer}
use Rattle.model.specs.Tables.{Tables}
use Rattle.model.specs.Form.{Formed}
use Rattle.model.specs.Package.{layout_fits}
use Rattle.model.specs.Calls.{package_reply, take_in_package}
use Rattle.tables.specs.Parts.{PartFormed}

-- what carrying out all entries requires
pub record EntriesReady (bytes answers : List ℕ) (part : Tables → Tables) : Type 0 where
  pub laid_out : layout_fits bytes ≡ true
  pub sized : length answers ≡ 512
  pub formed : PartFormed part

-- the answer bytes and the tables before and after: as the call on whole tables has them, whatever the others are
pub record EntriesTaken (bytes answers answers' : List ℕ) (before after : Tables → Tables) : Type 0 where
  pub taken : {n : ℕ} (T : Tables) → Formed n (before T) → package_reply Answer.Done (after T) answers' ≡ take_in_package n (before T) bytes answers
