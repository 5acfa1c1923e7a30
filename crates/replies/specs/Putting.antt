-- What the functions that put a reply ask and give.
use Rattle.std.specs.Prelude.{◌≡◌, true, List, ℕ, ◌+◌, ◌≤◌, ℤ}
use Rattle.text.specs.Pieces.{Put}
use Rattle.model.specs.Tables.{Tables}
use Rattle.model.specs.Form.{Formed}
use Rattle.model.specs.Package.{layout_fits}
use Rattle.model.specs.Calls.{drain}
use Rattle.model.specs.Log.{drain_turns}
use Rattle.replies.specs.Replies.{capacity, turn_lines}

-- an answered package is laid out as one, and the tables after it are in form
pub record Answered (bytes : List ℕ) (T : Tables) : Type 0 where
  pub layout : layout_fits bytes ≡ true
  pub formed : Formed capacity T

-- the turns of a drain of T are put as lines, in at most 8,192 bytes, and the view is the one after it
pub record TurnsPut (T : Tables) (at : ℕ) (before after : List ℕ) (view : List ℤ) (end : ℕ) : Type 0 where
  pub put : Put at (turn_lines (drain_turns capacity T)) before after end
  pub short : end ≤ at + 8192
  pub left : view ≡ (drain capacity T).tables.view
