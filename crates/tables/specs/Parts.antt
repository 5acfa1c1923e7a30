-- Part of the tables, lent without the others: a function from whole tables, of which it keeps the others, to whole tables with that part.
use Rattle.std.specs.Prelude.{◌≡◌, ℕ}
use Rattle.model.specs.Answers.{Answer}
use Rattle.model.specs.Tables.{Tables}
use Rattle.model.specs.Form.{Formed}
use Rattle.model.specs.Package.{Item}
use Rattle.model.specs.Calls.{reply, item_call}

-- with some others it makes tables of the right lengths, in form
pub record PartFormed (part : Tables → Tables) : Type 0 where
  pub capacity : ℕ
  pub others : Tables
  pub formed : Formed capacity (part others)

-- a taking in or a withdrawal on it, answered a: as its call on whole tables has it, whatever the others are
pub record ItemAnswered (before after : Tables → Tables) (i : Item) (a : Answer) : Type 0 where
  pub answered : {n : ℕ} (T : Tables) → Formed n (before T) → reply a (after T) ≡ item_call n (before T) i
