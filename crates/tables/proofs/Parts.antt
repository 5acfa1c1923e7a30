-- A taking in or a withdrawal on tables in form, by its answer.
use mathlib.Core.Path.{◌≡◌, ap, ap₂, ◌∙◌}
use Prim.Native.Nat.{ℕ}
use Rattle.model.specs.Answers.{Answer}
use Rattle.model.specs.Tables.{Tables, encode, decode}
use Rattle.model.specs.Form.{Formed}
use Rattle.model.specs.Package.{Item}
use Rattle.model.specs.Calls.{reply, item_answer, item_done, if_done, item_call}

-- the answer is the definition's, and the tables are those of what is done where it is done, else as they were
pub item-replied : {n : ℕ} {T U : Tables} (i : Item) {a : Answer} → Formed n T → a ≡ item_answer n (decode T) i → U ≡ if_done a (encode n (item_done (decode T) i)) T → reply a U ≡ item_call n T i
item-replied {n} {T} i g e l =
    rw (g.sized, g.form) (ap₂ reply e (l ∙ ap (λ (b : Answer). if_done b (encode n (item_done (decode T) i)) T) e))
