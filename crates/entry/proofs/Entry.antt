-- One entry of a package, carried out on the part of the tables that items alter.
use mathlib.Core.Path.{◌≡◌, ap, ◌∙◌}
use mathlib.Core.List.{List}
use Prim.Native.Nat.{ℕ, ◌+◌, ◌*◌, ◌≤◌}
use native.Mathlib.Omega.{arith}
use lib.ListN.{length}
use Rattle.model.specs.Answers.{Answer}
use Rattle.model.specs.Tables.{Tables}
use Rattle.model.specs.Package.{Item, entry_at, count_of}
use Rattle.model.specs.Calls.{item_call}
use Rattle.tables.specs.Parts.{PartFormed, ItemAnswered}
use Rattle.packages.proofs.Entries.{laid_out, entry-within, body-within}
use Rattle.entry.specs.Entry.{EntryReady}

-- it is within the bytes, and so is its body
module _ {j body : ℕ} {bytes : List ℕ} {part : Tables → Tables} (r : EntryReady bytes j body part) where
  pub bytes-short : length bytes ≤ 65535
  bytes-short = (laid_out bytes r.laid_out).short

  pub entry-inside : entry_at j + 12 ≤ length bytes
  entry-inside = entry-within bytes (laid_out bytes r.laid_out) j r.within

  pub body-inside : {count : ℕ} → count ≡ count_of bytes j → body + 8 * count ≤ length bytes
  body-inside e = omega (arith, r.begins, body-within bytes (laid_out bytes r.laid_out) j r.within)

-- fewer of the tables, and an item on them
pub formed-on : {part : Tables → Tables} (more : Tables → Tables) → PartFormed (λ T. part (more T)) → PartFormed part
formed-on more f = record { capacity = f.capacity; others = more f.others; formed = f.formed }

pub answered-on : {before after : Tables → Tables} {i : Item} {a : Answer} (more : Tables → Tables) (j : Item) → ItemAnswered before after i a → i ≡ j → ItemAnswered (λ T. before (more T)) (λ T. after (more T)) j a
answered-on {before} more j k e = record { answered = λ {n} T g. k.answered (more T) g ∙ ap (item_call n (before (more T))) e }
