-- Take in and withdraw on tables that are refused.
use mathlib.Core.Path.{◌≡◌}
use mathlib.Core.List.{[]}
use Prim.Native.Nat.{ℕ}
use borrow.Author.Tests.{ne_eqb}
use Rattle.model.specs.Answers.{Answer}
use Rattle.model.specs.Tables.{Tables}
use Rattle.model.specs.Refusals.{fault_of}
use Rattle.model.specs.Package.{Item}
use Rattle.model.specs.Calls.{reply, item_call}
use Rattle.tables.proofs.Faults.{faulty}

pub item-fault : (n : ℕ) (T : Tables) (i : Item) {r : ℕ} → r ≡ fault_of n T → (r ≡ 0 → ⊥) → reply (Answer.Refused r) T ≡ item_call n T i
item-fault n T i e f = rw (faulty n T e [] f, ne_eqb _ 0 f)
