-- The call take in a package on tables, where every entry is carried out.
use mathlib.Core.Path.{◌≡◌, ap₂}
use mathlib.Core.Bool.{true}
use mathlib.Core.List.{List}
use Prim.Native.Nat.{ℕ, ◌≤◌}
use borrow.Author.Tests.{eq-eqb}
use lib.ListN.{length}
use Rattle.model.specs.Answers.{Answer}
use Rattle.model.specs.Tables.{Tables, decode}
use Rattle.model.specs.Form.{Formed}
use Rattle.model.specs.Package.{entry_count, layout_fits}
use Rattle.model.specs.Calls.{package_reply, take_in_package}
use Rattle.packages.proofs.Carried.{Carried, carried-tables, carried-answers}

pub package-done : (n : ℕ) (T : Tables) (bytes lent : List ℕ) → length lent ≡ 512 → {j body : ℕ} {U : Tables} {answers : List ℕ} → Formed n T → layout_fits bytes ≡ true → entry_count bytes ≤ j → Carried n (decode T) bytes lent j body U answers → package_reply Answer.Done U answers ≡ take_in_package n T bytes lent
unfolding take_in_package
package-done n T bytes lent sized g e h k = rw (eq-eqb _ 512 sized, g.sized, g.form, e) (ap₂ (package_reply Answer.Done) (carried-tables k h) (carried-answers k h))
