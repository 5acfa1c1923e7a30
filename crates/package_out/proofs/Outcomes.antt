-- Package out on tables: refused for the tables, or what is put of tables in form.
use mathlib.Core.Path.{◌≡◌}
use mathlib.Core.List.{List, [], ◌∷◌}
use Prim.Native.Nat.{ℕ}
use borrow.Author.Tests.{ne_eqb}
use lib.ListN.{length}
use Rattle.model.specs.Answers.{Packed}
use Rattle.model.specs.Tables.{Tables, held_count}
use Rattle.model.specs.Form.{Formed}
use Rattle.model.specs.Refusals.{no_room, fault_of}
use Rattle.model.specs.Package.{package_of}
use Rattle.model.specs.Calls.{packed_reply, held_items_of, package_out}
use Rattle.packing.specs.Packing.{packed_in}
use Rattle.packing.proofs.Model.{entries-are, package-is}
use Rattle.tables.proofs.Faults.{faulty, formed-first}

module _ (n : ℕ) (T : Tables) (bytes : List ℕ) where
  pub out-fault : {r : ℕ} → r ≡ fault_of n T → (r ≡ 0 → ⊥) → packed_reply (Packed.Refused r) bytes ≡ package_out n T bytes
  unfolding package_out
  out-fault e f = rw (faulty n T e (no_room (length (held_items_of T)) (length (package_of (held_items_of T))) (length bytes) ∷ []) f, ne_eqb _ 0 f)

  pub out-formed : {k : ℕ} → Formed n T → k ≡ held_count T → packed_in T.order T.timestamps T.withdrawn T.lengths T.programs T.versions k bytes ≡ package_out n T bytes
  unfolding package_out packed_in
  out-formed g e = rw (formed-first g (no_room (length (held_items_of T)) (length (package_of (held_items_of T))) (length bytes) ∷ []), e, entries-are g, package-is g)
