-- How many items a package has, and how long one is.
use mathlib.Core.Path.{◌≡◌, refl, ◌∙◌}
use mathlib.Core.List.{List, [], ◌∷◌, ◌++◌}
use Prim.Native.Nat.{ℕ, ◌+◌, ◌*◌}
use native.Mathlib.Omega.{arith}
use lib.ListN.{length, length-append}
use Rattle.model.specs.Package.{Item, taking, withdrawing, entry_count, item_at, items_of, item_entry, item_body, joined, number_bytes, package_of}
use Rattle.general.proofs.Tabulate.{length-tabulate}

-- as many items as there are entries
pub items-count : (bytes : List ℕ) → length (items_of bytes) ≡ entry_count bytes
unfolding items_of
items-count bytes = length-tabulate (entry_count bytes) (item_at bytes)

-- an entry has 12 bytes
length-entry : (i : Item) → length (item_entry i) ≡ 12
length-entry (taking t p) = refl
length-entry (withdrawing t) = refl

pub length-entries : (items : List Item) → length (joined item_entry items) ≡ 12 * length items
length-entries [] = refl
length-entries (i ∷ items) = length-append (item_entry i) (joined item_entry items) ∙ omega (arith, length-entry i, length-entries items)

-- a package: the number of entries, 12 bytes for each entry, the bodies
pub length-package : (items : List Item) → length (package_of items) ≡ 2 + 12 * length items + length (joined item_body items)
unfolding package_of
length-package items =
    length-append (number_bytes 2 (length items) ++ joined item_entry items) (joined item_body items)
    ∙ omega (arith, length-append (number_bytes 2 (length items)) (joined item_entry items), length-entries items)
