-- The items of a package, one for each entry.
use mathlib.Core.Path.{◌≡◌, ap, ◌∙◌}
use mathlib.Core.List.{List, [], ◌∷◌, ◌++◌}
use Prim.Native.Nat.{ℕ, ◌+◌, ◌-◌, ◌*◌, ◌<◌}
use native.Mathlib.Numerals.{add-one}
use native.Mathlib.Omega.{arith}
use borrow.Author.Tests.{eq-eqb, ne_eqb}
use lib.ListN.{take, drop}
use lib.Seq.{take_all, take-suc}
use Rattle.machine.specs.Instruction.{code}
use Rattle.model.specs.Package.{Item, taking, withdrawing, entry_count, stamp_of, kind_of, count_of, version_of, body_at, item_at, items_of}
use Rattle.general.proofs.Tabulate.{get_d_tabulate}
use Rattle.model.proofs.Packing.{items-count}

module _ (bytes : List ℕ) where
  -- those of all entries
  pub items-all : {j : ℕ} → j ≡ entry_count bytes → take j (items_of bytes) ≡ items_of bytes
  items-all {j} e = take_all j (items_of bytes) (omega (arith, items-count bytes))

  -- that of entry j, after those before it
  pub items-next : (j : ℕ) → j < entry_count bytes → take (j + 1) (items_of bytes) ≡ take j (items_of bytes) ++ (item_at bytes j ∷ [])
  unfolding items_of
  items-next j h =
      rw add-one
      (take-suc (items_of bytes) j (withdrawing 0) (omega (arith, items-count bytes))
      ∙ ap (λ (i : Item). take j (items_of bytes) ++ (i ∷ [])) (get_d_tabulate (entry_count bytes) (item_at bytes) j (withdrawing 0) h))

  -- ---- the item of an entry, by its parts as the code has them

  module _ (j : ℕ) {t : ℕ} (stamped : t ≡ stamp_of bytes j) where
    -- of kind 0: the body is taken in
    pub item-taking : {body count version : ℕ} → kind_of bytes j ≡ 0 → body ≡ body_at bytes j → count ≡ count_of bytes j → version ≡ version_of bytes j → taking t (code version (take (body + 8 * count - body) (drop body bytes))) ≡ item_at bytes j
    item-taking {body} {count} k b n v =
        let size : body + 8 * count - body ≡ 8 * count = omega arith in
        rw (eq-eqb (kind_of bytes j) 0 k, size, stamped, n, b, v)

    -- of another kind: the timestamp is withdrawn
    pub item-withdrawing : (kind_of bytes j ≡ 0 → ⊥) → withdrawing t ≡ item_at bytes j
    item-withdrawing k = rw (ne_eqb (kind_of bytes j) 0 k, stamped)
