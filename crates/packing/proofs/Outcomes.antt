-- The package of the held changes by outcome: refused, or put.
use mathlib.Core.Path.{◌≡◌, sym, ap, ap₂, ◌∙◌}
use mathlib.Core.Bool.{true, false, ◌&&◌, and_assoc, and-true}
use mathlib.Core.List.{List, ◌++◌}
use Prim.Native.Nat.{ℕ, ◌+◌, ◌*◌, ◌≤◌}
use native.Mathlib.Omega.{arith}
use borrow.Author.Tests.{leb-true}
use lib.Dec.{leb}
use lib.ListN.{length, drop, length-append}
use Rattle.general.proofs.Cases.{both}
use Rattle.text.specs.Pieces.{with_piece, Put, pieces_below}
use Rattle.text.proofs.Pieces.{put_as, put_then}
use Rattle.model.specs.Answers.{Packed}
use Rattle.model.specs.Package.{number_bytes}
use Rattle.model.specs.Calls.{packed_reply}
use Rattle.package_parts.specs.Parts.{total_of, change_entry, withdrawal_entry, body_in}
use Rattle.packing.specs.Packing.{entries_in, package_in, packed_in}
use Rattle.packing.specs.Lent.{HeldParts}
use Rattle.package_parts.proofs.Totals.{total-small}
use Rattle.package_parts.proofs.Lengths.{changes-length, withdrawals-length, bodies-length}

module _ {count : ℕ} {order timestamps withdrawn lengths programs versions : List ℕ} (h : HeldParts count order timestamps withdrawn lengths programs versions) where
  -- the limits of the sums
  pub few-flags : total_of order withdrawn count ≤ 65535 * count
  few-flags = total-small order withdrawn (λ i. omega (arith, h.flag.each i)) count

  pub few-instructions : total_of order lengths count ≤ 65535 * count
  few-instructions = total-small order lengths (λ i. omega (arith, h.short.each i)) count

  -- the length of the package
  pub package-length : length (package_in order timestamps withdrawn lengths programs versions count) ≡ 2 + 12 * entries_in order withdrawn count + 8 * total_of order lengths count
  unfolding package_in
  package-length =
      let number = number_bytes 2 (entries_in order withdrawn count) in
      let changes = pieces_below count (change_entry order timestamps lengths versions) in
      let withdrawals = pieces_below count (withdrawal_entry order timestamps withdrawn) in
      let bodies = pieces_below count (body_in order lengths programs) in
      omega (
        arith,
        length-append (number ++ changes ++ withdrawals) bodies,
        length-append (number ++ changes) withdrawals,
        length-append number changes,
        changes-length order timestamps lengths versions count,
        withdrawals-length order timestamps withdrawn h.flag count,
        bodies-length order lengths programs h.short (h.blocks ∙ ap (256 *◌) (sym h.sizes)) count (rw h.sizes h.placed) count (omega arith),
      )

  module _ (bytes : List ℕ) {entries size : ℕ} (e : entries ≡ entries_in order withdrawn count) (s : size ≡ length (package_in order timestamps withdrawn lengths programs versions count)) where
    pub packed-refused : (leb entries 512 && leb size 65535 && leb size (length bytes)) ≡ false → packed_reply (Packed.Refused 12) bytes ≡ packed_in order timestamps withdrawn lengths programs versions count bytes
    unfolding packed_in
    packed-refused q = rw (← e, ← s, and-true (leb size (length bytes)), ← and_assoc (leb entries 512) (leb size 65535) (leb size (length bytes)), q)

    module _ (q : (leb entries 512 && leb size 65535 && leb size (length bytes)) ≡ true) where
      pub limits : (entries ≤ 512) × (size ≤ 65535) × (size ≤ length bytes)
      limits =
          let outer = both (leb entries 512 && leb size 65535) q in
          let inner = both (leb entries 512) outer.0 in
          (leb-true _ _ inner.0, leb-true _ _ inner.1, leb-true _ _ outer.1)

      pub packed-put : {after : List ℕ} {end : ℕ} → Put 0 (package_in order timestamps withdrawn lengths programs versions count) bytes after end → packed_reply (Packed.Length end) after ≡ packed_in order timestamps withdrawn lengths programs versions count bytes
      unfolding packed_in with_piece
      packed-put p =
          let whole = package_in order timestamps withdrawn lengths programs versions count in
          let there : 0 + length whole ≡ size = omega (arith, s) in
          rw (← e, ← s, and-true (leb size (length bytes)), ← and_assoc (leb entries 512) (leb size 65535) (leb size (length bytes)), q)
          (ap₂ (λ (k : ℕ) (l : List ℕ). packed_reply (Packed.Length k) l) (p.ends ∙ there) (p.holds ∙ ap (λ (k : ℕ). whole ++ drop k bytes) there))

  -- the parts, one after the other
  pub parts-put : (bytes : List ℕ) {first second third last : List ℕ} {entries a b c d : ℕ} → entries ≡ entries_in order withdrawn count → Put 0 (number_bytes 2 entries) bytes first a → Put a (pieces_below count (change_entry order timestamps lengths versions)) first second b → Put b (pieces_below count (withdrawal_entry order timestamps withdrawn)) second third c → Put c (pieces_below count (body_in order lengths programs)) third last d → Put 0 (package_in order timestamps withdrawn lengths programs versions count) bytes last d
  unfolding package_in
  parts-put bytes e p q r s =
      put_as (put_then (put_then (put_then p (omega arith) q) (omega arith) r) (omega arith) s)
      (ap (λ (n : ℕ). number_bytes 2 n ++ pieces_below count (change_entry order timestamps lengths versions) ++ pieces_below count (withdrawal_entry order timestamps withdrawn) ++ pieces_below count (body_in order lengths programs)) e)
