-- Walks up to where the readers of a setting end.
use mathlib.Core.Path.{◌≡◌}
use mathlib.Core.List.{List}
use Prim.Native.Nat.{ℕ, ◌-◌, ◌<◌}
use native.Mathlib.Omega.{arith}
use lib.ListN.{get_or}
use Rattle.machine.specs.Settings.{setting_count}
use Rattle.uses.specs.Columns.{Columns}
use Rattle.uses.specs.Uses.{ReadersEnd}
use Rattle.uses.proofs.LastUses.{readers-fewer}
use Rattle.marking.specs.Marks.{marked_from}
use Rattle.marking.proofs.Walks.{walk-valid, walk-longer}

module _ {from count : ℕ} {C : Columns} {status readers : List ℕ} (r : ReadersEnd from count C status readers) where
  -- a walk up to where the readers end is one up to the last change
  pub readers-enough : (s : ℕ) → s < setting_count → marked_from C s from (get_or readers s 0 - from) status ≡ marked_from C s from (count - from) status
  readers-enough s h =
      walk-longer C s from (get_or readers s 0 - from) (count - from) status (omega (arith, r.within s h))
      (λ p a b v. omega (arith, r.bound s p h (omega arith) (omega arith) v))

  -- behind it they end there still
  pub readers-walked : (s : ℕ) → ReadersEnd from count C (marked_from C s from (get_or readers s 0 - from) status) readers
  readers-walked s = readers-fewer r (marked_from C s from (get_or readers s 0 - from) status) (walk-valid C s from (get_or readers s 0 - from) status)
