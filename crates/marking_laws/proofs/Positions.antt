-- The tables of a sound cabinet, by position of the order list: the change's status, and what it reads and writes.
use mathlib.Core.Path.{◌≡◌, sym, ap, ◌∙◌}
use Prim.Native.Nat.{ℕ, ◌<◌}
use native.Mathlib.Omega.{arith}
use lib.ListN.{length, get_or}
use Rattle.model.specs.History.{Change, status, lists}
use Rattle.model.specs.Form.{holds}
use Rattle.model.specs.Cabinet.{Cabinet, blank, history_of}
use Rattle.model.specs.Tables.{status_number, settings_of, encode}
use Rattle.model.specs.Sound.{Sound}
use Rattle.model.proofs.Order.{changes_at-get, below_at}
use Rattle.model.proofs.Tables.{order-at, status-at}
use Rattle.uses.specs.Columns.{columns_of, reads_setting, writes_setting}
use Rattle.marking_laws.proofs.Cabinet.{Stands, stands}

module _ {n : ℕ} {c : Cabinet} (s : Sound n c) (p : ℕ) (h : p < length c.changes) where
  abbrev place : ℕ
  place = get_or (encode n c).order p 0

  held : get_or c.order p 0 < length c.changes
  held = below_at (length c.changes) c.order p s.placed.below (omega (arith, s.placed.counted))

  change-at : get_or c.changes place blank ≡ get_or (history_of c) p blank
  change-at = ap (λ (i : ℕ). get_or c.changes i blank) (order-at n c p) ∙ sym (changes_at-get c.changes c.order p (omega (arith, s.placed.counted)))

  pub status-position : get_or (encode n c).status place 0 ≡ status_number (status (get_or (history_of c) p blank))
  status-position = status-at n c place ∙ ap (λ (d : Change). status_number (status d)) change-at

  lists-position : Stands (columns_of (encode n c)) place (lists (get_or (history_of c) p blank))
  lists-position = rw change-at at (stands n c s place (rw (order-at n c p) held))

  pub reads-position : (x : ℕ) → reads_setting (columns_of (encode n c)) x p ≡ holds x (settings_of (lists (get_or (history_of c) p blank)).reads)
  reads-position x = ap (holds x) lists-position.read

  pub writes-position : (x : ℕ) → writes_setting (columns_of (encode n c)) x p ≡ holds x (settings_of (lists (get_or (history_of c) p blank)).writes)
  writes-position x = ap (holds x) lists-position.wrote
