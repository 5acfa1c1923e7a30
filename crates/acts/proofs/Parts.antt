-- The read list of a place, as the parts that the code lends.
use mathlib.Core.Path.{◌≡◌, ap}
use mathlib.Core.List.{List}
use Prim.Native.Nat.{ℕ, ◌+◌, ◌*◌, ◌≤◌}
use native.Mathlib.Omega.{arith}
use lib.IntN.{ℤ}
use lib.ListN.{length, get_or}
use Rattle.general.proofs.Parts.{part}
use Rattle.machine.specs.Settings.{Environment, Entry, entries}
use Rattle.model.specs.History.{all_hold}
use Rattle.model.specs.Tables.{list_in}
use Rattle.values.proofs.Parts.{part-entries}
use Rattle.acts.specs.Acts.{Decidable}

module _ {k : ℕ} {order status withdrawn reads sources : List ℕ} {seen : List ℤ} {places : ℕ} (d : Decidable k order status withdrawn reads sources seen places) where
  abbrev end : ℕ
  end = 32 * get_or order k 0 + get_or reads (get_or order k 0) 0

  source-room : end ≤ length sources
  source-room = omega (arith, d.at, d.short, d.source-slots)

  seen-room : end ≤ length seen
  seen-room = omega (arith, d.at, d.short, d.seen-slots)

  -- whether the values that are lent hold, and those of the list
  pub seen-list : (env : Environment) → let place = get_or order k 0 in let p = part 32 place (get_or reads place 0) sources in all_hold (entries (length p) p (part 32 place (get_or reads place 0) seen)) env ≡ all_hold (list_in reads sources seen place) env
  seen-list env = ap (λ (l : List Entry). all_hold l env) (part-entries reads sources seen (get_or order k 0) source-room seen-room)
