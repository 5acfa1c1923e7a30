-- The start values: those of the table, and by their rule.
use mathlib.Core.Path.{◌≡◌, refl, ◌∙◌}
use mathlib.Core.Bool.{cond}
use Prim.Native.Nat.{ℕ, ◌+◌, ◌*◌, ◌≤◌, ◌<◌}
use native.Mathlib.Omega.{arith}
use lib.Dec.{eqb}
use lib.IntN.{pos}
use lib.ListN.{get_or-eq_default}
use Rattle.start_values.specs.StartValues.{start_table, start_rule}
use Rattle.start_values.proofs.Rule.{table_at, table-field, length-table}
use Rattle.machine.specs.Settings.{setting_count, value_in}
use Rattle.model.specs.History.{start, all_settings}
use Rattle.model.proofs.Values.{all-value}

pub start-at : (s : ℕ) → start s ≡ value_in start_table s
unfolding start
start-at s = refl

-- 0 past the last setting
pub start-past : (s : ℕ) → setting_count ≤ s → start s ≡ pos 0
start-past s h = start-at s ∙ get_or-eq_default start_table (pos 0) (omega (arith, length-table))

-- all of them
pub all_start : all_settings start ≡ start_table
unfolding start
all_start = all-value start_table length-table

-- document 02, R-1: "Every setting of field 2 now starts at 1 and all others at 0."
pub start-rule : (s : ℕ) → s < setting_count → start s ≡ start_rule s
start-rule s h = start-at s ∙ table_at s h

pub start-field : (port field : ℕ) → port < 64 → field < 16 → start (port * 16 + field) ≡ cond (eqb field 2) (pos 1) (pos 0)
start-field port field p f = start-at (port * 16 + field) ∙ table-field port field p f
