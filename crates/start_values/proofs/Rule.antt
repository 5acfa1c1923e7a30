-- The rule of the start values, at every setting. Assumes nothing.
use mathlib.Core.Path.{◌≡◌, refl, ap, ◌∙◌}
use mathlib.Core.Bool.{cond}
use mathlib.Core.List.{List, [], ◌∷◌}
use Prim.Native.Nat.{ℕ, zero, suc, ◌+◌, ◌*◌, ◌%◌, ◌<◌}
use native.Mathlib.Omega.{arith}
use lib.Dec.{eqb}
use lib.IntN.{ℤ, pos}
use lib.ListN.{length, get_or}
use Rattle.start_values.specs.StartValues.{start_table, start_rule}

-- the values by the rule of so many settings, from setting i on
abbrev ruled : ℕ → ℕ → List ℤ
ruled i zero = []
ruled i (suc n) = start_rule i ∷ ruled (suc i) n

-- the rule over the whole table, by one test that is computed
table-ruled : start_table ≡ ruled 0 1024
unfolding start_table
table-ruled = refl

ruled-at : (i n k : ℕ) → k < n → get_or (ruled i n) k (pos 0) ≡ start_rule (i + k)
ruled-at i zero k h = absurd (omega arith)
ruled-at i (suc n) zero h = let e : i ≡ i + 0 = omega arith in ap start_rule e
ruled-at i (suc n) (suc k) h =
    let e : suc i + k ≡ i + suc k = omega arith in
    ruled-at (suc i) n k (omega arith) ∙ ap start_rule e

-- at each setting, by its number
pub table_at : (s : ℕ) → s < 1024 → get_or start_table s (pos 0) ≡ start_rule s
table_at s h =
    let e : 0 + s ≡ s = omega arith in
    ap (λ (l : List ℤ). get_or l s (pos 0)) table-ruled ∙ ruled-at 0 1024 s h ∙ ap start_rule e

-- and by its port and field
pub table-field : (port field : ℕ) → port < 64 → field < 16 → get_or start_table (port * 16 + field) (pos 0) ≡ cond (eqb field 2) (pos 1) (pos 0)
table-field port field p f =
    let e : (port * 16 + field) % 16 ≡ field = omega arith in
    table_at (port * 16 + field) (omega arith) ∙ ap (λ (k : ℕ). cond (eqb k 2) (pos 1) (pos 0)) e

pub length-table : length start_table ≡ 1024
unfolding start_table
length-table = refl
