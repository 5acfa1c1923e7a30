-- The entry of a withdrawal.
use Rattle.std.specs.Prelude.{cond, List, [], ℕ, eqb}
use Rattle.model.specs.Package.{entry_bytes}

-- by the change's flag and timestamp; none where the flag is 0
abbrev pub withdrawal_bytes : ℕ → ℕ → List ℕ
withdrawal_bytes flag t = cond (eqb flag 0) [] (entry_bytes t 1 0 0)
