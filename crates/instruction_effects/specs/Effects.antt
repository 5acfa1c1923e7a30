-- An instruction's parts: its operands, its result and its distance.
use Rattle.std.specs.Prelude.{◌≡◌, true, cond, ℕ, ◌<◌, eqb, ℤ, pos, get_or}
use Rattle.std.specs.Int.Signed.{lt_z}
use Rattle.words.specs.Words.{is_zero}
use Rattle.machine.specs.declared.Effect.{Effect}
use Rattle.machine.specs.declared.Effect.TheVariants.{Halt, Assign, Load, Store, Skip}
use Rattle.machine.specs.declared.Instruction.{Instruction}
use Rattle.machine.specs.Form.{is_below, register}
use Rattle.machine.specs.Run.{effects}

-- what the code of an effect relies on; a well-formed instruction has it
pub record Operands (i : Instruction) : Type 0 where
  pub known : i.operation < 18
  pub a : i.a < register
  pub b : i.b < register
  pub c : i.c < register
  pub shift : i.operation ≡ 6 → is_below i.n 32 ≡ true

-- the value that an effect assigns
abbrev pub assigned_by : Effect → ℤ
assigned_by Halt = pos 0
assigned_by (Assign a v) = v
assigned_by (Load a s) = pos 0
assigned_by (Store s v) = pos 0
assigned_by (Skip n) = pos 0

-- the result of an operation from 1 to 10
abbrev pub result_of : ℕ → ℤ → ℤ → ℤ → ℤ
result_of operation n x y = assigned_by (get_or (effects 0 n (pos 0) x y) operation Halt)

-- how many instructions an operation from 15 to 17 passes over
abbrev pub distance_of : ℕ → ℤ → ℤ → ℤ
distance_of operation n x =
    cond (eqb operation 15) (cond (lt_z x (pos 0)) n (pos 0)) (cond (eqb operation 16) (cond (is_zero x) n (pos 0)) n)
