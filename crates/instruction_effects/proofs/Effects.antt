-- The effects of a range of operations.
use mathlib.Core.Path.{◌≡◌, refl}
use mathlib.Core.List.{List}
use Prim.Native.Nat.{ℕ, ◌≤◌, ◌<◌}
use lib.IntN.{ℤ}
use lib.ListN.{get_or}
use Rattle.machine.specs.declared.Effect.{Effect}
use Rattle.machine.specs.declared.Effect.TheVariants.{Halt, Assign, Load, Store, Skip}
use Rattle.machine.specs.declared.Instruction.{Instruction}
use Rattle.machine.specs.Run.{register_in, effects, effect}
use Rattle.run_record.specs.Record.{pick}
use Rattle.bytecode.proofs.Numbers.{◌then◌, in-range}
use Rattle.instruction_effects.specs.Effects.{result_of, distance_of}

module _ (i : Instruction) (registers : List ℤ) where
  -- the effect of the instruction with another operation
  abbrev pub effect-at : ℕ → Effect
  effect-at k = get_or (effects i.a i.n (register_in registers i.a) (register_in registers i.b) (register_in registers i.c)) k Halt

  -- an operation from 1 to 10 assigns its result
  pub effect-assigns : 1 ≤ i.operation → i.operation < 11 → effect i registers ≡ Assign i.a (result_of i.operation i.n (register_in registers i.b) (register_in registers i.c))
  unfolding effect
  effect-assigns =
      in-range (λ k. effect-at k ≡ Assign i.a (result_of k i.n (register_in registers i.b) (register_in registers i.c))) 1 10 (refl then refl then refl then refl then refl then refl then refl then refl then refl then refl then tt) i.operation

  -- 11 loads the setting n, and 12 the setting of register b's number
  pub effect-loads : 11 ≤ i.operation → i.operation < 13 → effect i registers ≡ Load i.a (pick i.operation 12 (register_in registers i.b) i.n)
  unfolding effect
  effect-loads = in-range (λ k. effect-at k ≡ Load i.a (pick k 12 (register_in registers i.b) i.n)) 11 2 (refl then refl then tt) i.operation

  -- 13 stores register a to the setting n, and 14 to the setting of register b's number
  pub effect-stores : 13 ≤ i.operation → i.operation < 15 → effect i registers ≡ Store (pick i.operation 14 (register_in registers i.b) i.n) (register_in registers i.a)
  unfolding effect
  effect-stores = in-range (λ k. effect-at k ≡ Store (pick k 14 (register_in registers i.b) i.n) (register_in registers i.a)) 13 2 (refl then refl then tt) i.operation

  -- an operation from 15 to 17 passes over its distance
  pub effect-skips : 15 ≤ i.operation → i.operation < 18 → effect i registers ≡ Skip (distance_of i.operation i.n (register_in registers i.b))
  unfolding effect
  effect-skips = in-range (λ k. effect-at k ≡ Skip (distance_of k i.n (register_in registers i.b))) 15 3 (refl then refl then refl then tt) i.operation
