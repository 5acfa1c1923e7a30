-- A step depends on the environment at one setting.
use mathlib.Core.Path.{◌≡◌, refl, sym}
use mathlib.Core.Bool.{Bool, true, false, cond}
use Prim.Native.Nat.{◌<◌}
use borrow.Author.Tests.{ltb-true}
use lib.IntN.{ℤ, pos, negsuc, nat_abs}
use Rattle.general.proofs.Cases.{true-is-not-false}
use Rattle.machine.specs.declared.Effect.{Effect}
use Rattle.machine.specs.declared.Effect.TheVariants.{Halt, Assign, Load, Store, Skip}
use Rattle.machine.specs.Settings.{setting_count, Environment, everywhere}
use Rattle.machine.specs.Form.{is_below}
use Rattle.machine.specs.Run.{State, faults, no_setting, load, perform, wanted}

-- an effect may be carried out with the value of the setting that it wants in place of the environment, if it wants one
pub perform-wanted : (env : Environment) (e : Effect) (state : State) (v : ℤ) → (wanted e < setting_count → v ≡ env (wanted e)) → perform (everywhere v) e state ≡ perform env e state
unfolding perform load
perform-wanted env Halt state v w = refl
perform-wanted env (Assign a x) state v w = refl
perform-wanted env (Store s x) state v w = refl
perform-wanted env (Skip n) state v w = refl
perform-wanted env (Load a s) state v w = go (is_below s setting_count) refl w
  where
    below : (z : ℤ) → is_below z setting_count ≡ true → nat_abs z < setting_count
    below (pos n) t = ltb-true n setting_count t
    below (negsuc n) t = true-is-not-false (sym t)

    go : (b : Bool) → is_below s setting_count ≡ b → (cond b (nat_abs s) setting_count < setting_count → v ≡ env (cond b (nat_abs s) setting_count)) → cond b (load (everywhere v) a (nat_abs s) state) (faults no_setting state.reads) ≡ cond b (load env a (nat_abs s) state) (faults no_setting state.reads)
    go true b w = let e : v ≡ env (nat_abs s) = w (below s b) in rw e
    go false b w = refl
