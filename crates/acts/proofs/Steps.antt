-- What a turn does, by the tests of the code.
use mathlib.Core.Path.{◌≡◌}
use mathlib.Core.Bool.{Bool, true, false}
use Prim.Native.Nat.{ℕ}
use borrow.Author.Tests.{eq-eqb, ne_eqb}
use Rattle.acts.specs.declared.Act.TheVariants as act
use Rattle.acts.specs.Acts.{act_of}

module _ (flag status : ℕ) (holds : Bool) where
  pub clears : (flag ≡ 0 → ⊥) → act.Clear ≡ act_of flag status holds
  unfolding act_of
  clears h = rw (ne_eqb flag 0 h)

  module _ (e : flag ≡ 0) where
    pub runs-new : (status ≡ 2 → ⊥) → act.Run ≡ act_of flag status holds
    unfolding act_of
    runs-new h = rw (eq-eqb flag 0 e, ne_eqb status 2 h)

    pub stands : status ≡ 2 → holds ≡ true → act.Stand ≡ act_of flag status holds
    unfolding act_of
    stands s h = rw (eq-eqb flag 0 e, eq-eqb status 2 s, h)

    pub runs-again : status ≡ 2 → holds ≡ false → act.Run ≡ act_of flag status holds
    unfolding act_of
    runs-again s h = rw (eq-eqb flag 0 e, eq-eqb status 2 s, h)
