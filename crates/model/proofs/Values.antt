-- Laws of the test of equal values and of the 1,024 values of an environment.
use mathlib.Core.Path.{◌≡◌, refl, sym, ap, ◌∙◌}
use mathlib.Core.Bool.{Bool, true, false}
use mathlib.Core.List.{List}
use Prim.Native.Nat.{ℕ, ◌≤◌, ◌<◌}
use native.Mathlib.Decide.{dec_lt}
use native.Mathlib.Omega.{arith}
use borrow.Author.Tests.{eqb-true, eqb-false, eq-eqb, ne_eqb}
use lib.Dec.{eqb}
use lib.IntN.{ℤ, pos, negsuc}
use lib.ListN.{length, get_or-eq_default}
use mir.Facts.{to_z-of_z}
use mir.Syntax.{w32}
use mir.Val.{SFits, to_z, of_z}
use Rattle.machine.specs.Settings.{setting_count, Environment, value_in}
use Rattle.general.specs.Lists.{tabulate}
use Rattle.model.specs.History.{all_settings, eq_z}
use Rattle.general.proofs.Tabulate.{length-tabulate, get_d_tabulate, tabulate-is}

pub eq_z-true : (u v : ℤ) → eq_z u v ≡ true → u ≡ v
eq_z-true (pos m) (pos n) h = ap pos (eqb-true m n h)
eq_z-true (pos m) (negsuc n) h = cc
eq_z-true (negsuc m) (pos n) h = cc
eq_z-true (negsuc m) (negsuc n) h = ap negsuc (eqb-true m n h)

pub eq_z-refl : (v : ℤ) → eq_z v v ≡ true
eq_z-refl (pos m) = eq-eqb m m refl
eq_z-refl (negsuc m) = eq-eqb m m refl

eqb-sym : (m n : ℕ) → eqb m n ≡ eqb n m
eqb-sym m n = go (eqb n m) refl
  where
    go : (b : Bool) → eqb n m ≡ b → eqb m n ≡ b
    go true q = eq-eqb m n (sym (eqb-true n m q))
    go false q = ne_eqb m n (λ e. eqb-false n m q (sym e))

pub eq_z-sym : (u v : ℤ) → eq_z u v ≡ eq_z v u
eq_z-sym (pos m) (pos n) = eqb-sym m n
eq_z-sym (pos m) (negsuc n) = refl
eq_z-sym (negsuc m) (pos n) = refl
eq_z-sym (negsuc m) (negsuc n) = eqb-sym m n

module _ (u v : ℤ) where
  -- two values of the same bits are equal
  pub same_bits : SFits w32 u → SFits w32 v → of_z w32 u ≡ of_z w32 v → eq_z u v ≡ true
  same_bits f g e = rw (sym (to_z-of_z f) ∙ ap (to_z w32) e ∙ to_z-of_z g) (eq_z-refl v)

  -- two of other bits are not
  pub other-bits : (of_z w32 u ≡ of_z w32 v → ⊥) → eq_z u v ≡ false
  other-bits n = go (eq_z u v) refl
    where
      go : (b : Bool) → eq_z u v ≡ b → b ≡ false
      go true e = absurd (n (ap (of_z w32) (eq_z-true u v e)))
      go false e = refl

-- the list of an environment's values gives that environment's values
pub value-all_settings : (env : Environment) (s : ℕ) → s < setting_count → value_in (all_settings env) s ≡ env s
value-all_settings env s h = get_d_tabulate setting_count env s (pos 0) h

-- environments that agree on every setting have the same values
pub all_settings-same : (env env' : Environment) → ((s : ℕ) → s < setting_count → env s ≡ env' s) → all_settings env ≡ all_settings env'
all_settings-same env env' h = tabulate-is (all_settings env') env (pos 0) (λ s q. h s q ∙ sym (value-all_settings env' s q))

-- a list of as many values is that of the environment that it gives
pub all-value : (values : List ℤ) → length values ≡ setting_count → all_settings (value_in values) ≡ values
all-value values e = ap (λ (n : ℕ). tabulate n (value_in values)) (sym e) ∙ tabulate-is values (value_in values) (pos 0) (λ s h. refl)

-- that environment itself, if it is 0 past the last setting
pub value-all : (env : Environment) → ((s : ℕ) → setting_count ≤ s → env s ≡ pos 0) → value_in (all_settings env) ≡ env
value-all env past = λ j s. at s (dec_lt s setting_count) j
  where
    at : (s : ℕ) → Dec (s < setting_count) → value_in (all_settings env) s ≡ env s
    at s (yes h) = value-all_settings env s h
    at s (no h) = get_or-eq_default (all_settings env) (pos 0) {n = s} (omega (arith, length-tabulate setting_count env)) ∙ sym (past s (omega arith))
