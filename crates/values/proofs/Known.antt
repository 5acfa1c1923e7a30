-- Laws of known values: looked up, noted, none known at first, up the order list.
use mathlib.Core.Path.{◌≡◌, refl, sym, ap, fun_ext, ◌∙◌}
use mathlib.Core.Bool.{Bool, true, false}
use mathlib.Core.List.{List}
use Prim.Native.Nat.{ℕ, suc, ◌<◌}
use lib.IntN.{ℤ, pos}
use lib.ListN.{length, get_or, replicate, length-replicate, get_or-replicate}
use Rattle.machine.specs.Settings.{setting_count, Environment, Entry, value_in, ◌or_else◌, lookup, after, carry}
use Rattle.machine.proofs.Settings.{or-if-else, carry-after}
use Rattle.general.proofs.Cases.{true-is-not-false}
use Rattle.model.specs.Tables.{list_in}
use Rattle.writers.specs.Writers.{previous_write}
use Rattle.values.specs.declared.KnownValues.{KnownValues}
use Rattle.values.specs.Values.{values_below, IsKnown, Known, Looked}

-- a list of values with writes carried into it gives what the writes make of the environment
pub carried-at : (env : Environment) (writes : List Entry) (values : List ℤ) {values' : List ℤ} → values' ≡ carry writes values → (s : ℕ) → s < length values → value_in values s ≡ env s → value_in values' s ≡ after writes env s
carried-at env writes values e s l q = ap (λ (v : List ℤ). value_in v s) e ∙ carry-after writes values s l ∙ ap (λ v. lookup writes s or_else v) q

-- ---- looked up

module _ {env : Environment} where
  -- nothing was searched for
  pub looked-none : {v : KnownValues} → Known env v → Looked env v v
  looked-none h = record { right = h; kept = λ s q. q }

  -- one look after another
  pub looked-more : {earlier between v : KnownValues} → Looked env earlier between → Looked env between v → Looked env earlier v
  looked-more h h' = record { right = h'.right; kept = λ s q. h'.kept s (h.kept s q) }

-- ---- a list looked up

-- its first i settings are known
pub record KnownTo (settings : List ℕ) (i : ℕ) (env : Environment) (earlier v : KnownValues) : Type 0 where
  pub looked : Looked env earlier v
  pub each : (j : ℕ) → j < i → IsKnown v (get_or settings j 0)

-- ---- none is known

pub none-known : (env : Environment) (v : KnownValues) → v.known ≡ replicate 1024 false → v.before ≡ replicate 1024 (pos 0) → v.after ≡ replicate 1024 (pos 0) → Known env v
none-known env v k b a =
    record {
      sizes = record { notes = ap length k ∙ length-replicate 1024 false; befores = ap length b ∙ length-replicate 1024 (pos 0); afters = ap length a ∙ length-replicate 1024 (pos 0) };
      before-is = λ s l q. absurd (none s l q);
      after_is = λ s l q. absurd (none s l q);
    }
  where
    none : (s : ℕ) → s < setting_count → get_or v.known s false ≡ true → ⊥
    none s l q = true-is-not-false (sym q ∙ ap (λ (n : List Bool). get_or n s false) k ∙ get_or-replicate 1024 s false false l)

-- ---- up the order list

module _ (order writes targets : List ℕ) (written kept : List ℤ) where
  -- as of the first position: the kept values
  pub values-first : values_below order writes targets written kept 0 ≡ value_in kept
  unfolding previous_write
  values-first = refl

  -- as of the next: the writes of the change at this one carried into the values as of it
  pub values-next : (k : ℕ) → values_below order writes targets written kept (suc k) ≡ after (list_in writes targets written (get_or order k 0)) (values_below order writes targets written kept k)
  unfolding previous_write
  values-next k = fun_ext (λ s. or-if-else (lookup (list_in writes targets written (get_or order k 0)) s) (previous_write order writes targets written s k) (value_in kept s))
