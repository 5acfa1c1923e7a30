-- Laws of carried writes: carried change after change, and into known values, which are known as of the next position then.
use mathlib.Core.Path.{◌≡◌, refl, sym, ap, subst, ◌∙◌}
use mathlib.Core.Bool.{Bool, false}
use mathlib.Core.List.{List}
use Prim.Native.Nat.{ℕ, zero, suc, ◌+◌}
use native.Mathlib.Numerals.{add-one}
use native.Mathlib.Omega.{arith}
use lib.IntN.{ℤ}
use lib.ListN.{length, get_or}
use Rattle.machine.specs.Settings.{Environment, Entry, after, carry}
use Rattle.machine.proofs.Settings.{length-carry}
use Rattle.model.specs.Tables.{list_in}
use Rattle.values.specs.declared.KnownValues.{KnownValues}
use Rattle.values.specs.Values.{HistoryLists, values_below, IsKnown, Known}
use Rattle.values.proofs.Known.{carried-at, values-first, values-next}
use Rattle.carrying.specs.Carrying.{Carried, carried_first, knowing, CarriedBelow}

-- writes carried into both lists of values are carried into the environment
pub known_carried : {env : Environment} {v v' : KnownValues} {writes : List Entry} → Known env v → Carried writes v v' → Known (after writes env) v'
known_carried {env} {v} {v'} {writes} h c =
    record {
      sizes = record { notes = ap length c.known ∙ h.sizes.notes; befores = ap length c.before-is ∙ length-carry writes v.before ∙ h.sizes.befores; afters = ap length c.after_is ∙ length-carry writes v.after ∙ h.sizes.afters };
      before-is = λ s l q. carried-at env writes v.before c.before-is s (omega (arith, h.sizes.befores)) (h.before-is s l (was s q));
      after_is = λ s l q. carried-at env writes v.after c.after_is s (omega (arith, h.sizes.afters)) (h.after_is s l (was s q));
    }
  where
    was : (s : ℕ) → IsKnown v' s → IsKnown v s
    was s q = sym (ap (λ (n : List Bool). get_or n s false) c.known) ∙ q

-- past a change whose writes are carried: the values as of the next position
pub known_next :
    (order writes targets : List ℕ) (written kept : List ℤ) (k : ℕ) {v v' : KnownValues} →
    Known (values_below order writes targets written kept k) v →
    Carried (list_in writes targets written (get_or order k 0)) v v' →
    Known (values_below order writes targets written kept (suc k)) v'
known_next order writes targets written kept k {v} {v'} h c =
    subst (λ (env : Environment). Known env v') (sym (values-next order writes targets written kept k)) (known_carried h c)

-- the writes of the first changes of the order list, one change after the other
module _ (writes : ℕ → List Entry) (order : List ℕ) (values₀ : List ℤ) where
  pub carried-length : (k : ℕ) → length (carried_first writes order values₀ k) ≡ length values₀
  unfolding carried_first
  carried-length zero = refl
  carried-length (suc k) = length-carry _ _ ∙ carried-length k

  pub carried_none : values₀ ≡ carried_first writes order values₀ 0
  unfolding carried_first
  carried_none = refl

  pub carried-next : (k : ℕ) {place : ℕ} {values after : List ℤ} → values ≡ carried_first writes order values₀ k → place ≡ get_or order k 0 → after ≡ carry (writes place) values → after ≡ carried_first writes order values₀ (k + 1)
  unfolding carried_first
  carried-next k e p q = rw (q, e, p, add-one)

-- carried into both lists of known values
module _ (h : HistoryLists) {v : KnownValues} where
  pub below_none : CarriedBelow 0 h v v
  below_none =
      record { known = refl; right = λ kept known q. subst (λ (env : Environment). Known env (knowing known v)) (sym (values-first h.order h.writes h.targets h.written kept)) q }

  pub below-more : (j : ℕ) {place : ℕ} {v₁ v₂ : KnownValues} → CarriedBelow j h v v₁ → place ≡ get_or h.order j 0 → Carried (list_in h.writes h.targets h.written place) v₁ v₂ → CarriedBelow (j + 1) h v v₂
  below-more j {v₁ = v₁} {v₂ = v₂} b p c =
      record {
        known = c.known ∙ b.known;
        right = λ kept known q.
            let d : Carried (list_in h.writes h.targets h.written (get_or h.order j 0)) v₁ v₂ = rw p at c in
            let e : Carried (list_in h.writes h.targets h.written (get_or h.order j 0)) (knowing known v₁) (knowing known v₂) = record { known = refl; before-is = d.before-is; after_is = d.after_is } in
            rw (add-one j) (known_next h.order h.writes h.targets h.written kept j (b.right kept known q) e);
      }
