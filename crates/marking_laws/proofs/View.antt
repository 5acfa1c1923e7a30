-- The view after it followed, setting by setting.
use mathlib.Core.Path.{◌≡◌, refl, sym, ap, ◌∙◌}
use mathlib.Core.Bool.{Bool, true, false, cond, ◌&&◌, ◌||◌}
use mathlib.Core.List.{List, [], ◌∷◌}
use Prim.Native.Nat.{ℕ, ◌<◌}
use native.Mathlib.Decide.{ℕ_discrete}
use native.Mathlib.Omega.{arith}
use borrow.Author.Tests.{eq-eqb, ne_eqb}
use lib.Dec.{eqb, leb}
use lib.IntN.{ℤ, pos}
use lib.ListN.{length, get_or, set, length-set}
use lib.Seq.{get_or-set_same, get_or-set_other, ext_get_or}
use Rattle.machine.specs.Settings.{setting_count, Environment, value_in}
use Rattle.general.proofs.Cases.{by-test}
use Rattle.general.specs.Lists.{tabulate}
use Rattle.model.specs.History.{all_settings}
use Rattle.model.specs.Form.{holds}
use Rattle.general.proofs.Tabulate.{length-tabulate, get_d_tabulate}
use Rattle.view_updates.specs.View.{followed}

module _ (writers : List ℕ) (from : ℕ) (values : List ℤ) where
  -- does the view take the setting's new value, if it changed
  abbrev last : ℕ → Bool
  last x = leb (get_or writers x 0) from

  abbrev one : ℕ → List ℤ → List ℤ
  one s view = cond (last s) (set view s (value_in values s)) view

  one-length : (s : ℕ) (view : List ℤ) → length (one s view) ≡ length view
  one-length s view = by-test (λ (l : List ℤ). length l ≡ length view) (last s) (λ t. length-set view s (value_in values s)) (λ t. refl)

  one_at : (s : ℕ) (view : List ℤ) (x : ℕ) → x < length view → value_in (one s view) x ≡ cond (eqb s x && last x) (value_in values x) (value_in view x)
  one_at s view x h = go (ℕ_discrete x s) (last s) refl
    where
      go : Dec (x ≡ s) → (b : Bool) → last s ≡ b → value_in (cond b (set view s (value_in values s)) view) x ≡ cond (eqb s x && last x) (value_in values x) (value_in view x)
      go (yes e) true t = rw (e, eq-eqb s s refl, t) (get_or-set_same view s (value_in values s) (pos 0) (rw e at h))
      go (yes e) false t = rw (e, eq-eqb s s refl, t)
      go (no e) true t = rw (ne_eqb s x (λ q. e (sym q))) (get_or-set_other view s x (value_in values s) (pos 0) e)
      go (no e) false t = rw (ne_eqb s x (λ q. e (sym q)))

  followed-length : (changed : List ℕ) (view : List ℤ) → length (followed writers from values changed view) ≡ length view
  unfolding followed
  followed-length [] view = refl
  followed-length (s ∷ changed) view = followed-length changed (one s view) ∙ one-length s view

  followed-at : (changed : List ℕ) (view : List ℤ) (x : ℕ) → x < length view → value_in (followed writers from values changed view) x ≡ cond (holds x changed && last x) (value_in values x) (value_in view x)
  unfolding followed
  followed-at [] view x h = refl
  followed-at (s ∷ changed) view x h =
      followed-at changed (one s view) x (rw (one-length s view) h)
      ∙ ap (cond (holds x changed && last x) (value_in values x)) (one_at s view x h)
      ∙ join (eqb s x) (holds x changed) (last x) (value_in values x) (value_in view x)
    where
      join : (a b c : Bool) (u v : ℤ) → cond (b && c) u (cond (a && c) u v) ≡ cond ((a || b) && c) u v
      join true true true u v = refl
      join true true false u v = refl
      join true false c u v = refl
      join false true true u v = refl
      join false true false u v = refl
      join false false c u v = refl

-- a list by its values
values_of : (m : ℕ) (l : List ℤ) (env : Environment) → length l ≡ m → ((x : ℕ) → x < m → value_in l x ≡ env x) → l ≡ tabulate m env
values_of m l env e v = ext_get_or (pos 0) l (tabulate m env) (e ∙ sym (length-tabulate m env)) (λ i h. let h' : i < m = omega arith in v i h' ∙ sym (get_d_tabulate m env i (pos 0) h'))

-- the view that follows is that of an environment which has the new value of each changed setting that no later change writes
pub view_of : (writers : List ℕ) (from : ℕ) (values : List ℤ) (changed : List ℕ) (view : List ℤ) (env : Environment) → length view ≡ setting_count → ((x : ℕ) → x < setting_count → cond (holds x changed && leb (get_or writers x 0) from) (value_in values x) (value_in view x) ≡ env x) → followed writers from values changed view ≡ all_settings env
view_of writers from values changed view env e v =
    values_of setting_count (followed writers from values changed view) env (followed-length writers from values changed view ∙ e)
    (λ x h. followed-at writers from values changed view x (omega (arith, h, e)) ∙ v x h)
