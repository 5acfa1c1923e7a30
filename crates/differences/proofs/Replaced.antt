-- A change's old writes carried into the values before, its new writes into those after: the settings collected are those that differ, and once
-- they are restored, both lists have the values as of the next position.
use mathlib.Core.Path.{◌≡◌, refl, sym, ap, ap₂, subst, ◌∙◌}
use mathlib.Core.Bool.{Bool, true, false, not, ◌&&◌, ◌||◌, and-or_distrib_right}
use mathlib.Core.List.{List, [], ◌∷◌, ◌++◌}
use mathlib.Core.Logic.{◌⊎◌, inl, inr, ⊎_elim}
use mathlib.Core.Option.{Option, none, some}
use Prim.Native.Nat.{ℕ, ◌<◌}
use native.Mathlib.Omega.{arith}
use borrow.Author.Tests.{eqb-true, eqb-false, not-false}
use lib.Dec.{eqb}
use lib.IntN.{ℤ, pos}
use lib.ListN.{length, get_or, set, take, length-set}
use lib.Seq.{get_or-set_same, get_or-set_other}
use Rattle.machine.specs.Settings.{setting_count, Environment, Entry, value_in, named, ◌or_else◌, is_some, lookup, after, carry}
use Rattle.general.proofs.Cases.{true-is-not-false, both}
use Rattle.machine.proofs.Settings.{lookup-named, length-carry}
use Rattle.model.specs.History.{Lists, eq_z}
use Rattle.model.specs.Tables.{settings_of}
use Rattle.model.specs.Form.{holds}
use Rattle.model.specs.Walk.{differs}
use Rattle.model.proofs.Entries.{holds_named}
use Rattle.model.proofs.Values.{eq_z-true, eq_z-refl}
use Rattle.writers.specs.Writers.{OfSettings}
use Rattle.values.specs.declared.KnownValues.{KnownValues}
use Rattle.values.specs.Values.{IsKnown, AllKnown, Sizes, Known, Looked}
use Rattle.values.proofs.Known.{carried-at}
use Rattle.differences.specs.Differences.{changed_in, Collected, restored}
use Rattle.differences.proofs.Membership.{holds_at, at-holds, holds-joined, holds-changed}

-- ---- both writes are carried

-- the old writes are in the one list, the new in the other, and the values of all settings that they name are known
pub record Replacing (old new : Lists) (env : Environment) (v : KnownValues) : Type 0 where
  pub sizes : Sizes v
  pub before-is : (s : ℕ) → s < setting_count → IsKnown v s → value_in v.before s ≡ after old.writes env s
  pub after_is : (s : ℕ) → s < setting_count → IsKnown v s → value_in v.after s ≡ after new.writes env s
  pub old-known : (s : ℕ) → named s old.writes ≡ true → IsKnown v s
  pub new-known : (s : ℕ) → named s new.writes ≡ true → IsKnown v s

-- what was looked up stays known when more is
pub all-kept : {env : Environment} {earlier v : KnownValues} {settings : List ℕ} → AllKnown earlier settings → Looked env earlier v → AllKnown v settings
all-kept h l = record { each = λ i q. l.kept _ (h.each i q) }

-- where the same values are known
known-as : {known known' : List Bool} → known' ≡ known → (s : ℕ) → get_or known' s false ≡ true → get_or known s false ≡ true
known-as e s q = sym (ap (λ (n : List Bool). get_or n s false) e) ∙ q

-- the settings that a list names are known
names-known : (v : KnownValues) (l : List Entry) → AllKnown v (settings_of l) → (s : ℕ) → named s l ≡ true → IsKnown v s
names-known v l h s n = at-holds (IsKnown v) (settings_of l) h.each s (holds_named s l ∙ n)

pub replacing :
    (old new : Lists) {env : Environment} {v v' : KnownValues} {first second : List ℕ} →
    Known env v →
    AllKnown v first →
    first ≡ settings_of old.writes →
    AllKnown v second →
    second ≡ settings_of new.writes →
    v'.known ≡ v.known →
    v'.before ≡ carry old.writes v.before →
    v'.after ≡ carry new.writes v.after →
    Replacing old new env v'
replacing old new {env} {v} {v'} h f o s n k b a =
    record {
      sizes = record { notes = ap length k ∙ h.sizes.notes; befores = ap length b ∙ length-carry old.writes v.before ∙ h.sizes.befores; afters = ap length a ∙ length-carry new.writes v.after ∙ h.sizes.afters };
      before-is = λ s l q. carried-at env old.writes v.before b s (omega (arith, h.sizes.befores)) (h.before-is s l (known-as k s q));
      after_is = λ s l q. carried-at env new.writes v.after a s (omega (arith, h.sizes.afters)) (h.after_is s l (known-as k s q));
      old-known = λ s q. known-as (sym k) s (names-known v old.writes (subst (AllKnown v) o f) s q);
      new-known = λ x q. known-as (sym k) x (names-known v new.writes (subst (AllKnown v) n s) x q);
    }

-- ---- the settings that are collected

-- a list that does not name a setting leaves it
unnamed : (l : List Entry) (env : Environment) (s : ℕ) → named s l ≡ false → after l env s ≡ env s
unnamed l env s n = go (lookup l s) (lookup-named l s ∙ n)
  where
    go : (u : Option ℤ) → is_some u ≡ false → (u or_else env s) ≡ env s
    go none e = refl
    go (some v) e = true-is-not-false e

-- where one of two tests and a third hold, one of the two does
one_of : (a b d : Bool) → ((a || b) && d) ≡ true → (a ≡ true) ⊎ (b ≡ true)
one_of true b d e = inl refl
one_of false b d e = inr (both b e).0

-- the settings of two lists, collected one after the other
module _ (v : KnownValues) {first second : List ℕ} {list₀ list₁ list₂ : List ℕ} {count total : ℕ} (f : Collected first v.before v.after 0 list₀ count list₁) (g : Collected second v.before v.after count list₁ total list₂) where
  collected-is : take total list₂ ≡ changed_in v.before v.after first ++ changed_in v.before v.after second
  collected-is = g.these ∙ ap (λ l. l ++ changed_in v.before v.after second) f.these

  collected-holds : (x : ℕ) → let d = not (eq_z (value_in v.before x) (value_in v.after x)) in holds x (take total list₂) ≡ ((holds x first || holds x second) && d)
  collected-holds x =
      ap (holds x) collected-is
      ∙ holds-joined x (changed_in v.before v.after first) (changed_in v.before v.after second)
      ∙ ap₂ (λ a b. a || b) (holds-changed v.before v.after x first) (holds-changed v.before v.after x second)
      ∙ sym (and-or_distrib_right (holds x first) (holds x second) _)

  -- they are settings
  pub collected-settings : OfSettings first → OfSettings second → OfSettings (take total list₂)
  collected-settings a b =
      record { below = λ i h. let x = get_or (take total list₂) i 0 in ⊎_elim (at-holds (λ s. s < setting_count) first a.below x) (at-holds (λ s. s < setting_count) second b.below x) (one_of (holds x first) (holds x second) _ (sym (collected-holds x) ∙ holds_at (take total list₂) i h)) }

  module _ {old new : Lists} {env : Environment} (r : Replacing old new env v) (o : first ≡ settings_of old.writes) (n : second ≡ settings_of new.writes) where
    -- they are those at which the old and the new writes give different values
    pub collected-differs : (x : ℕ) → x < setting_count → holds x (take total list₂) ≡ differs old new env x
    collected-differs x l =
        collected-holds x
        ∙ ap₂ (λ a b. (a || b) && d) (ap (holds x) o ∙ holds_named x old.writes) (ap (holds x) n ∙ holds_named x new.writes)
        ∙ go (named x old.writes) refl (named x new.writes) refl
      where
        d : Bool
        d = not (eq_z (value_in v.before x) (value_in v.after x))

        right : IsKnown v x → d ≡ differs old new env x
        right q = ap₂ (λ u v. not (eq_z u v)) (r.before-is x l q) (r.after_is x l q)

        go : (a : Bool) → named x old.writes ≡ a → (b : Bool) → named x new.writes ≡ b → ((a || b) && d) ≡ differs old new env x
        go true p b q = right (r.old-known x p)
        go false p true q = right (r.new-known x q)
        go false p false q = sym (ap₂ (λ u v. not (eq_z u v)) (unnamed old.writes env x p) (unnamed new.writes env x q) ∙ ap not (eq_z-refl (env x)))

    -- the value after of one that is collected is the new one
    pub collected-new : (x : ℕ) → x < setting_count → holds x (take total list₂) ≡ true → value_in v.after x ≡ after new.writes env x
    collected-new x l h =
        r.after_is x l
        (⊎_elim (λ p. r.old-known x (sym (ap (holds x) o ∙ holds_named x old.writes) ∙ p)) (λ q. r.new-known x (sym (ap (holds x) n ∙ holds_named x new.writes) ∙ q)) (one_of (holds x first) (holds x second) _ (sym (collected-holds x) ∙ h)))

-- ---- restored values

length-restored : (settings : List ℕ) (after before : List ℤ) → length (restored settings after before) ≡ length before
unfolding restored
length-restored [] after before = refl
length-restored (s ∷ settings) after before = length-restored settings after (set before s (value_in after s)) ∙ length-set before s (value_in after s)

-- where the settings that are not restored have the same value, all have
restored_at : (settings : List ℕ) (after before : List ℤ) (x : ℕ) → x < length before → (holds x settings ≡ false → value_in before x ≡ value_in after x) → value_in (restored settings after before) x ≡ value_in after x
unfolding restored
restored_at [] after before x l e = e refl
restored_at (s ∷ settings) after before x l e = restored_at settings after (set before s (value_in after s)) x (rw length-set l) (λ h. go (eqb s x) refl h)
  where
    go : (t : Bool) → eqb s x ≡ t → holds x settings ≡ false → value_in (set before s (value_in after s)) x ≡ value_in after x
    go true q h = let w : s ≡ x = eqb-true s x q in rw w (get_or-set_same before x (value_in after x) (pos 0) l)
    go false q h =
        get_or-set_other before s x (value_in after s) (pos 0) (λ w. eqb-false s x q (sym w))
        ∙ e (ap (λ (t : Bool). t || holds x settings) q ∙ h)

-- with those that differ restored, the values are known as they are after the new writes
pub restored-known :
    {old new : Lists} {env : Environment} {v v' : KnownValues} (settings : List ℕ) →
    Replacing old new env v →
    ((x : ℕ) → x < setting_count → holds x settings ≡ differs old new env x) →
    v'.known ≡ v.known →
    v'.before ≡ restored settings v.after v.before →
    v'.after ≡ v.after →
    Known (after new.writes env) v'
restored-known {old} {new} {env} {v} {v'} settings r h k b a =
    record {
      sizes = record { notes = ap length k ∙ r.sizes.notes; befores = ap length b ∙ length-restored settings v.after v.before ∙ r.sizes.befores; afters = ap length a ∙ r.sizes.afters };
      before-is = λ s l q. let q' = known-as k s q in ap (λ (l : List ℤ). value_in l s) b ∙ restored_at settings v.after v.before s (omega (arith, r.sizes.befores)) (λ n. same s l q' (sym (h s l) ∙ n)) ∙ r.after_is s l q';
      after_is = λ s l q. ap (λ (l : List ℤ). value_in l s) a ∙ r.after_is s l (known-as k s q);
    }
  where
    equal : (u v : ℤ) → not (eq_z u v) ≡ false → u ≡ v
    equal u v e = eq_z-true u v (not-false (eq_z u v) e)

    same : (s : ℕ) → s < setting_count → IsKnown v s → differs old new env s ≡ false → value_in v.before s ≡ value_in v.after s
    same s l q e = r.before-is s l q ∙ equal _ _ e ∙ sym (r.after_is s l q)
