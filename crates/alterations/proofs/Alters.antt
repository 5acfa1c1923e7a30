-- The settings that change where writes are replaced, from what the code looks up, carries and collects.
use mathlib.Core.Path.{◌≡◌, sym, ap, subst, ◌∙◌}
use mathlib.Core.Bool.{Bool, false}
use mathlib.Core.List.{List, []}
use Prim.Native.Nat.{ℕ}
use native.Mathlib.Omega.{arith}
use lib.IntN.{ℤ}
use lib.ListN.{length, get_or}
use lib.Seq.{take_all}
use Rattle.machine.specs.Settings.{Environment, Entry, carry, entries}
use Rattle.model.specs.History.{Lists}
use Rattle.model.specs.Tables.{settings_of}
use Rattle.model.proofs.Entries.{settings-entries}
use Rattle.values.specs.declared.KnownValues.{KnownValues}
use Rattle.values.specs.Values.{AllKnown, Looked}
use Rattle.differences.specs.Differences.{Collected}
use Rattle.differences.proofs.Replaced.{Replacing, all-kept, replacing, collected-settings, collected-differs, collected-new}
use Rattle.alterations.specs.Altered.{BothWrites, Altered}

-- ---- what changes

-- lists with some writes
abbrev pub writing : List Entry → Lists
writing l = record { reads = []; writes = l }

-- the settings of a whole list
whole-named : (settings : List ℕ) (values : List ℤ) → length settings ≡ length values → settings ≡ settings_of (entries (length settings) settings values)
whole-named settings values e = sym (settings-entries (length settings) settings values (omega (arith, e)) ∙ take_all (length settings) settings (omega arith))

module _ {old_targets : List ℕ} {old_written : List ℤ} {new_targets : List ℕ} {new_written : List ℤ} (b : BothWrites old_targets old_written new_targets new_written) where
  abbrev old : List Entry
  old = entries (length old_targets) old_targets old_written

  abbrev new : List Entry
  new = entries (length new_targets) new_targets new_written

  pub altered :
      {env : Environment} {earlier v₁ v₂ v : KnownValues} {list₀ list₁ list : List ℕ} {count total : ℕ} →
      AllKnown v₁ old_targets × Looked env earlier v₁ →
      AllKnown v₂ new_targets × Looked env v₁ v₂ →
      v.known ≡ v₂.known →
      v.before ≡ carry old v₂.before →
      v.after ≡ carry new v₂.after →
      length list₀ ≡ 64 →
      Collected old_targets v.before v.after 0 list₀ count list₁ →
      Collected new_targets v.before v.after count list₁ total list →
      Altered old new env earlier v total list
  altered {env} {v = v} first second same carried carried' m f g =
      let olds = whole-named old_targets old_written b.old-same in
      let news = whole-named new_targets new_written b.new-same in
      let r : Replacing (writing old) (writing new) env v = replacing (writing old) (writing new) second.1.right (all-kept first.0 second.1) olds second.0 news same carried carried' in
      record {
        kept = λ s q. sym (ap (λ (n : List Bool). get_or n s false) (sym same)) ∙ second.1.kept s (first.1.kept s q);
        sizes = r.sizes;
        before-is = r.before-is;
        after_is = r.after_is;
        old-known = r.old-known;
        new-known = r.new-known;
        room = omega (arith, f.bound, g.bound, b.old-short, b.new-short, f.sized, g.sized);
        settings = collected-settings v f g b.old-settings b.new-settings;
        differing = collected-differs v f g r olds news;
        renewed = collected-new v f g r olds news;
      }

-- the same writes
pub altered-by : {old old' new new' : List Entry} {env : Environment} {earlier v : KnownValues} {count : ℕ} {list : List ℕ} → old ≡ old' → new ≡ new' → Altered old new env earlier v count list → Altered old' new' env earlier v count list
altered-by {old} {old'} {new} {new'} {env} {earlier} {v} {count} {list} e q h =
    subst (λ (l : List Entry). Altered old' l env earlier v count list) q
    (subst (λ (l : List Entry). Altered l new env earlier v count list) e h)
