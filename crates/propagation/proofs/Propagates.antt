-- What follows new writes, from what the code alters, marks and restores.
use mathlib.Core.Path.{◌≡◌, sym, ap, ap₂, ◌∙◌}
use mathlib.Core.List.{List}
use Prim.Native.Nat.{ℕ, ◌+◌}
use lib.IntN.{ℤ}
use lib.ListN.{take}
use Rattle.machine.specs.Settings.{Environment, Entry, value_in}
use Rattle.differences.specs.Differences.{restored}
use Rattle.values.specs.declared.KnownValues.{KnownValues}
use Rattle.differences.proofs.Replaced.{Replacing, restored-known}
use Rattle.uses.specs.Columns.{Columns}
use Rattle.view_updates.specs.View.{followed}
use Rattle.marking.specs.Marks.{marked_settings}
use Rattle.uses.specs.declared.SettingUses.{SettingUses}
use Rattle.uses.specs.Uses.{Marked}
use Rattle.alterations.specs.Altered.{Altered}
use Rattle.alterations.proofs.Alters.{writing}
use Rattle.propagation.specs.Propagated.{values_at, writes_at, Propagated}

replacing : {old new : List Entry} {env : Environment} {earlier v : KnownValues} {count : ℕ} {list : List ℕ} → Altered old new env earlier v count list → Replacing (writing old) (writing new) env v
replacing a = record { sizes = a.sizes; before-is = a.before-is; after_is = a.after_is; old-known = a.old-known; new-known = a.new-known }

pub propagated :
    {k : ℕ} {C : Columns} {written kept : List ℤ} {new : List Entry} {earlier v v' : KnownValues} {u u' : SettingUses} {status status' : List ℕ} {view view' : List ℤ} {count : ℕ} {list : List ℕ} →
    Altered (writes_at C written k) new (values_at C written kept k) earlier v count list →
    (status' ≡ marked_settings C u.readers (k + 1) (take count list) status) × Marked (k + 1) C status' u u' →
    view' ≡ followed u'.writers (k + 1) v.after (take count list) view →
    v'.known ≡ v.known →
    v'.before ≡ restored (take count list) v.after v.before →
    v'.after ≡ v.after →
    Propagated k C written kept new status view u status' view' u' v'
propagated {k} {v = v} {v'} {u} {u'} {view = view} {count = count} {list} a m f n b e =
    record {
      changed = take count list;
      settings = a.settings;
      differing = a.differing;
      renewed = λ x l h. ap (λ (values : List ℤ). value_in values x) e ∙ a.renewed x l h;
      marked = m.0;
      uses = m.1;
      viewed = f ∙ ap₂ (λ (writers : List ℕ) (values : List ℤ). followed writers (k + 1) values (take count list) view) m.1.writers (sym e);
      values = restored-known (take count list) (replacing a) a.differing n b e;
    }
