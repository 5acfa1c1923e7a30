-- The values as of a position, and the change at it, in tables that are in form, as they are in the history that the tables hold.
use mathlib.Core.Path.{◌≡◌, refl, sym, ap, subst⁻¹, fun_ext, ◌∙◌}
use mathlib.Core.Bool.{true}
use mathlib.Core.List.{List, [], ◌∷◌}
use Prim.Native.Nat.{ℕ, zero, suc, ◌≤◌, ◌<◌}
use native.Mathlib.Omega.{arith}
use lib.IntN.{ℤ}
use lib.ListN.{length, get_or, take}
use Rattle.machine.specs.Settings.{setting_count, Environment, value_in, Entry, entries, Distinct}
use Rattle.machine.specs.Instruction.{Code}
use Rattle.machine.specs.Form.{all_well_formed}
use Rattle.model.specs.History.{Change, program, lists, after_all}
use Rattle.model.specs.Cabinet.{kept_values_in, blank}
use Rattle.model.specs.Tables.{Tables, settings_of, held_count, program_at, read_entries_at, decode}
use Rattle.model.specs.Form.{Formed}
use Rattle.model.specs.Sound.{ChangeSound}
use Rattle.model.proofs.Entries.{settings-entries}
use Rattle.model.proofs.Form.{facts}
use Rattle.model.proofs.Tables.{length-short, sound-at, program-back, reads-back}
use Rattle.writers.proofs.Model.{after-below}
use Rattle.search.proofs.Model.{history_in, held-changes, by_place}
use Rattle.writers.specs.Writers.{OfSettings}
use Rattle.values.specs.Values.{values_below}

-- ---- the settings of a run's writes

settings-below : (l : List Entry) → Distinct l → (i : ℕ) → i < length (settings_of l) → get_or (settings_of l) i 0 < setting_count
unfolding Distinct
settings-below [] d i h = absurd (omega arith)
settings-below (e ∷ l) d zero h = d.0
settings-below (e ∷ l) d (suc i) h = settings-below l d.2 i (omega arith)

pub new-settings : (count : ℕ) (settings : List ℕ) (values : List ℤ) → count ≤ length values → Distinct (entries count settings values) → OfSettings (take count settings)
new-settings count settings values b d =
    record { below = rw (sym (settings-entries count settings values b)) (settings-below (entries count settings values) d) }

-- ---- in some tables

-- the values as of a position, by the tables and by the history
abbrev pub below_in : Tables → ℕ → Environment
below_in T k = values_below T.order T.writes T.targets T.written T.kept k

abbrev pub upto_in : Tables → ℕ → Environment
upto_in T k = after_all (take k (history_in T)) (kept_values_in (decode T))

-- the kept values, by the tables and by what they hold
pub kept_in : (T : Tables) → kept_values_in (decode T) ≡ value_in T.kept
unfolding decode
kept_in T = refl

module _ {n : ℕ} {T : Tables} (g : Formed n T) where
  pub values-below : (k : ℕ) → k ≤ held_count T → below_in T k ≡ upto_in T k
  values-below k h = rw (kept_in T) (fun_ext (λ s. sym (after-below g (value_in T.kept) s k h)))

  module _ (k : ℕ) (h : k < held_count T) where
    abbrev place : ℕ
    place = get_or T.order k 0

    abbrev here : Change
    here = get_or (history_in T) k blank

    place-held : place < length (decode T).changes
    place-held = omega (arith, (facts g).form.places k h, held-changes g)

    pub here-sound : ChangeSound here
    here-sound = rw (by_place g k h) at (sound-at (decode T).changes place (facts g).sound.each place-held)

    -- for `run_at`: its program
    pub program-here : program_at T place ≡ program here
    program-here =
        ap (λ (U : Tables). program_at U place) (sym (facts g).laid)
        ∙ program-back n (decode T) (facts g).sound place place-held
        ∙ ap program (by_place g k h)

    pub program-size : length (program here).bytes ≤ 256
    program-size = length-short (program here).bytes here-sound.sized

    pub program-formed : all_well_formed (program_at T place).bytes ≡ true
    program-formed = subst⁻¹ (λ (p : Code). all_well_formed p.bytes ≡ true) program-here here-sound.formed

    -- for `seen_hold`: its reads
    pub reads_here : read_entries_at T place ≡ (lists here).reads
    reads_here =
        ap (λ (U : Tables). read_entries_at U place) (sym (facts g).laid)
        ∙ reads-back n (decode T) (facts g).sound place place-held
        ∙ ap (λ (c : Change). (lists c).reads) (by_place g k h)
