-- One change more is looked at.
use Rattle.std.proofs.Common.{◌≡◌, ◌+◌, ◌∙◌, refl, ap}
use Rattle.uses.specs.declared.SettingUses.{SettingUses}
use Rattle.uses.specs.Columns.{writes_setting, lent_columns}
use Rattle.uses.specs.Uses.{Numbers, numbered, last_from}
use Rattle.uses.proofs.LastUses.{uses-none, readers-noted, readers-kept, writers-noted}
use Rattle.uses.proofs.SettingUses.note_last.Goals as goal
use Rattle.uses.proofs.SettingUses.note_last.Goals.{then-valid, else-valid}

pub loop-p-init : goal.loop-p-init
loop-p-init c = (uses-none c.args.from c.requires.4.readers c.requires.4.writers, refl)

pub loop-p-preserved : goal.loop-p-preserved
loop-p-preserved c =
    let C = lent_columns c.args.columns.now in
    let h = c.loop-p.auto.p in
    let u = c.loop-p.invariant.0 in
    let wrote : (c.if-valid.self.writers ≡ c.loop-p.self.writers) → Numbers c.note_at-in-loop-p.new.numbers (λ s. last_from (writes_setting C s) c.args.from (c.loop-p.p + 1)) =
    λ e. writers-noted C h u.wrote (c.note_at-in-loop-p.ensures ∙ ap (numbered _ _) e) in
    elim c.if-valid.branch [
      | then-valid w ↦ (
        record { read = readers-noted C h c.args.status.now u.read w.if-valid.true (ap (λ (s : SettingUses). s.readers) w.self-is ∙ w.note_at.ensures); wrote = wrote (ap (λ (s : SettingUses). s.writers) w.self-is) },
        ap (λ (s : SettingUses). s.settled) w.self-is ∙ c.loop-p.invariant.1,
      )
      | else-valid w ↦ (
        record { read = readers-kept C h c.args.status.now u.read w.if-valid.false (ap (λ (s : SettingUses). s.readers) w.self-is); wrote = wrote (ap (λ (s : SettingUses). s.writers) w.self-is) },
        ap (λ (s : SettingUses). s.settled) w.self-is ∙ c.loop-p.invariant.1,
      )
    ]
