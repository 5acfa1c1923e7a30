-- `fresh::apply` meets its contract: the targets of a run are settings, so that the values have them.
use Rattle.std.proofs.Common.{rules, ◌≡◌, ◌<◌, arith, ap, sym, subst, ◌∙◌, length, take, length-take}
use Rattle.std.proofs.Math.Seq.{get_or-take, length-take-le}
use Rattle.machine.specs.Settings.{Distinct, carry}
use Rattle.machine.specs.Run.{Outcome}
use Rattle.machine.proofs.Lists.{run-bounded}
use Rattle.machine.proofs.Entries.{entries-of-settings}
use Rattle.model.proofs.Entries.{entries-take}
use Rattle.fresh.proofs.apply.Goals as goal

pub carry-requires : goal.carry-requires
carry-requires c =
    let r = c.run_program-run in
    let t : length r.new.lists.targets ≡ 32 = search rules in
    let w : length r.new.lists.written ≡ 32 = search rules in
    let distinct = subst (λ (o : Outcome). Distinct o.writes) (sym r.ensures.outcome) (run-bounded _ _ c.requires.0).1.distinct in (
      simp length-take (omega (arith, r.ensures)),
      λ k h.
          let few : k < r.result.writes = omega (arith, length-take r.result.writes r.new.lists.targets) in
          rw get_or-take (omega (arith, entries-of-settings r.result.writes k r.new.lists.targets r.new.lists.written distinct few (omega arith) (omega arith))),
    )

pub returns : goal.returns
returns c =
    let r = c.run_program-run in
    let t : length r.new.lists.targets ≡ 32 = search rules in
    let w : length r.new.lists.written ≡ 32 = search rules in
    let size : length (take r.result.writes r.new.lists.targets) ≡ r.result.writes = length-take-le _ _ (omega arith) in
    (rw (size, entries-take) at c.carry.ensures) ∙ ap (λ (o : Outcome). carry o.writes c.args.values.now) r.ensures.outcome
