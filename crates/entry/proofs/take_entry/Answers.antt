-- By its kind, the entry's item is taken in or withdrawn.
use Rattle.std.proofs.Common.{◌∙◌, sym, arith}
use Rattle.std.proofs.lemmas.Result.{err_from_is_err_and}
use Rattle.model.specs.Package.{item_at}
use Rattle.packages.proofs.Items.{item-taking, item-withdrawing}
use Rattle.entry.specs.Entry.{with_lent}
use Rattle.entry.proofs.Entry.{bytes-short, entry-inside, body-inside, formed-on, answered-on}
use Rattle.entry.proofs.take_entry.Goals as goal

pub timestamp_at-t-requires : goal.timestamp_at-t-requires
timestamp_at-t-requires c = entry-inside c.requires

pub kind_at-requires : goal.kind_at-requires
kind_at-requires c = entry-inside c.requires

-- ---- a change

pub count_at-requires : goal.count_at-requires
count_at-requires c = entry-inside c.requires

pub overflow_add-end : goal.overflow_add-end
overflow_add-end c = omega (arith, body-inside c.requires c.count_at.ensures, bytes-short c.requires)

pub version_at-requires : goal.version_at-requires
version_at-requires c = entry-inside c.requires

pub slice_bounds-take_item-end : goal.slice_bounds-take_item-end
slice_bounds-take_item-end c = omega (arith, body-inside c.requires c.count_at.ensures)

pub take_item-requires : goal.take_item-requires
take_item-requires c =
    let a = c.args in
    formed-on (λ T. with_lent T a.held.now a.timestamps.now a.order.now a.status.now a.withdrawn.now a.lengths.now a.programs.now a.versions.now a.cutoff.now) c.requires.formed

pub returns-then-kind_at-eq0 : goal.returns-then-kind_at-eq0
returns-then-kind_at-eq0 c =
    let a = c.args in
    answered-on (λ T. with_lent T a.held.now a.timestamps.now a.order.now a.status.now a.withdrawn.now a.lengths.now a.programs.now a.versions.now a.cutoff.now) (item_at a.bytes.now a.j) c.take_item.ensures
    (item-taking a.bytes.now a.j c.timestamp_at-t.ensures (sym c.kind_at.ensures ∙ c.if-kind_at-eq0.true) c.requires.begins c.count_at.ensures c.version_at.ensures)

-- ---- a withdrawal

pub withdraw_item-requires : goal.withdraw_item-requires
withdraw_item-requires c =
    let a = c.args in
    formed-on (λ T. with_lent T a.held.now a.timestamps.now a.order.now a.status.now a.withdrawn.now a.lengths.now a.programs.now a.versions.now a.cutoff.now) c.requires.formed

pub returns-in_err-withdraw_item : goal.returns-in_err-withdraw_item
returns-in_err-withdraw_item c =
    let a = c.args in
    let p = err_from_is_err_and c.from_residual.result c.from_residual.ensures.1 in
    rw (p.1, p.2)
    (answered-on (λ T. with_lent T a.held.now a.timestamps.now a.order.now a.status.now a.withdrawn.now a.lengths.now a.programs.now a.versions.now a.cutoff.now) (item_at a.bytes.now a.j) c.in_err-withdraw_item.ensures
    (item-withdrawing a.bytes.now a.j c.timestamp_at-t.ensures (λ z. c.if-kind_at-eq0.false (c.kind_at.ensures ∙ z))))

pub returns : goal.returns
returns c =
    let a = c.args in
    answered-on (λ T. with_lent T a.held.now a.timestamps.now a.order.now a.status.now a.withdrawn.now a.lengths.now a.programs.now a.versions.now a.cutoff.now) (item_at a.bytes.now a.j) c.in_ok-withdraw_item.ensures
    (item-withdrawing a.bytes.now a.j c.timestamp_at-t.ensures (λ z. c.if-kind_at-eq0.false (c.kind_at.ensures ∙ z)))
