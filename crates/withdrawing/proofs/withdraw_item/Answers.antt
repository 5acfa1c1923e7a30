-- An outcome for each return, whatever the other tables are; the slots are there, since the tables are in form.
use Rattle.std.specs.Option.{ok_or}
use Rattle.std.proofs.Common.{◌≡◌, ◌∙◌, sym, ap, set, get_or, arith}
use Rattle.std.proofs.lemmas.Result.{err_from_is_err_and}
use borrow.Author.Tests.{lt-ltb, le-ltb}
use Rattle.model.specs.Answers.{Answer}
use Rattle.model.specs.Calls.{reply}
use Rattle.model.specs.declared.Refusal.TheVariants.{NotHeld}
use Rattle.model.proofs.Form.{facts}
use Rattle.search.proofs.Model.{placed}
use Rattle.withdrawing.specs.Withdrawing.{with_lent}
use Rattle.withdrawing.proofs.Model.{no-timestamp-replied, cut-replied, withdrawable, not-held-replied, already-replied, done-replied}
use Rattle.withdrawing.proofs.withdraw_item.Goals as goal

pub returns-then-not-is_timestamp : goal.returns-then-not-is_timestamp
returns-then-not-is_timestamp c =
    record { answered = λ T g. no-timestamp-replied g c.args.timestamp (sym c.is_timestamp.ensures ∙ c.if-not-is_timestamp.true) }

pub bounds-cutoff-0 : goal.bounds-cutoff-0
bounds-cutoff-0 c = omega (arith, (facts c.requires.formed).sizes.cutoff)

pub returns-then-timestamp-cutoff : goal.returns-then-timestamp-cutoff
returns-then-timestamp-cutoff c =
    record { answered = λ T g. cut-replied g c.args.timestamp (sym c.is_timestamp.ensures ∙ c.if-not-is_timestamp.false) (lt-ltb _ _ c.if-timestamp-cutoff.true) }

pub held_count-count-requires : goal.held_count-count-requires
held_count-count-requires c = (facts c.requires.formed).sizes.held

pub position-requires : goal.position-requires
position-requires c =
    let g = c.requires.formed in
    placed g _ _ (omega (arith, c.held_count-count.ensures)) (facts g).sizes.timestamps

pub returns-in_err-k : goal.returns-in_err-k
returns-in_err-k c =
    let p = err_from_is_err_and c.from_residual.result c.from_residual.ensures.1 in
    let same = c.in_err-k.ensures.value ∙ ap (λ o. ok_or o NotHeld) c.in_err-k.ensures.ok_part in
    let refusal : c.in_err-k.field-0.0 ≡ NotHeld = cc in
    rw (p.1, p.2, refusal)
    (record { answered = λ T g. not-held-replied g c.args.timestamp c.held_count-count.ensures c.position.ensures (sym c.is_timestamp.ensures ∙ c.if-not-is_timestamp.false) (le-ltb _ _ c.if-timestamp-cutoff.false) c.in_err-k.ensures.ok_part })

pub bounds-order-k : goal.bounds-order-k
bounds-order-k c = (withdrawable c.requires.formed c.args.timestamp c.held_count-count.ensures c.position.ensures c.in_ok-k.ensures.ok_part).within

pub bounds-withdrawn-place : goal.bounds-withdrawn-place
bounds-withdrawn-place c = (withdrawable c.requires.formed c.args.timestamp c.held_count-count.ensures c.position.ensures c.in_ok-k.ensures.ok_part).flagged

pub returns-then-withdrawn-place-ne0 : goal.returns-then-withdrawn-place-ne0
returns-then-withdrawn-place-ne0 c =
    record {
      answered = λ T g.
          already-replied g c.args.timestamp c.held_count-count.ensures c.position.ensures (sym c.is_timestamp.ensures ∙ c.if-not-is_timestamp.false) (le-ltb _ _ c.if-timestamp-cutoff.false) c.in_ok-k.ensures.ok_part c.if-withdrawn-place-ne0.true;
    }

pub bounds-withdrawn-place-2 : goal.bounds-withdrawn-place-2
bounds-withdrawn-place-2 c = (withdrawable c.requires.formed c.args.timestamp c.held_count-count.ensures c.position.ensures c.in_ok-k.ensures.ok_part).flagged

pub bounds-status-place : goal.bounds-status-place
bounds-status-place c = (withdrawable c.requires.formed c.args.timestamp c.held_count-count.ensures c.position.ensures c.in_ok-k.ensures.ok_part).standing

pub bounds-status-place-2 : goal.bounds-status-place-2
bounds-status-place-2 c = (withdrawable c.requires.formed c.args.timestamp c.held_count-count.ensures c.position.ensures c.in_ok-k.ensures.ok_part).standing

pub returns : goal.returns
returns c =
    let a = c.args in
    let i = get_or a.order.now c.in_ok-k.k 0 in
    record {
      answered = λ T g.
          ap (λ s. reply Answer.Done (with_lent T a.held.now a.timestamps.now a.order.now (set a.status.now i s) (set a.withdrawn.now i 1) a.cutoff.now)) c.unsettled.ensures
          ∙ done-replied g c.args.timestamp c.held_count-count.ensures c.position.ensures (sym c.is_timestamp.ensures ∙ c.if-not-is_timestamp.false) (le-ltb _ _ c.if-timestamp-cutoff.false) c.in_ok-k.ensures.ok_part c.if-withdrawn-place-ne0.false;
    }
