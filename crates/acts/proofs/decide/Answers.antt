-- An act for each return, by the tests that led to it.
use Rattle.std.proofs.Common.{◌∙◌, sym}
use Rattle.values.proofs.Known.{looked-none}
use Rattle.acts.proofs.Parts.{seen-list}
use Rattle.acts.proofs.Steps.{clears, runs-new, stands, runs-again}
use Rattle.acts.proofs.decide.Goals as goal

pub returns-then-withdrawn-place-ne0 : goal.returns-then-withdrawn-place-ne0
returns-then-withdrawn-place-ne0 c = (clears _ _ _ c.if-withdrawn-place-ne0.true, looked-none c.requires.1.right)

pub returns-then-status-place-ne2 : goal.returns-then-status-place-ne2
returns-then-status-place-ne2 c =
    (runs-new _ _ _ c.if-withdrawn-place-ne0.false c.if-status-place-ne2.true, looked-none c.requires.1.right)

pub returns-then-seen_hold : goal.returns-then-seen_hold
returns-then-seen_hold c =
    let e = c.seen_hold.ensures.0 ∙ seen-list c.requires.0 _ in
    (stands _ _ _ c.if-withdrawn-place-ne0.false c.if-status-place-ne2.false (sym e ∙ c.if-seen_hold.true), c.seen_hold.ensures.1)

pub returns : goal.returns
returns c =
    let e = c.seen_hold.ensures.0 ∙ seen-list c.requires.0 _ in
    (runs-again _ _ _ c.if-withdrawn-place-ne0.false c.if-status-place-ne2.false (sym e ∙ c.if-seen_hold.false), c.seen_hold.ensures.1)
