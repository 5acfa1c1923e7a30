-- The entry of this turn holds or fails, and so do those from it on.
use Rattle.std.proofs.Common.{rules, ◌≡◌, ◌∙◌, sym, length, length-append, arith}
use Rattle.std.proofs.lemmas.Slice.Zip.{zip_turn, zip_end}
use Rattle.values.proofs.Known.{looked-none, looked-more}
use Rattle.values.proofs.Seen.{rest_all, rest-ends, rest-holds, rest-fails}
use Rattle.values.proofs.KnownValues.seen_hold.Goals as goal

pub loop-s-init : goal.loop-s-init
loop-s-init c = (rest_all _ _ _, looked-none c.requires.2.right)

pub returns-then-not-holds : goal.returns-then-not-holds
returns-then-not-holds c =
    let t = zip_turn c.args.sources.now c.args.seen.now c.loop-s.yielded c.into_iter-s-iterator.result c.loop-s.s-iterator c.next.new.self c.next.result (search rules) (search rules) c.loop-s.yielded_by (c.in-Some.s, c.in-Some.v) c.in-Some.is c.next.ensures.steps in (
      rest-fails c.args.sources.now c.args.seen.now _ (length c.loop-s.yielded) t.0 c.requires.0 (t.2 _) (t.3 _) c.value_of.ensures.0 c.if-not-holds.true ∙ c.loop-s.invariant.0,
      looked-more c.loop-s.invariant.1 c.value_of.ensures.2,
    )

pub loop-s-preserved : goal.loop-s-preserved
loop-s-preserved c =
    let t = zip_turn c.args.sources.now c.args.seen.now c.loop-s.yielded c.into_iter-s-iterator.result c.loop-s.s-iterator c.next.new.self c.next.result (search rules) (search rules) c.loop-s.yielded_by (c.in-Some.s, c.in-Some.v) c.in-Some.is c.next.ensures.steps in
    let e : c.value_of.result ≡ c.in-Some.v.now = search rules in (
      rw length-append (rest-holds c.args.sources.now c.args.seen.now _ (length c.loop-s.yielded) t.0 c.requires.0 (t.2 _) (t.3 _) c.value_of.ensures.0 e ∙ c.loop-s.invariant.0),
      looked-more c.loop-s.invariant.1 c.value_of.ensures.2,
    )

pub returns : goal.returns
returns c =
    let t = zip_end c.args.sources.now c.args.seen.now c.loop-s.yielded c.into_iter-s-iterator.result c.loop-s.s-iterator c.next.new.self c.next.result (search rules) (search rules) c.loop-s.yielded_by c.in-None.is c.next.ensures.steps in
    (sym (rest-ends c.args.sources.now c.args.seen.now _ (length c.loop-s.yielded) (omega arith)) ∙ c.loop-s.invariant.0, c.loop-s.invariant.1)
