-- `form_lists::distinct_settings` meets its contract: the settings passed are distinct, and they are those that are marked. Assumes nothing.
use mathlib.Core.Path.{◌≡◌, sym}
use Prim.Native.Nat.{◌+◌, ◌-◌, ◌≤◌}
use native.Mathlib.Omega.{arith}
use borrow.Author.Rules.{rules}
use lib.ListN.{length, drop}
use Rattle.form_lists.proofs.Marks.{Marked, unmarked, answer, failed, passed, kept}
use Rattle.general.proofs.Places.{the}
use Rattle.form_lists.proofs.distinct_settings.Statement.{statement}
use Rattle.form_lists.proofs.distinct_settings.Tie as tie

abbrev invariant-loop : tie.invariant-loop-i
invariant-loop settings marks₀ row i₀ marks i = (i ≤ length settings) × Marked row (drop i settings) marks

abbrev decreases-loop : tie.decreases-loop-i
decreases-loop settings marks₀ row i₀ marks i = i

loop-holds : tie.Need-loop-i-init invariant-loop decreases-loop
loop-holds c = (omega arith, unmarked _ (the (tie.Start invariant-loop decreases-loop) (search)).args.settings.now _ (the (tie.Start invariant-loop decreases-loop) (search)).requires)

returns : tie.Need-returns-then-not-mark invariant-loop decreases-loop
returns c =
    let l = (the (tie.At-loop-i invariant-loop decreases-loop) (search)).loop-i in
    failed (the (tie.Start invariant-loop decreases-loop) (search)).args.settings.now l.i (l.i - 2 + 1) (omega arith) l.invariant.0 l.invariant.1 c.before.mark.ensures c.if-not-mark.true

-- the settings that are marked after the first of a turn
first : (c : tie.Else-not-mark invariant-loop decreases-loop) → let a = c.before.before.before.before.before.before.before.args in Marked a.row (drop (c.before.before.before.before.before.loop-i.i - 2 + 1) a.settings.now) c.before.mark.new.marks
first c =
    let l = (the (tie.At-loop-i invariant-loop decreases-loop) (search)).loop-i in
    passed (the (tie.Start invariant-loop decreases-loop) (search)).args.settings.now l.i (l.i - 2 + 1) (omega arith) l.invariant.0 l.invariant.1 c.before.mark.ensures c.if-not-mark.false

returns-2 : tie.Need-returns-then-not-mark-2 invariant-loop decreases-loop
returns-2 c =
    let i = (the (tie.At-loop-i invariant-loop decreases-loop) (search)).loop-i.i in
    failed (the (tie.Start invariant-loop decreases-loop) (search)).args.settings.now (i - 2 + 1) (i - 2) (omega arith) (omega arith) (first (search)) c.before.mark-in-loop-i.ensures c.if-not-mark-2.true

loop-again : tie.Need-loop-i-preserved invariant-loop decreases-loop
loop-again c =
    let i = (the (tie.At-loop-i invariant-loop decreases-loop) (search)).loop-i.i in
    (omega arith, passed (the (tie.Start invariant-loop decreases-loop) (search)).args.settings.now (i - 2 + 1) (i - 2) (omega arith) (omega arith) (first (search)) c.before.mark-in-loop-i.ensures c.if-not-mark-2.false)

returns-3 : tie.Need-returns-then-i-eq1 invariant-loop decreases-loop
returns-3 c =
    let at-then3 : tie.Then-i-eq1 invariant-loop decreases-loop = search in
    let at-loop : tie.At-loop-i invariant-loop decreases-loop = search in
    let start : tie.Start invariant-loop decreases-loop = search in
    let s = start.args.settings.now in
    let l = at-loop.loop-i in
    let first = at-then3.if-i-eq1.true in
    (answer s l.i 0 first l.invariant.0 l.invariant.1 c.mark-then-i-eq1.ensures, kept s l.i 0 first l.invariant.0 l.invariant.1 c.mark-then-i-eq1.ensures)

returns-4 : tie.Need-returns invariant-loop decreases-loop
returns-4 c =
    let at-loop : tie.At-loop-i invariant-loop decreases-loop = search in
    let l = at-loop.loop-i in
    let m = l.invariant.1 in
    let e : l.i ≡ 0 = omega arith in
    (sym (rw e at m.distinct), m.marked)

pub distinct_settings_spec : {M : Type 1} → statement M
distinct_settings_spec =
    tie.close
    (tie.spec
    invariant-loop
    decreases-loop
    loop-holds
    (λ c. search rules)
    (λ c. search rules)
    (λ c. search rules)
    (λ c. search rules)
    (λ c κs. tt)
    returns
    (λ c. search rules)
    (λ c. search rules)
    (λ c κs. tt)
    returns-2
    (λ c. search rules)
    loop-again
    (λ c. search rules)
    (λ c κs. tt)
    returns-3
    returns-4)
