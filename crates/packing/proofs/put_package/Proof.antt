-- `packing::put_package` meets its contract: refused, or its parts one after the other. Assumes nothing.
use mathlib.Core.Path.{◌≡◌, sym, ap, ◌∙◌}
use Prim.Native.Nat.{ℕ, ◌+◌, ◌*◌, ◌≤◌}
use native.Mathlib.Omega.{arith}
use borrow.Author.Rules.{rules}
use lib.ListN.{length}
use Rattle.text.specs.Pieces.{Put}
use Rattle.packing.specs.Packing.{entries_in, package_in}
use Rattle.package_parts.proofs.Lengths.{changes-length, withdrawals-length}
use Rattle.packing.proofs.Outcomes.{few-flags, few-instructions, package-length, packed-refused, limits, packed-put, parts-put}
use Rattle.general.proofs.Places.{the}
use Rattle.packing.proofs.put_package.Statement.{statement}
use Rattle.packing.proofs.put_package.Tie as tie

-- the entry, from where the entries and from where the instructions are counted
abbrev started : tie.After-total → tie.Start
started c = search

abbrev entry : tie.After-total-2 → tie.Start
entry c = started (search)

-- past the test
abbrev tested : tie.After-put_little_endian-end → tie.Else-not-entries-size
tested c = search

-- the number, from the changes; these from the withdrawals; these from the bodies; the bodies from the return
abbrev numbered : tie.After-put_changes-end → tie.After-put_little_endian-end
numbered c = search

abbrev changed : tie.After-put_withdrawals-end → tie.After-put_changes-end
changed c = search

abbrev cleared : tie.After-put_bodies-end → tie.After-put_withdrawals-end
cleared c = search

-- how many entries there are
counted : (c : tie.After-total) → let a = (started c).args in a.count + c.total.result ≡ entries_in a.order.now a.withdrawn.now a.count
counted c = ap (λ (k : ℕ). (started c).args.count + k) c.total.ensures

-- how long the package is
sized : (c : tie.After-total-2) → let a = (entry c).args in 2 + 12 * (a.count + c.before.total.result) + 8 * c.total-2.result ≡ length (package_in a.order.now a.timestamps.now a.withdrawn.now a.lengths.now a.programs.now a.versions.now a.count)
sized c = omega (arith, counted (search), c.total-2.ensures, package-length (entry c).requires)

-- within its limits and the slice
fits : (c : tie.Else-not-entries-size) → let a = (entry c.before).args in (a.count + c.before.before.total.result ≤ 512) × (2 + 12 * (a.count + c.before.before.total.result) + 8 * c.before.total-2.result ≤ 65535) × (2 + 12 * (a.count + c.before.before.total.result) + 8 * c.before.total-2.result ≤ length a.bytes.now)
fits c = limits (entry c.before).requires (entry c.before).args.bytes.now (counted (search)) (sized c.before) (c.if-not-entries-size.false)

total-requires : tie.Need-total-requires
total-requires c κs =
    let start : tie.Start = search in
    let h = start.requires in
    (h.small, rw h.flags h.placed)

total-requires-2 : tie.Need-total-requires-2
total-requires-2 c κs = let h = (started c).requires in (h.small, rw h.sizes h.placed)

-- the sums are small
small : (c : tie.After-total) → c.total.result ≤ 65535 * 4096
small c = let h = (started c).requires in omega (arith, c.total.ensures, few-flags h, h.small)

small-2 : (c : tie.After-total-2) → c.total-2.result ≤ 65535 * 4096
small-2 c = let h = (entry c).requires in omega (arith, c.total-2.ensures, few-instructions h, h.small)

returns : tie.Need-returns-then-not-entries-size
returns c =
    let t = c.before in
    packed-refused (entry t).requires _ (counted (search)) (sized t) (c.if-not-entries-size.true)

put-changes-requires : tie.Need-put_changes-end-requires
put-changes-requires c κs =
    let n : tie.After-put_little_endian-end = search in
    let e = tested n in
    let h = (entry e.before).requires in
    (h.placed, h.sizes, h.short, h.versioned, h.version, omega (arith, n.put_little_endian-end.ensures.ends, n.put_little_endian-end.auto, (fits e).2))

put-withdrawals-requires : tie.Need-put_withdrawals-end-requires
put-withdrawals-requires c κs =
    let p : tie.After-put_changes-end = search in
    let n = numbered p in
    let e = tested n in
    let s = entry e.before in
    let h = s.requires in
    (h.placed, h.flags, h.flag, omega (arith, n.put_little_endian-end.ensures.ends, n.put_little_endian-end.auto, p.put_changes-end.ensures.ends, p.put_changes-end.auto, changes-length s.args.order.now s.args.timestamps.now s.args.lengths.now s.args.versions.now s.args.count, (the tie.After-total (search)).total.ensures, (fits e).2))

put-bodies-requires : tie.Need-put_bodies-end-requires
put-bodies-requires c κs =
    let w : tie.After-put_withdrawals-end = search in
    let p = changed w in
    let n = numbered p in
    let e = tested n in
    let s = entry e.before in
    let h = s.requires in
    (rw h.sizes h.placed, h.blocks ∙ ap (256 *◌) (sym h.sizes), h.short, omega (arith, n.put_little_endian-end.ensures.ends, n.put_little_endian-end.auto, p.put_changes-end.ensures.ends, p.put_changes-end.auto, w.put_withdrawals-end.ensures.ends, w.put_withdrawals-end.auto, changes-length s.args.order.now s.args.timestamps.now s.args.lengths.now s.args.versions.now s.args.count, withdrawals-length s.args.order.now s.args.timestamps.now s.args.withdrawn.now h.flag s.args.count, (the tie.After-total (search)).total.ensures, e.before.total-2.ensures, (fits e).2))

-- the whole package
put : (c : tie.After-put_bodies-end) → let w = cleared c in let p = changed w in let n = numbered p in let a = (entry (tested n).before).args in Put 0 (package_in a.order.now a.timestamps.now a.withdrawn.now a.lengths.now a.programs.now a.versions.now a.count) a.bytes.now c.put_bodies-end.new.bytes c.put_bodies-end.result
put c =
    let w = cleared c in
    let p = changed w in
    let n = numbered p in
    let t = (tested n).before in
    parts-put (entry t).requires _ (counted (search)) n.put_little_endian-end.ensures p.put_changes-end.ensures w.put_withdrawals-end.ensures c.put_bodies-end.ensures

returns-2 : tie.Need-returns
returns-2 c =
    let b : tie.After-put_bodies-end = search in
    let e = tested (numbered (changed (cleared b))) in
    let t = e.before in
    packed-put (entry t).requires _ (counted (search)) (sized t) (e.if-not-entries-size.false) (put b)

pub put_package_spec : {M : Type 1} → statement M
put_package_spec =
    tie.close
    (tie.spec
    total-requires
    (λ c. omega (arith, small c, (started c).requires.small))
    (λ c. omega (arith, small c, (started c).requires.small))
    (λ c. omega (arith, small c, (started c).requires.small))
    total-requires-2
    (λ c. omega (arith, small-2 c))
    (λ c. omega (arith, small (search), small-2 c, (entry c).requires.small))
    returns
    (λ c κs. omega (arith, (fits (search)).2))
    put-changes-requires
    put-withdrawals-requires
    put-bodies-requires
    (λ c. let t = (tested (numbered (changed (cleared (search))))).before in omega (arith, (put (search)).ends, sized t, (fits (tested (numbered (changed (cleared (search)))))).1))
    (λ c. search rules)
    returns-2)
