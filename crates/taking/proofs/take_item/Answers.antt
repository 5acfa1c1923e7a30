-- An outcome for each return, whatever the other tables are; the slots are there, since the tables are in form.
use Rattle.std.proofs.Common.{sym, get_or, arith}
use Rattle.std.proofs.lemmas.Result.{err_from_is_err_and}
use Rattle.machine.specs.Instruction.{code}
use Rattle.model.proofs.Answered.{refused-not-0}
use Rattle.model.proofs.Form.{facts}
use Rattle.search.proofs.Model.{placed}
use Rattle.taking.proofs.Answers.{acceptable}
use Rattle.taking.proofs.Model.{refused-replied, at-rank, place-held, held-replied, full-replied, done-replied, room-found}
use Rattle.taking.proofs.take_item.Goals as goal

pub bounds-cutoff-0 : goal.bounds-cutoff-0
bounds-cutoff-0 c = omega (arith, (facts c.requires.formed).sizes.cutoff)

pub returns-in_err-refusal_of : goal.returns-in_err-refusal_of
returns-in_err-refusal_of c =
    let p = err_from_is_err_and c.from_residual.result c.from_residual.ensures.1 in
    rw (p.1, p.2) (record { answered = λ T g. refused-replied g c.args.timestamp (code c.args.version c.args.program.now) c.in_err-refusal_of.ensures (refused-not-0 _) })

pub held_count-count-requires : goal.held_count-count-requires
held_count-count-requires c = (facts c.requires.formed).sizes.held

pub rank-position-requires : goal.rank-position-requires
rank-position-requires c =
    let g = c.requires.formed in
    placed g _ _ (omega (arith, c.held_count-count.ensures)) (facts g).sizes.timestamps

pub stamped_at-requires : goal.stamped_at-requires
stamped_at-requires c =
    let g = c.requires.formed in
    placed g _ _ (omega (arith, c.held_count-count.ensures)) (facts g).sizes.timestamps

-- ---- the timestamp is held

pub bounds-order-position : goal.bounds-order-position
bounds-order-position c = (place-held c.requires.formed (at-rank c.held_count-count.ensures c.rank-position.ensures) (sym c.if-stamped_at.ensures)).within

pub compare-requires : goal.compare-requires
compare-requires c =
    let h = place-held c.requires.formed (at-rank c.held_count-count.ensures c.rank-position.ensures) (sym c.if-stamped_at.ensures) in
    (h.place, h.blocks, h.short, h.versioned)

pub returns-then-stamped_at : goal.returns-then-stamped_at
returns-then-stamped_at c =
    let a = acceptable (get_or c.args.cutoff.now 0 0) c.args.timestamp (code c.args.version c.args.program.now) (sym c.in_ok-refusal_of.ensures) in
    record { answered = λ T g. held-replied g (at-rank c.held_count-count.ensures c.rank-position.ensures) a (sym c.if-stamped_at.ensures) c.compare.ensures }

-- ---- it is not

pub returns-then-count-timestamps : goal.returns-then-count-timestamps
returns-then-count-timestamps c =
    let a = acceptable (get_or c.args.cutoff.now 0 0) c.args.timestamp (code c.args.version c.args.program.now) (sym c.in_ok-refusal_of.ensures) in
    record { answered = λ T g. full-replied g (at-rank c.held_count-count.ensures c.rank-position.ensures) a (sym c.if-stamped_at.ensures) c.if-count-timestamps.true }

pub bounds-timestamps-count : goal.bounds-timestamps-count
bounds-timestamps-count c =
    omega (arith, room-found c.requires.formed c.args.timestamp (code c.args.version c.args.program.now) c.held_count-count.ensures c.rank-position.ensures c.in_ok-refusal_of.ensures c.if-count-timestamps.false)

pub enter_next-requires : goal.enter_next-requires
enter_next-requires c =
    let m = room-found c.requires.formed c.args.timestamp (code c.args.version c.args.program.now) c.held_count-count.ensures c.rank-position.ensures c.in_ok-refusal_of.ensures c.if-count-timestamps.false in
    (m.positioned, omega (arith, m), omega (arith, m))

pub overflow_cast-lengths : goal.overflow_cast-lengths
overflow_cast-lengths c =
    omega (arith, room-found c.requires.formed c.args.timestamp (code c.args.version c.args.program.now) c.held_count-count.ensures c.rank-position.ensures c.in_ok-refusal_of.ensures c.if-count-timestamps.false)

pub bounds-lengths-count : goal.bounds-lengths-count
bounds-lengths-count c =
    omega (arith, room-found c.requires.formed c.args.timestamp (code c.args.version c.args.program.now) c.held_count-count.ensures c.rank-position.ensures c.in_ok-refusal_of.ensures c.if-count-timestamps.false)

pub bounds-versions-count : goal.bounds-versions-count
bounds-versions-count c =
    omega (arith, room-found c.requires.formed c.args.timestamp (code c.args.version c.args.program.now) c.held_count-count.ensures c.rank-position.ensures c.in_ok-refusal_of.ensures c.if-count-timestamps.false)

pub copy_in-requires : goal.copy_in-requires
copy_in-requires c =
    omega (arith, room-found c.requires.formed c.args.timestamp (code c.args.version c.args.program.now) c.held_count-count.ensures c.rank-position.ensures c.in_ok-refusal_of.ensures c.if-count-timestamps.false)

pub overflow_cast-held : goal.overflow_cast-held
overflow_cast-held c =
    omega (arith, room-found c.requires.formed c.args.timestamp (code c.args.version c.args.program.now) c.held_count-count.ensures c.rank-position.ensures c.in_ok-refusal_of.ensures c.if-count-timestamps.false)

pub bounds-held-0 : goal.bounds-held-0
bounds-held-0 c = omega (arith, (facts c.requires.formed).sizes.held)

pub returns : goal.returns
returns c =
    let a = acceptable (get_or c.args.cutoff.now 0 0) c.args.timestamp (code c.args.version c.args.program.now) (sym c.in_ok-refusal_of.ensures) in
    record {
      answered = λ T g.
          done-replied g (at-rank c.held_count-count.ensures c.rank-position.ensures) a (sym c.if-stamped_at.ensures) c.if-count-timestamps.false c.enter_next.ensures c.copy_in.ensures;
    }
