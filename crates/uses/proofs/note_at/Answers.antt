-- The part of the table that is lent is the place's list.
use Rattle.std.proofs.Common.{◌∙◌, ap, List, ℕ}
use Rattle.uses.specs.Uses.{numbered}
use Rattle.uses.proofs.Lists.{lent-list}
use Rattle.uses.proofs.note_at.Goals as goal

pub returns : goal.returns
returns c = c.note_list.ensures ∙ ap (λ (l : List ℕ). numbered l c.args.number c.args.numbers.now) (lent-list c.args.place c.args.counts.now c.args.settings.now)
