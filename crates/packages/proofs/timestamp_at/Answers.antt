use Rattle.std.proofs.Common.{◌∙◌, ap, ℕ}
use Rattle.std.specs.Int.{w64, from_le_bytes}
use Rattle.model.specs.Package.{number_at}
use Rattle.packages.proofs.Numbers.{eight_bytes}
use Rattle.packages.proofs.timestamp_at.Goals as goal

pub returns : goal.returns
returns c =
    c.from_le_bytes.ensures
    ∙ ap (from_le_bytes w64) c.copy_from_slice.ensures.after
    ∙ eight_bytes c.args.bytes.now c.entry_at-at.result
    ∙ ap (λ (at : ℕ). number_at c.args.bytes.now at 8) c.entry_at-at.ensures
