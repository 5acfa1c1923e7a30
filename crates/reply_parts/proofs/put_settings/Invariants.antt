-- So many lines are put, one for each setting passed.
use Rattle.std.proofs.Common.{length}
use Rattle.text.proofs.Below.{Below}
use Rattle.reply_parts.specs.Parts.{setting_of}
use Rattle.reply_parts.proofs.put_settings.Given as goal

abbrev pub invariant-loop-setting : goal.invariant-loop-setting
invariant-loop-setting l = Below (setting_of l.view) 64 l.at (length l.view) l.initial.text l.text l.end l.setting
