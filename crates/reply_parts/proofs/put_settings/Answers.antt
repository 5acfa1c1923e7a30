-- `reply_parts::put_settings` meets its contract: line by line. Assumes nothing.
use Rattle.std.proofs.Common.{ap, ℕ, SFits, w32, arith, rules}
use Rattle.text.specs.Pieces.{pieces_below}
use Rattle.text.proofs.Pieces.{put_as}
use Rattle.text.proofs.Below.{below_none, below_next, below_all}
use Rattle.machine.specs.Settings.{value_in}
use Rattle.reply_parts.specs.Parts.{setting_of, setting_lines}
use Rattle.reply_parts.proofs.Values.{setting-read}
use Rattle.reply_parts.proofs.put_settings.Goals as goal

pub loop-setting-init : goal.loop-setting-init
loop-setting-init c = below_none _ _ _ _ _

pub loop-setting-preserved : goal.loop-setting-preserved
loop-setting-preserved c =
    let first : SFits w32 c.start_value.result = search rules in
    let value : SFits w32 (value_in c.args.view.now c.loop-setting.setting) = search rules in
    let e = setting-read c.loop-setting.setting c.args.view.now first c.start_value.ensures value in
    below_next c.loop-setting.invariant c.loop-setting-test.true (omega arith) (put_as c.put_setting-end.ensures.put e) c.put_setting-end.ensures.upper_bound c.put_setting-end.auto.text

pub returns-clause-put : goal.returns-clause-put
unfolding setting_lines
returns-clause-put c =
    put_as (below_all c.loop-setting.invariant c.loop-setting-test.false) (ap (λ (k : ℕ). pieces_below k (setting_of c.args.view.now)) c.requires.0)
