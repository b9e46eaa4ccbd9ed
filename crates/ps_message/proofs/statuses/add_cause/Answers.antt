use Rattle.std.proofs.Common.{ℕ, List, ◌++◌, codes, ap, sym, ◌∙◌}
use Rattle.ps_message.specs.Ending.{cause_shown, channel_shown, field_shown}
use Rattle.ps_text.proofs.Joining.{two_more}
use Rattle.ps_message.proofs.statuses.add_cause.Goals as goal

pub returns-in_ok-add_field-in-Differ : goal.returns-in_ok-add_field-in-Differ
returns-in_ok-add_field-in-Differ c =
    let old : List ℕ = c.args.message.now in
    let name : List ℕ = c.args.name.now in
    two_more old (codes "the reports of the channels differ, first in ") (field_shown c.from.result name) c.extend_from_slice.new.self
    c.add_field.new.message c.in_ok-extend_from_slice-in-Differ.ensures c.in_ok-add_field-in-Differ.ensures
    ∙ ap (λ (n : ℕ). old ++ (codes "the reports of the channels differ, first in " ++ field_shown n name)) c.from.ensures
    ∙ ap (λ cause. old ++ cause_shown cause name) (sym c.in-Differ.is)

pub returns-in_ok-extend_from_slice-in-NoReport : goal.returns-in_ok-extend_from_slice-in-NoReport
returns-in_ok-extend_from_slice-in-NoReport c =
    two_more c.args.message.now (channel_shown c.in-NoReport.channel) (codes " has no report: an output, Ready or Error is a byte that is no Boolean")
    c.add_channel-in-NoReport.new.message c.extend_from_slice-in-NoReport.new.self c.in_ok-add_channel-in-NoReport.ensures
    c.in_ok-extend_from_slice-in-NoReport.ensures
    ∙ ap (λ cause. c.args.message.now ++ cause_shown cause c.args.name.now) (sym c.in-NoReport.is)
