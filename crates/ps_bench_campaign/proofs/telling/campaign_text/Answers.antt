use Rattle.std.proofs.Common.{◌≡◌, ◌∙◌, ◌++◌}
use Rattle.ps_bench_campaign.specs.Asking.{printed_text, room_in, wanted_by}
use Rattle.ps_bench_trials.specs.Steps.{items_in}
use Rattle.ps_bench_trials.specs.Totals.{totals_text}
use Rattle.ps_bench_campaign.specs.Campaigns.{campaign, room_of}
use Rattle.ps_world.specs.Whole.{machines_in}
use Rattle.ps_bench_campaign.proofs.telling.campaign_text.Goals as goal

pub returns : goal.returns
returns c = λ setup is.
    let net = c.args.app.now in
    let m = machines_in setup in
    let r = c.args.recorded.now in
    let items = items_in r.course.steps.items in
    let wanted = wanted_by c.args.asked.now in
    let app = c.args.name.now in
    let here : c.in_ok-sizes.sizes ≡ _ = c.in_ok-sizes.ensures setup is in
    let room_is : c.room_of-room.result ≡ room_in net m items wanted.channel =
    c.room_of-room.ensures ∙ (λ i. room_of net (here i) (c.requires.course.count i) wanted.channel) in
    let tally_is : c.in_ok-tally.tally ≡ campaign net m items (room_in net m items wanted.channel) wanted.from wanted.count =
    c.in_ok-tally.ensures.counts setup is ∙ (λ i. campaign net m items (room_of net (here i) (c.requires.course.count i) wanted.channel) wanted.from wanted.count) in
    c.in_ok-add_totals.ensures
    ∙ (λ i. c.in_ok-add_printed.ensures i ++ totals_text app (c.as_slice.ensures i) (tally_is i))
    ∙ (λ i. (c.new-text.ensures i ++ printed_text net (room_is i) wanted) ++ totals_text app r.name (campaign net m items (room_in net m items wanted.channel) wanted.from wanted.count))
