use Rattle.ps_bench_cases.proofs.strike.struck_said.Goals as goal

pub returns : goal.returns
returns c =
    let bytes = c.in_ok-bytes.ensures in
    let offset = c.number_said.ensures in
    let first = c.both-place.ensures in
    let region = c.region_said.ensures in
    let second = c.both-place-2.ensures in
    let channel = c.channel_said.ensures in
    let third = c.both.ensures in
    let fourth = c.both-2.ensures in
    let strike = c.strike_of.ensures in
    cc
