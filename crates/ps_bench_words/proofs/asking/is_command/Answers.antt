use Rattle.ps_bench_words.proofs.Groups.{is_one}
use Rattle.ps_bench_words.proofs.asking.is_command.Goals as goal

pub returns : goal.returns
returns c = is_one c.args.name.now _ _ _ _ _ _ _ _ _ _ c.of_cases.ensures c.is_among.ensures c.of_traces.ensures c.is_among-2.ensures
    c.of_searches.ensures c.is_among-3.ensures c.of_campaigns.ensures c.is_among-4.ensures c.of_pages.ensures c.is_among-5.ensures
