use Rattle.ps_bench_cover.proofs.Begun.{begun_runner, begun_unseen, begun_whole}
use Rattle.ps_bench_cover.proofs.running.begun.Goals as goal

pub returns-clause-begins : goal.returns-clause-begins
returns-clause-begins c =
    let net = c.args.app.now in
    let begun = c.in_ok-cover.cover in
    let is = c.in_ok-cover.ensures in
    begun_runner net c.in_ok-performer.performer (record { cover = begun }) c.for_app.result c.for_app.ensures.performer c.for_app.ensures.taker (record {
      stands = c.in_ok-performer.ensures.first;
      first = is.first;
      whole = begun_whole net begun is.points is.none_off is.none_on;
      unseen = begun_unseen net begun is.points is.none_off is.none_on;
    })
