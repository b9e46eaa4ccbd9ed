use Rattle.ps_bench_watch.proofs.Watched.{says_as_watch}
use Rattle.ps_bench_watch.proofs.live_laws.live_is_watch.Goals as goal

pub returns : goal.returns
returns c = λ bytes left end said trips are text before lines.
    says_as_watch c.args.app.now c.sound.ensures bytes left end said trips are text lines before
