use Rattle.std.proofs.Common.{◌≡◌, Err, ap, arith}
use Rattle.ps_cover.specs.Applying.{scans_of}
use Rattle.ps_cover.proofs.Joining.{joins_up}
use Rattle.ps_model.specs.Meaning.{nothing}
use Rattle.ps_runs.specs.declared.items.Cut.TheVariants.{Refused}
use Rattle.ps_trace.specs.Reading.{items_left}
use Rattle.ps_bench_cover.proofs.Done.{covered, done_refused, done_whole}
use Rattle.ps_bench_cover.proofs.running.add_trace.Goals as goal

pub do_items-requires-clause-due : goal.do_items-requires-clause-due
do_items-requires-clause-due g c =
    let at : c.in_ok-runner.runner.performer.last ≡ 0 = c.in_ok-runner.ensures.begins.stands.time in
    omega (arith, at)

pub returns-in-Ok-clause-adds : goal.returns-in-Ok-clause-adds
returns-in-Ok-clause-adds g c = λ tells text held reading traces first whole knows states means.
    let net = c.args.app.now in
    let begun = c.in_ok-runner.ensures.begins in
    let old = c.in_ok-runner.runner in
    let new = c.do_items.new.runner in
    let does = c.in-Ok.ensures.does tells text held reading in
    let shown = covered net c.sound.ensures _ old.performer old.taker _ does.bytes _ _ _ _ states begun.stands (omega arith) begun.first means does.did in
    joins_up net traces (scans_of net nothing (items_left c.args.trace.now text).items states) first c.args.total.now old.taker.cover new.taker.cover _
    whole knows begun.whole begun.unseen shown c.join.ensures

pub returns-in-Ok-clause-whole : goal.returns-in-Ok-clause-whole
returns-in-Ok-clause-whole g c = λ tells text held reading. done_whole _ _ _ _ _ _ _ _ _ _ _ (c.in-Ok.ensures.does tells text held reading).did

pub returns-clause-refuses : goal.returns-clause-refuses
returns-clause-refuses g c = λ tells text held reading refusal is.
    let same : c.in-Err.cut ≡ Refused refusal = cc in
    done_refused c.args.app.now _ _ _ _ _ _ _ _ _ _ refusal (c.in-Err.ensures.does tells text held reading).did (ap Err same)
