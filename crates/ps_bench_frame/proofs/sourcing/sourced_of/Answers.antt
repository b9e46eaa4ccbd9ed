use Rattle.std.proofs.Common.{◌≡◌, ◌∙◌, ℕ, List, Err, IsTrue, sym, ap, subst}
use Rattle.ps_accepted.specs.Answering.{IsFault}
use Rattle.ps_model.specs.Network.{Network}
use Rattle.ps_parser.specs.Tree.{SourceTree}
use Rattle.ps_bench_frame.proofs.Giving.{reads_err}
use Rattle.ps_bench_frame.proofs.Coming.{app_none, app_unread}
use Rattle.ps_bench_frame.specs.Coming.{IsWhyNoApp}
use Rattle.ps_bench_frame.specs.Ending.{IsUnread}
use Rattle.ps_bench_frame.specs.Seen.{Texts}
use Rattle.ps_bench_frame.specs.declared.ending.Stop.{Stop}
use Rattle.ps_outside.specs.declared.text_fail.TextFail.{TextFail}
use Rattle.ps_outside.specs.declared.text_fail.TextFail.TheVariants as text_fail
use Rattle.ps_bench_frame.proofs.sourcing.sourced_of.Goals as goal

pub returns-in-Err-clause-opens : goal.returns-in-Err-clause-opens
returns-in-Err-clause-opens g c =
    let texts : Texts = record { tells = g.F.Files.tells c.args.files.now; held = g.F.Files.held c.args.files.now } in
    subst (λ (s : Stop). IsWhyNoApp texts c.args.name.now s) (sym c.no_app.ensures)
    (app_none texts c.args.name.now c.in-Err.why (λ tells. reads_err _ c.in-Err.why (c.in-Err.ensures.read tells)))

pub returns-in-Err-clause-unread : goal.returns-in-Err-clause-unread
returns-in-Err-clause-unread g c = λ is.
    let why : c.in-Err.why ≡ text_fail.Fault = app_unread c.in-Err.why (subst IsUnread c.no_app.ensures is) in
    c.in-Err.ensures.fault (subst (λ (w : TextFail). IsFault {A = List ℕ × SourceTree × Network} (Err w)) (sym why) tt)
