use Rattle.std.proofs.Common.{◌≡◌, ◌∙◌, Ok, ap, refl, sym}
use Rattle.ps_bench_frame.specs.Opening.{source}
use Rattle.ps_bench_frame.specs.declared.ending.Status.TheVariants.{Usage}
use Rattle.ps_bench_messages.proofs.Remarked.{so}
use Rattle.ps_bench_names.specs.Names.{name_of}
use Rattle.ps_bench_why.specs.Asking.{wanted_by}
use Rattle.ps_bench_why.proofs.Remarked.{of_name, of_time}
use Rattle.ps_edge.specs.Hearing.{listener_seen}
use Rattle.ps_bench_why.proofs.explaining.why_app.Goals as goal

pub returns-in-Some-clause-told : goal.returns-in-Some-clause-told
returns-in-Some-clause-told g c = λ tells.
    of_time c.args.asked.now.app.now (wanted_by c.args.asked.now) (source c.args.sourced.now.opened.app c.args.sourced.now.opened.sizes (g.F.Files.tells c.args.files.now) (g.F.Files.held c.args.files.now))
    (listener_seen g.L.Listener.quiet g.L.Listener.heard g.L.KnownListener.reads g.L.KnownListener.unread g.L.KnownListener.room c.args.listener.now)
    (g.L.Listener.heard c.why_named.new.listener) (c.why_named.result ≡ Ok Usage) (c.why_named.ensures.told tells)

pub returns-in-None-clause-told : goal.returns-in-None-clause-told
returns-in-None-clause-told g c = λ tells.
    so _ _ _ _ refl (of_name c.args.asked.now.app.now (wanted_by c.args.asked.now) (source c.args.sourced.now.opened.app c.args.sourced.now.opened.sizes (g.F.Files.tells c.args.files.now) (g.F.Files.held c.args.files.now))
    (listener_seen g.L.Listener.quiet g.L.Listener.heard g.L.KnownListener.reads g.L.KnownListener.unread g.L.KnownListener.room c.args.listener.now)
    (g.L.Listener.heard c.tell_no_name.new.listener) (sym (c.in-None.ensures.names ∙ ap (name_of c.args.sourced.now.opened.app) c.as_bytes.ensures.value)) (c.tell_no_name.ensures.told tells))
