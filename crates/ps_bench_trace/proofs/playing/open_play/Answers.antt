use Rattle.std.proofs.Common.{◌≡◌, ◌∙◌, ℕ, List, None, Ok, sym, subst}
use Rattle.std.specs.Prelude.{IfOk, IfSome}
use Rattle.ps_bench_frame.specs.Meant.{word_meant}
use Rattle.ps_bench_frame.specs.Opening.{source}
use Rattle.ps_bench_frame.specs.declared.meant.Part.{Part}
use Rattle.ps_bench_frame.specs.declared.meant.Part.TheVariants.{Case}
use Rattle.ps_bench_messages.specs.Remarking.{RemarksIf}
use Rattle.ps_edge.specs.Hearing.{listener_seen}
use Rattle.ps_bench_trace.specs.Playing.{MeansPart}
use Rattle.ps_bench_trace.specs.Remarking.{TellsNoCaseOf}
use Rattle.ps_bench_trace.proofs.playing.open_play.Goals as goal

pub returns-in-Case-clause-means : goal.returns-in-Case-clause-means
returns-in-Case-clause-means g c =
    let from = source c.args.opened.now.app c.args.opened.now.sizes (g.F.Files.tells c.args.files.now) (g.F.Files.held c.args.files.now) in
    let part_is : Case c.in-Case.line ≡ (word_meant c.args.word.now).part = sym c.in-Case.is ∙ c.word_of-part.ensures.part in
    subst (λ (part : Part). IfOk c.open_one.result (λ got. IfSome got (λ play.
    MeansPart from (word_meant c.args.word.now).file part play.cases play.faults))) part_is
    (subst (λ (name : List ℕ). IfOk c.open_one.result (λ got. IfSome got (λ play.
    MeansPart from name (Case c.in-Case.line) play.cases play.faults))) c.word_of-part.ensures.file c.open_one.ensures.means)

pub returns-in-Case-clause-told : goal.returns-in-Case-clause-told
returns-in-Case-clause-told g c = λ tells.
    let from = source c.args.opened.now.app c.args.opened.now.sizes (g.F.Files.tells c.args.files.now) (g.F.Files.held c.args.files.now) in
    let who = listener_seen g.L.Listener.quiet g.L.Listener.heard g.L.KnownListener.reads g.L.KnownListener.unread g.L.KnownListener.room c.args.listener.now in
    subst (λ (name : List ℕ). RemarksIf (c.open_one.result ≡ Ok None) (TellsNoCaseOf from name c.args.word.now) who
    (g.L.Listener.heard c.open_one.new.listener)) c.word_of-part.ensures.file (c.open_one.ensures.told tells)
