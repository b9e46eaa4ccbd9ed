use Rattle.std.proofs.Common.{◌≡◌, ◌∙◌, ◌∷◌, [], ℕ, List, sym, subst, refl}
use Rattle.ps_bench_frame.proofs.Leaving.{quiet_same}
use Rattle.ps_bench_frame.specs.Leaving.{OnlyReads}
use Rattle.ps_bench_frame.specs.Meant.{word_meant}
use Rattle.ps_bench_frame.specs.Opening.{source_of_call}
use Rattle.ps_bench_frame.specs.declared.meant.Part.{Part}
use Rattle.ps_bench_frame.specs.declared.meant.Part.TheVariants.{Trace, Cases, Case}
use Rattle.ps_bench_trace.specs.Coming.{ComesToPart}
use Rattle.ps_bench_trace.specs.Playing.{MeansPart}
use Rattle.ps_bench_trace.proofs.Plays.{no_faults_ordered, no_faults_of_one, plays_file}
use Rattle.ps_bench_trace.proofs.playing.read_play.Goals as goal

pub returns-in-Trace : goal.returns-in-Trace
returns-in-Trace g c =
    let from = source_of_call c.args.opened.now.app c.args.opened.now.sizes (g.C.Call.seen c.args.call.now) in
    let part_is : Trace ≡ (word_meant c.args.word.now).part = sym c.in-Trace.is ∙ c.word_of-part.ensures.part in
    record {
      comes = (
        subst (λ (part : Part). MeansPart from (word_meant c.args.word.now).file part c.play_file.result.cases c.play_file.result.faults) part_is
            (plays_file from (word_meant c.args.word.now).file c.play_file.result.cases c.play_file.result.faults c.play_file.ensures.cases c.play_file.ensures.faults),
        no_faults_ordered c.play_file.result.faults c.play_file.ensures.faults,
        no_faults_of_one c.play_file.result.faults c.play_file.ensures.faults,
      );
      reads = record { quiet = quiet_same _; stops = tt };
    }

pub returns-in-Cases : goal.returns-in-Cases
returns-in-Cases g c =
    let from = source_of_call c.args.opened.now.app c.args.opened.now.sizes (g.C.Call.seen c.args.call.now) in
    let part_is : Cases ≡ (word_meant c.args.word.now).part = sym c.in-Cases.is ∙ c.word_of-part.ensures.part in
    record {
      comes = subst (λ (part : Part). ComesToPart from (word_meant c.args.word.now).file part c.read_all.result) part_is
          (subst (λ (name : List ℕ). ComesToPart from name Cases c.read_all.result) c.word_of-part.ensures.file c.read_all.ensures.comes);
      reads = subst (λ (name : List ℕ). OnlyReads (name ∷ []) (g.C.Call.seen c.args.call.now) (g.C.Call.seen c.read_all.new.call) c.read_all.result)
          c.word_of-part.ensures.file c.read_all.ensures.reads;
    }

pub returns-in-Case : goal.returns-in-Case
returns-in-Case g c =
    let from = source_of_call c.args.opened.now.app c.args.opened.now.sizes (g.C.Call.seen c.args.call.now) in
    let part_is : Case c.in-Case.line ≡ (word_meant c.args.word.now).part = sym c.in-Case.is ∙ c.word_of-part.ensures.part in
    record {
      comes = subst (λ (part : Part). ComesToPart from (word_meant c.args.word.now).file part c.read_one.result) part_is
          (subst (λ (name : List ℕ). ComesToPart from name (Case c.in-Case.line) c.read_one.result) c.word_of-part.ensures.file c.read_one.ensures.comes);
      reads = subst (λ (name : List ℕ). OnlyReads (name ∷ []) (g.C.Call.seen c.args.call.now) (g.C.Call.seen c.read_one.new.call) c.read_one.result)
          c.word_of-part.ensures.file c.read_one.ensures.reads;
    }
