use Rattle.std.proofs.Common.{◌≡◌, ℕ, Bool, IsTrue, List, Option, Err, inl, inr, sym, ap, subst}
use Rattle.ps_bench_frame.specs.Ending.{stop_status}
use Rattle.ps_bench_frame.specs.Meant.{file_meant}
use Rattle.ps_bench_frame.specs.Opening.{source}
use Rattle.ps_bench_frame.specs.Stopping.{TookNothing}
use Rattle.ps_bench_frame.specs.declared.ending.Status.TheVariants.{ReadFault}
use Rattle.ps_bench_frame.specs.declared.ending.Stop.TheVariants.{NoMemory}
use Rattle.ps_runs.specs.declared.striking.StruckWorld.{StruckWorld}
use Rattle.ps_bench_trace.specs.Playing.{trace_held}
use Rattle.ps_bench_watch.specs.Asking.{default_in, text_in, wanted_by}
use Rattle.ps_bench_watch.specs.Showing.{ComesOfHeld, ComesOfPlay, IsWanted, MakesRun, Run}
use Rattle.ps_bench_watch.proofs.WatchComing.{none_made, where_told}
use Rattle.ps_bench_watch.proofs.watching.watch_play.Goals as goal

pub returns-in-Err-clause-comes : goal.returns-in-Err-clause-comes
returns-in-Err-clause-comes g c =
    none_made _ _ _ _ c.in-Err.stop (λ refusal is. c.in-Err.ensures.of_faults refusal (ap Err is)) c.in-Err.ensures.unread_unsaid

pub returns-in-Err-prepare-clause-comes : goal.returns-in-Err-prepare-clause-comes
returns-in-Err-prepare-clause-comes g c =
    none_made _ _ _ _ NoMemory (λ refusal is. cc) (λ is. let clash : stop_status NoMemory ≡ ReadFault = is in cc)

pub returns-in-Ok-prepare-clause-comes : goal.returns-in-Ok-prepare-clause-comes
returns-in-Ok-prepare-clause-comes g c =
    let net = c.args.opened.now.app in
    let from = source net c.args.opened.now.sizes (g.F.Files.tells c.args.files.now) (g.F.Files.held c.args.files.now) in
    let name = file_meant c.args.asked.now.trace.now in
    let wanted = wanted_by c.args.asked.now in
    let world = c.in-Ok.world in
    let run : Run = record { setup = world.world.setup; names = c.args.names.now; faults = world.faults } in
    let T = text_in net c.args.asked.now.layout run in
    let tells = g.O.Sink.tells c.args.out.now in
    let before = g.O.Sink.taken c.args.out.now in
    let after = g.O.Sink.taken c.show_play.new.out in
    let ended = c.show_play.result in
    let Held : (List ℕ → Option (List ℕ)) → Bool → List ℕ → Type 0 = λ h t b.
    MakesRun (ComesOfHeld net T (trace_held c.args.play.cases (h name)) t b after ended) t b after ended in
    let makes : IsTrue from.tells → Held from.held tells before = λ reading.
    subst (λ h. Held h tells before) c.in-Ok.ensures.kept
    (subst (λ t. Held (g.F.Files.held c.struck_world.new.files) t before) c.in-Ok.ensures.telling
    (subst (λ b. Held (g.F.Files.held c.struck_world.new.files) (g.O.Sink.tells c.struck_world.new.out) b) c.in-Ok.ensures.unsaid
    (c.show_play.ensures.comes (subst IsTrue (sym c.in-Ok.ensures.reading) reading) c.args.asked.now.layout run
    (record {
      head = c.in-Ok-prepare.ensures.head;
      player = c.in-Ok-prepare.ensures.player;
      setup = ap (λ (w : StruckWorld). w.world.setup) c.in-Ok-prepare.ensures.world;
      faults = ap (λ (w : StruckWorld). w.faults) c.in-Ok-prepare.ensures.world;
    })))) in
    let play : IsTrue from.tells → ComesOfHeld net T (trace_held c.args.play.cases (from.held name)) tells before after ended →
    ComesOfPlay from T wanted run tells before after ended = λ reading comes.
    (comes.0, c.args.play.faults, c.requires.means reading comes.0 comes.1, c.in-Ok.ensures.faults reading, comes.2) in
    let is_wanted : IsWanted net (default_in net c.args.asked.now.layout) wanted run = record { world = c.in-Ok.ensures.begins.world.setup; names = c.requires.names } in
    record {
      to_end = λ end. (run, is_wanted, λ reading. play reading ((makes reading).to_end end));
      unread = λ is.
          elim (where_told from.tells (ComesOfPlay from T wanted run tells before after ended) (TookNothing tells before after)
          (λ reading.
          elim ((makes reading).unread is) [ inl comes ↦ inl (play reading comes) | inr nothing ↦ inr nothing ])) [
            | inl comes ↦ inl (run, is_wanted, comes)
            | inr nothing ↦ inr nothing
          ];
    }
