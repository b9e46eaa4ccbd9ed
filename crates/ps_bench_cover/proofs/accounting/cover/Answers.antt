use Rattle.std.proofs.Common.{◌≡◌, ◌≤◌, ◌∷◌, ℕ, List, Any, Bor, map, rules, sym, subst}
use Rattle.std.specs.Prelude.{IfErr, IfOk, IsErrOf}
use Rattle.ps_bench_frame.specs.Ending.{IsUnread}
use Rattle.ps_bench_frame.specs.Meant.{file_meant}
use Rattle.ps_bench_frame.specs.Seen.{Texts}
use Rattle.ps_bench_frame.specs.declared.ending.Stop.TheVariants.{Unwritten}
use Rattle.ps_outside.specs.Outside.{Rose}
use Rattle.ps_bench_cover.specs.Asking.{AnswersCover, StopsCover, wanted_by}
use Rattle.ps_bench_cover.proofs.Coming.{answers, stops}
use Rattle.ps_bench_cover.proofs.accounting.cover.Goals as goal

-- what holds of what the call held at its end holds of what it is given back as
back : {A : Type 0} {x y : A} → x ≡ y → (P : A → Type 0) → P y → P x
back is P p = subst P (sym is) p

pub returns : goal.returns
returns g c =
    let app = c.args.asked.now.app.now in
    let wanted = wanted_by c.args.asked.now in
    let reading = g.F.Files.tells c.args.files.now in
    let held = g.F.Files.held c.args.files.now in
    let tells = g.O.Sink.tells c.args.out.now in
    let before = g.O.Sink.taken c.args.out.now in
    let texts : Texts = record { tells = reading; held = held } in
    let ended = c.cover_to_end-ended.result in
    let does = c.cover_to_end-ended.ensures in
    record {
      answers = back (search rules) (λ (s : g.row.O.Denot). IfOk ended (AnswersCover app wanted reading held tells before (g.O.Sink.taken s)))
          (answers app wanted texts tells before _ ended does.ends);
      stops = back (search rules) (λ (s : g.row.O.Denot). IfErr ended (StopsCover app wanted reading held tells before (g.O.Sink.taken s)))
          (stops app wanted texts tells before _ ended does.ends);
      unread = back (search rules) (λ (f : g.row.F.Denot). IfErr ended (λ stop. IsUnread stop → Any (λ (name : List ℕ). Rose (g.F.Files.faults c.args.files.now name) (g.F.Files.faults f name)) (app ∷ map (λ (word : Bor (List ℕ)). file_meant word.now) c.args.asked.now.traces.now)))
          does.leaves.unread;
      unwritten = back (search rules) (λ (s : g.row.O.Denot). IsErrOf ended Unwritten → Rose (g.O.Sink.faults c.args.out.now) (g.O.Sink.faults s)) does.leaves.unwritten;
      writes = back (search rules) (λ (s : g.row.O.Denot). g.O.Sink.faults c.args.out.now ≤ g.O.Sink.faults s) does.leaves.keeps.out.counts;
      telling = back (search rules) (λ (s : g.row.O.Denot). g.O.Sink.tells s ≡ tells) does.leaves.keeps.out.telling;
    }
