use Rattle.std.proofs.Common.{◌<◌, ◌≤◌, ◌+◌, ◌∙◌, ◌++◌, ◌∷◌, [], ℕ, List, Any, Bor, Err, length, take, get_or, refl, sym, ap, subst, arith}
use Rattle.std.proofs.lemmas.List.{length_push, take_all}
use Rattle.ps_bench_cover.proofs.Leaving.{behind, both, done, same}
use Rattle.ps_bench_cover.specs.Leaving.{sides}
use Rattle.ps_bench_frame.proofs.Stopped.{rose_since}
use Rattle.ps_bench_frame.specs.Opening.{Source, source}
use Rattle.ps_bench_frame.specs.Refusing.{refused_line}
use Rattle.ps_bench_frame.specs.Stopping.{StopsAtCases}
use Rattle.ps_bench_words.specs.Seen.{seen}
use Rattle.ps_outside.specs.Outside.{Rose}
use Rattle.ps_bench_test.specs.Testing.{AreRanFiles, IsRanFile}
use Rattle.ps_bench_test.proofs.Running.{are_more_files, seen_more}
use Rattle.ps_bench_test.proofs.Stopped.{word_any}
use Rattle.ps_bench_report.proofs.Coming.{moved}
use Rattle.ps_bench_report.specs.Running.{ShowsFiles}
use Rattle.ps_bench_report.proofs.Shown.{filed_behind, none_filed}
use Rattle.ps_bench_report.proofs.running.run_files.Goals as goal

pub loop-name-init : goal.loop-name-init
loop-name-init g c = record {
  ran = (
    [],
    tt,
    none_filed (source c.args.bench.now.opened.now.app c.args.bench.now.opened.now.sizes (g.F.Files.tells c.args.files.now) (g.F.Files.held c.args.files.now)) 0 c.args.pages.now,
    refl,
  );
  place = refl;
  unsaid = refl;
  stays = same (sides (g.F.Files.tells c.args.files.now) (g.F.Files.held c.args.files.now) (g.F.Files.faults c.args.files.now) (g.O.Sink.tells c.args.out.now) (g.O.Sink.faults c.args.out.now));
}

pub loop-name-preserved : goal.loop-name-preserved
loop-name-preserved g c =
    let net = c.args.bench.now.opened.now.app in
    let word = c.args.bench.now.name.now in
    let sizes = c.args.bench.now.opened.now.sizes in
    let r = g.F.Files.tells c.args.files.now in
    let h = g.F.Files.held c.args.files.now in
    let f = g.F.Files.faults c.args.files.now in
    let t = g.O.Sink.tells c.args.out.now in
    let b = g.O.Sink.taken c.args.out.now in
    let r' = g.F.Files.tells c.loop-name.files in
    let h' = g.F.Files.held c.loop-name.files in
    let f' = g.F.Files.faults c.loop-name.files in
    let t' = g.O.Sink.tells c.loop-name.out in
    let b' = g.O.Sink.taken c.loop-name.out in
    let before = sides r h f t (g.O.Sink.faults c.args.out.now) in
    let middle = sides r' h' f' t' (g.O.Sink.faults c.loop-name.out) in
    let f'' = g.F.Files.faults c.run_file.new.files in
    let after = sides (g.F.Files.tells c.run_file.new.files) (g.F.Files.held c.run_file.new.files) f'' (g.O.Sink.tells c.run_file.new.out) (g.O.Sink.faults c.run_file.new.out) in
    let from = source net sizes r h in
    let names = c.args.names.now in
    let place = c.loop-name.name-index in
    let none : Bor (List ℕ) = record { ref_ptr = (0, 0); now = [] } in
    let name = (get_or names place none).now in
    let inv = c.loop-name.invariant in
    let old = inv.ran in
    let new = c.in-Ok.ensures.ends in
    let below : place < length names = omega arith in
    record {
      ran = (
        old.0 ++ new.1 ∷ [],
        subst (λ ns. AreRanFiles from word ns (old.0 ++ new.1 ∷ [])) (sym (seen_more names place none below))
            (are_more_files from word (seen (take place names)) name old.0 new.1 old.1
            (moved (λ (x : Source) tells taken. IsRanFile x word name new.1) net sizes r r' h h' t t' b b' inv.stays.reading inv.stays.kept inv.stays.telling inv.unsaid new.2)),
        subst (λ ns. ShowsFiles from 0 ns (old.0 ++ new.1 ∷ []) c.args.pages.now c.run_file.new.pages) (sym (seen_more names place none below))
            (filed_behind from 0 c.loop-name.place (seen (take place names)) (name ∷ []) old.0 (new.1 ∷ []) c.args.pages.now c.loop-name.pages c.run_file.new.pages
            (omega (arith, inv.place, old.3)) old.2
            (moved (λ (x : Source) tells taken. ShowsFiles x c.loop-name.place (name ∷ []) (new.1 ∷ []) c.loop-name.pages c.run_file.new.pages) net sizes r r' h h' t t' b b'
            inv.stays.reading inv.stays.kept inv.stays.telling inv.unsaid new.3)),
        length_push old.0 new.1 ∙ ap (λ n. n + 1) old.3,
      );
      place = ap (λ n. n + 1) inv.place;
      unsaid = new.0 ∙ inv.unsaid;
      stays = both before middle after inv.stays c.in-Ok.ensures.leaves.stays;
    }

pub returns-in-Err : goal.returns-in-Err
returns-in-Err g c =
    let net = c.args.bench.now.opened.now.app in
    let sizes = c.args.bench.now.opened.now.sizes in
    let r = g.F.Files.tells c.args.files.now in
    let h = g.F.Files.held c.args.files.now in
    let f = g.F.Files.faults c.args.files.now in
    let t = g.O.Sink.tells c.args.out.now in
    let b = g.O.Sink.taken c.args.out.now in
    let r' = g.F.Files.tells c.loop-name.files in
    let h' = g.F.Files.held c.loop-name.files in
    let f' = g.F.Files.faults c.loop-name.files in
    let t' = g.O.Sink.tells c.loop-name.out in
    let b' = g.O.Sink.taken c.loop-name.out in
    let before = sides r h f t (g.O.Sink.faults c.args.out.now) in
    let middle = sides r' h' f' t' (g.O.Sink.faults c.loop-name.out) in
    let f'' = g.F.Files.faults c.run_file.new.files in
    let after = sides (g.F.Files.tells c.run_file.new.files) (g.F.Files.held c.run_file.new.files) f'' (g.O.Sink.tells c.run_file.new.out) (g.O.Sink.faults c.run_file.new.out) in
    let from = source net sizes r h in
    let names = c.args.names.now in
    let i = c.loop-name.name-index in
    let none : Bor (List ℕ) = record { ref_ptr = (0, 0); now = [] } in
    let name = (get_or names i none).now in
    let inv = c.loop-name.invariant in
    let stop = c.in-Err.stop in
    let new = g.O.Sink.taken c.run_file.new.out in
    let below : i < length names = omega arith in
    record {
      ends = word_any (λ (n : List ℕ). StopsAtCases from n refused_line stop t b new) names i none below
          (moved (λ (x : Source) tells taken. StopsAtCases x name refused_line stop tells taken new) net sizes r r' h h' t t' b b' inv.stays.reading inv.stays.kept inv.stays.telling inv.unsaid c.in-Err.ensures.ends);
      leaves = behind before middle after (Err stop) (Rose (f' name) (f'' name)) (Any (λ (n : List ℕ). Rose (f n) (f'' n)) (seen names)) inv.stays c.in-Err.ensures.leaves
          (λ rose. word_any (λ (n : List ℕ). Rose (f n) (f'' n)) names i none below (rose_since (f name) (f' name) (f'' name) (inv.stays.reads name) rose));
    }

pub returns : goal.returns
returns g c =
    let r = g.F.Files.tells c.args.files.now in
    let h = g.F.Files.held c.args.files.now in
    let f = g.F.Files.faults c.args.files.now in
    let f' = g.F.Files.faults c.loop-name.files in
    let before = sides r h f (g.O.Sink.tells c.args.out.now) (g.O.Sink.faults c.args.out.now) in
    let after = sides (g.F.Files.tells c.loop-name.files) (g.F.Files.held c.loop-name.files) f' (g.O.Sink.tells c.loop-name.out) (g.O.Sink.faults c.loop-name.out) in
    let from = source c.args.bench.now.opened.now.app c.args.bench.now.opened.now.sizes r h in
    let names = c.args.names.now in
    let i = c.loop-name.name-index in
    let inv = c.loop-name.invariant in
    let old = inv.ran in
    let all : length names ≤ i = omega arith in
    record {
      ends = (
        inv.unsaid,
        old.0,
        subst (λ ns. AreRanFiles from c.args.bench.now.name.now (seen ns) old.0) (take_all i names all) old.1,
        subst (λ ns. ShowsFiles from 0 (seen ns) old.0 c.args.pages.now c.loop-name.pages) (take_all i names all) old.2,
      );
      leaves = done (Any (λ (n : List ℕ). Rose (f n) (f' n)) (seen names)) before after tt inv.stays;
    }
