use Rattle.std.proofs.Common.{Option, Bool, Err, drop, ℕ, List, Bor, ◌<◌, ◌+◌, ◌++◌, ◌∷◌, [], IsTrue, take, length, get_or, ap, sym, subst, ◌∙◌, arith}
use Rattle.ps_bench_words.specs.Seen.{seen}
use Rattle.ps_bench_test.specs.Outcome.{none_told}
use Rattle.ps_bench_test.specs.Testing.{AreRanFiles, IsRanFile, tally_of}
use Rattle.ps_bench_frame.specs.Opening.{source}
use Rattle.ps_bench_test.proofs.Running.{are_more_files, seen_more, tally_more_files, told_more_files}
use Rattle.std.proofs.lemmas.Result.{err_from_is_err_and}
use Rattle.ps_outside.specs.Outside.{Rose}
use Rattle.ps_bench_frame.proofs.Stopped.{rose_since}
use Rattle.ps_bench_test.specs.Stopping.{StopsInFile}
use Rattle.ps_bench_test.specs.Testing.{files_text, tally_of_files}
use Rattle.ps_bench_test.specs.declared.outcome.Tally.{Tally}
use Rattle.ps_bench_test.proofs.Stopped.{err_is, in_file_from, seen_at, word_any}
use Rattle.ps_bench_test.proofs.testing.test_files.Goals as goal

pub loop-name-preserved : goal.loop-name-preserved
loop-name-preserved g c =
    let app = c.args.bench.now.opened.now.app in
    let word = c.args.bench.now.name.now in
    let sizes = c.args.bench.now.opened.now.sizes in
    let from = source app sizes (g.F.Files.tells c.args.files.now) (g.F.Files.held c.args.files.now) in
    let names = c.args.bench.now.names.now in
    let place = c.loop-name.name-index in
    let none : Bor (List ℕ) = record { ref_ptr = (0, 0); now = [] } in
    let old = c.loop-name.invariant.ran in
    let new = c.in_ok-tally.ensures.ran in
    let below : place < length names = omega arith in
    record {
      ran = (
        old.0 ++ new.0 ∷ [],
        subst (λ ns. AreRanFiles from word ns (old.0 ++ new.0 ∷ [])) (sym (seen_more names place none below))
            (are_more_files from word (seen (take place names)) (get_or names place none).now old.0 new.0 old.1
            (subst (λ tells. IsRanFile (source app sizes tells (g.F.Files.held c.args.files.now)) word (get_or names place none).now new.0)
            c.loop-name.invariant.reading
            (subst (λ held. IsRanFile (source app sizes (g.F.Files.tells c.loop-name.files) held) word (get_or names place none).now new.0)
            c.loop-name.invariant.kept new.1))),
        new.2 ∙ ap (λ t. tally_of t new.0.ran) old.2 ∙ sym (tally_more_files none_told old.0 new.0),
        λ tells. told_more_files c.args.bench.now.format none_told c.loop-name.tally old.0 new.0
            (g.O.Sink.taken c.args.out.now) (g.O.Sink.taken c.loop-name.out) (g.O.Sink.taken c.test_file.new.out) old.2
            (old.3 tells) (new.3 (subst IsTrue (sym c.loop-name.invariant.telling) tells)),
      );
      kept = c.in_ok-tally.ensures.kept ∙ c.loop-name.invariant.kept;
      reading = c.in_ok-tally.ensures.reading ∙ c.loop-name.invariant.reading;
      reads = λ other. omega (arith, c.loop-name.invariant.reads other, c.in_ok-tally.ensures.reads other);
      writes = omega (arith, c.loop-name.invariant.writes, c.in_ok-tally.ensures.writes);
      telling = c.in_ok-tally.ensures.telling ∙ c.loop-name.invariant.telling;
      place = ap (λ n. n + 1) c.loop-name.invariant.place;
    }

pub returns-in_err-tally-clause-stops : goal.returns-in_err-tally-clause-stops
returns-in_err-tally-clause-stops g c =
    let p = err_from_is_err_and c.from_residual.result c.from_residual.ensures.1 in
    let app = c.args.bench.now.opened.now.app in
    let word = c.args.bench.now.name.now in
    let sizes = c.args.bench.now.opened.now.sizes in
    let format = c.args.bench.now.format in
    let from = source app sizes (g.F.Files.tells c.args.files.now) (g.F.Files.held c.args.files.now) in
    let names = c.args.bench.now.names.now in
    let place = c.loop-name.name-index in
    let none : Bor (List ℕ) = record { ref_ptr = (0, 0); now = [] } in
    let name = (get_or names place none).now in
    let old = c.loop-name.invariant.ran in
    let stop = c.in_err-tally.field-0.0 in
    let tells = g.O.Sink.tells c.args.out.now in
    let before = g.O.Sink.taken c.args.out.now in
    let mid = g.O.Sink.taken c.loop-name.out in
    let new = g.O.Sink.taken c.test_file.new.out in
    let below : place < length names = omega arith in
    err_is _ c.from_residual.result _ (p.1 ∙ ap Err p.2) (
      seen (take place names),
      seen (drop (place + 1) names),
      name,
      seen_at names place none below,
      old.0,
      old.1,
      in_file_from from word format (tally_of_files none_told old.0) name stop tells (before ++ files_text format none_told old.0) mid new old.3
          (subst (λ (t : Tally). StopsInFile from word format t name stop tells mid new) old.2
          (subst (λ (told : Bool). StopsInFile from word format c.loop-name.tally name stop told mid new) c.loop-name.invariant.telling
          (subst (λ (reading : Bool). StopsInFile (source app sizes reading (g.F.Files.held c.args.files.now)) word format c.loop-name.tally name stop (g.O.Sink.tells c.loop-name.out) mid new)
          c.loop-name.invariant.reading
          (subst (λ (held : List ℕ → Option (List ℕ)). StopsInFile (source app sizes (g.F.Files.tells c.loop-name.files) held) word format c.loop-name.tally name stop (g.O.Sink.tells c.loop-name.out) mid new)
          c.loop-name.invariant.kept c.in_err-tally.ensures.stops)))),
    )

pub returns-in_err-tally-clause-unread : goal.returns-in_err-tally-clause-unread
returns-in_err-tally-clause-unread g c =
    let p = err_from_is_err_and c.from_residual.result c.from_residual.ensures.1 in
    let names = c.args.bench.now.names.now in
    let place = c.loop-name.name-index in
    let none : Bor (List ℕ) = record { ref_ptr = (0, 0); now = [] } in
    let name = (get_or names place none).now in
    let below : place < length names = omega arith in
    err_is _ c.from_residual.result _ (p.1 ∙ ap Err p.2)
    (λ is. word_any (λ (n : List ℕ). Rose (g.F.Files.faults c.args.files.now n) (g.F.Files.faults c.test_file.new.files n)) names place none below
    (rose_since (g.F.Files.faults c.args.files.now name) (g.F.Files.faults c.loop-name.files name) (g.F.Files.faults c.test_file.new.files name)
    (c.loop-name.invariant.reads name) (c.in_err-tally.ensures.unread is)))

pub returns-in_err-tally-clause-unwritten : goal.returns-in_err-tally-clause-unwritten
returns-in_err-tally-clause-unwritten g c = λ is.
    let p = err_from_is_err_and c.from_residual.result c.from_residual.ensures.1 in
    rose_since (g.O.Sink.faults c.args.out.now) (g.O.Sink.faults c.loop-name.out) (g.O.Sink.faults c.test_file.new.out)
    c.loop-name.invariant.writes (c.in_err-tally.ensures.unwritten (sym (p.1 ∙ ap Err p.2) ∙ is))
