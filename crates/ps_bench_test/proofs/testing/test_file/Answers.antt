use Rattle.std.proofs.Common.{◌++◌, IsTrue, refl, ap, sym, subst, ◌∙◌}
use Rattle.ps_bench_test.specs.Testing.{FileRan, file_text}
use Rattle.ps_bench_test.proofs.testing.test_file.Goals as goal

pub returns-clause-ran : goal.returns-clause-ran
returns-clause-ran g c =
    let ran = c.in_ok-tally.ensures.ran in
    let f : FileRan = record { name = c.args.at.name.now; file = c.in_ok-file.file; ran = ran.0 } in (
      f,
      record { name_is = refl; of_text = c.in_ok-file.ensures.of_text; ran = ran.1 },
      ran.2,
      λ tells. ran.3 (subst IsTrue (sym c.in_ok-file.ensures.telling) tells)
          ∙ ap (λ taken. taken ++ file_text c.args.bench.now.format c.args.before f) c.in_ok-file.ensures.unsaid,
    )
