use Rattle.std.proofs.Common.{◌<◌, ◌∙◌, [], ℕ, IsTrue, List, Bor, Option, length, get_or, sym, subst, arith}
use Rattle.ps_outside.specs.Outside.{Rose}
use Rattle.ps_bench_trials.specs.Files.{AddsFile, IsOtherFile}
use Rattle.ps_bench_trials.proofs.Behind.{name_any, one_more, other_any, rose_since}
use Rattle.ps_bench_trials.proofs.adding.add_files.Goals as goal

abbrev none : Bor (List ℕ)
none = record { ref_ptr = (0, 0); now = [] }

pub loop-place-preserved : goal.loop-place-preserved
loop-place-preserved g c =
    let names = c.args.names.now in
    let i = c.loop-place.place in
    let inv = c.loop-place.invariant in
    let below : i < length names = omega (arith, c.loop-place-test.true) in
    record {
      adds = λ tells.
          one_more (g.F.Files.held c.args.files.now) names i none c.args.total.now c.loop-place.total c.add_file.new.total below (inv.adds tells)
          (subst (λ (held : List ℕ → Option (List ℕ)). AddsFile (held (get_or names i none).now) c.loop-place.total c.add_file.new.total) inv.kept
          (c.in-Ok.ensures.adds (subst IsTrue (sym inv.reading) tells)));
      kept = c.in-Ok.ensures.kept ∙ inv.kept;
      reading = c.in-Ok.ensures.reading ∙ inv.reading;
      reads = λ other. omega (arith, inv.reads other, c.in-Ok.ensures.reads other);
    }

pub returns-in-Err-clause-unread : goal.returns-in-Err-clause-unread
returns-in-Err-clause-unread g c = λ n is.
    let names = c.args.names.now in
    let i = c.loop-place.place in
    let inv = c.loop-place.invariant in
    let name = (get_or names i none).now in
    let below : i < length names = omega (arith, c.loop-place-test.true) in
    name_any (λ (n : List ℕ). Rose (g.F.Files.faults c.args.files.now n) (g.F.Files.faults c.add_file.new.files n)) names i none below
    (rose_since (g.F.Files.faults c.args.files.now name) (g.F.Files.faults c.loop-place.files name) (g.F.Files.faults c.add_file.new.files name)
    (inv.reads name) (c.add_file.ensures.unread n (c.in-Err.is ∙ is)))

pub returns-in-Err-clause-refused : goal.returns-in-Err-clause-refused
returns-in-Err-clause-refused g c = λ refusal is tells.
    let names = c.args.names.now in
    let i = c.loop-place.place in
    let inv = c.loop-place.invariant in
    let below : i < length names = omega (arith, c.loop-place-test.true) in
    other_any (g.F.Files.held c.args.files.now) names i none c.args.total.now c.loop-place.total refusal below (inv.adds tells)
    (subst (λ (held : List ℕ → Option (List ℕ)). IsOtherFile (held (get_or names i none).now) c.loop-place.total refusal) inv.kept
    (c.add_file.ensures.refused refusal (c.in-Err.is ∙ is) (subst IsTrue (sym inv.reading) tells)))
