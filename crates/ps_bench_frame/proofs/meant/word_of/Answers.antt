use Rattle.std.proofs.Common.{◌∙◌, ℕ, List, sym, ap, arith}
use Rattle.std.specs.Borrow.{Bor}
use Rattle.std.specs.Prelude.{option_map}
use Rattle.ps_bench_frame.specs.Meant.{by_colon, by_line, colon}
use Rattle.ps_bench_frame.proofs.Dots.{rsplit_once_char}
use Rattle.ps_bench_frame.proofs.meant.word_of.Goals as goal

pub returns-in-Some-clause-file : goal.returns-in-Some-clause-file
returns-in-Some-clause-file c =
    let split = rsplit_once_char colon c.args.word.now c.rsplit_once.result c.rsplit_once.ensures.cases (omega arith) in
    let parts = ap (option_map (λ (x : Bor (List ℕ) × Bor (List ℕ)). (x.0.now, x.1.now))) (sym c.in-Some.is) ∙ split in
    c.by_line.ensures.file
    ∙ ap (λ l. (by_line c.args.word.now c.in-Some.file.now l).file) c.line_said.ensures
    ∙ ap (λ o. (by_colon c.args.word.now o).file) parts

pub returns-in-Some-clause-part : goal.returns-in-Some-clause-part
returns-in-Some-clause-part c =
    let split = rsplit_once_char colon c.args.word.now c.rsplit_once.result c.rsplit_once.ensures.cases (omega arith) in
    let parts = ap (option_map (λ (x : Bor (List ℕ) × Bor (List ℕ)). (x.0.now, x.1.now))) (sym c.in-Some.is) ∙ split in
    c.by_line.ensures.part
    ∙ ap (λ l. (by_line c.args.word.now c.in-Some.file.now l).part) c.line_said.ensures
    ∙ ap (λ o. (by_colon c.args.word.now o).part) parts

pub returns-in-None-clause-file : goal.returns-in-None-clause-file
returns-in-None-clause-file c =
    let split = rsplit_once_char colon c.args.word.now c.rsplit_once.result c.rsplit_once.ensures.cases (omega arith) in
    let parts = ap (option_map (λ (x : Bor (List ℕ) × Bor (List ℕ)). (x.0.now, x.1.now))) (sym c.in-None.is) ∙ split in
    c.whole_word.ensures.file ∙ ap (λ o. (by_colon c.args.word.now o).file) parts

pub returns-in-None-clause-part : goal.returns-in-None-clause-part
returns-in-None-clause-part c =
    let split = rsplit_once_char colon c.args.word.now c.rsplit_once.result c.rsplit_once.ensures.cases (omega arith) in
    let parts = ap (option_map (λ (x : Bor (List ℕ) × Bor (List ℕ)). (x.0.now, x.1.now))) (sym c.in-None.is) ∙ split in
    c.whole_word.ensures.part ∙ ap (λ o. (by_colon c.args.word.now o).part) parts
