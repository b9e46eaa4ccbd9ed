use Rattle.std.proofs.Common.{◌∙◌, ℕ, List, [], map, ap, take, get_or, arith}
use Rattle.std.proofs.lemmas.List.{take_more}
use Rattle.std.specs.Borrow.{Bor}
use Rattle.ps_bench_words.specs.Seen.{seen}
use Rattle.ps_bench_watch.specs.Naming.{name_called}
use Rattle.ps_bench_watch.proofs.Called.{named_more, named_none}
use Rattle.ps_bench_watch.proofs.naming.names_called.Goals as goal

pub loop-word-preserved : goal.loop-word-preserved
loop-word-preserved c =
    let words = c.args.words.now in
    let i = c.loop-word.word-index in
    let none : Bor (List ℕ) = record { ref_ptr = (0, 0); now = [] } in
    ap (λ (ws : List (Bor (List ℕ))). map (name_called c.args.app.now) (seen ws)) (take_more words i none (omega arith))
    ∙ named_more c.args.app.now c.as_slice.result.now (take i words) (get_or words i none) c.loop-word.names.items
    c.add_called.new.names.items c.in_ok-add_called.field-0 (c.as_slice.ensures.value ∙ c.in_ok-all.ensures)
    c.in_ok-add_called.ensures c.if-not-branch.false c.loop-word.invariant

pub returns-then-not-branch-clause-none : goal.returns-then-not-branch-clause-none
returns-then-not-branch-clause-none c =
    let none : Bor (List ℕ) = record { ref_ptr = (0, 0); now = [] } in
    named_none c.args.app.now c.as_slice.result.now c.args.words.now c.loop-word.word-index none c.loop-word.names.items
    c.add_called.new.names.items c.in_ok-add_called.field-0 (omega arith) (c.as_slice.ensures.value ∙ c.in_ok-all.ensures)
    c.in_ok-add_called.ensures c.if-not-branch.true
