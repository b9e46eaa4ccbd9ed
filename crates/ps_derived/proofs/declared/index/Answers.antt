use Rattle.std.proofs.Common.{take, get_or, position, sym, ap, ◌∙◌, arith}
use Rattle.std.proofs.lemmas.List.{take_more, length-take-le}
use Rattle.ps_base.specs.LetterCase.{is_same_name}
use Rattle.ps_names.specs.NameTables.{place_in}
use Rattle.ps_names.proofs.Indexing.{indexes_push}
use Rattle.ps_derived.proofs.declared.index.Goals as goal

pub loop-i-preserved : goal.loop-i-preserved
loop-i-preserved c =
    let xs = c.args.declared.now in
    let i = c.loop-i.i in
    let d = c.index-declared-i.result in
    λ q.
    indexes_push (λ x. x.name) (place_in c.loop-i.table) (place_in c.enter.new.self) (take i xs) (get_or xs i d) i
    (sym (length-take-le i xs (omega arith))) c.loop-i.invariant c.in_ok-enter.ensures.is q
    ∙ ap (position (λ x. is_same_name q x.name.text)) (sym (take_more xs i d c.loop-i-test.true))
