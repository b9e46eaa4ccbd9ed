use Rattle.std.proofs.Common.{map, take, get_or, [], position, sym, ap, ◌∙◌, is_some, arith}
use Rattle.std.proofs.lemmas.List.{map_more, take_more, length-take-le}
use Rattle.ps_names.specs.NameTables.{place_in}
use Rattle.ps_names.proofs.Indexing.{indexes_push, placed_among}
use Rattle.ps_names.proofs.NamesAgain.{noted_more}
use Rattle.ps_names.proofs.repeats.index.Goals as goal
use Rattle.ps_base.specs.LetterCase.{is_same_name}
use Rattle.ps_names.specs.Offences.{noted}
use Rattle.ps_names.specs.Rules.{repeated}
use Rattle.ps_base.specs.declared.failing.Rule.TheVariants.{N1}

pub loop-i-preserved : goal.loop-i-preserved
loop-i-preserved c =
    let xs = c.args.entries.now in let i = c.loop-i.i in let d = c.index-entries-i.result in
    let e = get_or xs i d in
    record {
      table = λ q. indexes_push (λ x. x.name) (place_in c.loop-i.table) (place_in c.enter.new.self) (take i xs) e i
          (sym (length-take-le i xs (omega arith)))
          c.loop-i.invariant.table c.in_ok-was.ensures.is q
          ∙ ap (position (λ x. is_same_name q x.name.text)) (sym (take_more xs i d c.loop-i-test.true));
      found =
          noted_more c.args.found c.loop-i.found c.note_if-found.result (map (λ x. x.name) (take i xs)) e.name c.in_ok-was.was'
          c.loop-i.invariant.found c.note_if-found.ensures
          (c.in_ok-was.ensures.was ∙ ap is_some (c.loop-i.invariant.table e.name.text) ∙ placed_among (λ x. x.name) (take i xs) e.name.text)
          ∙ ap (λ ns. noted c.args.found (repeated N1 [] ns)) (sym (map_more (λ x. x.name) xs i d c.loop-i-test.true));
    }
