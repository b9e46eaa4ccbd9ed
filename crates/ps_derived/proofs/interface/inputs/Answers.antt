use Rattle.std.proofs.Common.{[], ◌++◌, ◌∷◌, take, position, is_some, sym, ap, ◌∙◌, if◌then◌else◌, arith}
use Rattle.std.proofs.lemmas.List.{take_more, length-take-le}
use Rattle.ps_base.specs.LetterCase.{is_same_name}
use Rattle.ps_names.specs.NameTables.{place_in}
use Rattle.ps_names.proofs.Indexing.{indexes_push, placed_among}
use Rattle.ps_derived.specs.Bodies.{is_input, inputs}
use Rattle.ps_derived.proofs.Inputs.{inputs_pushed}
use Rattle.ps_derived.proofs.interface.inputs.Goals as goal

pub loop-i-preserved : goal.loop-i-preserved
loop-i-preserved c =
    let xs = c.args.declared.now in
    let i = c.loop-i.i in
    let x = c.index-declared-i.result in
    let more = take_more xs i x c.loop-i-test.true ∙ ap (λ d. take i xs ++ d ∷ []) (sym c.index-declared-i.is) in
    let again = c.in_ok-again.ensures.was ∙ ap is_some (c.loop-i.invariant.seen x.name.text) ∙ placed_among (λ d. d.name) (take i xs) x.name.text in
    record {
      seen = λ q.
          indexes_push (λ d. d.name) (place_in c.loop-i.seen) (place_in c.enter.new.self) (take i xs) x i
          (sym (length-take-le i xs (omega arith))) c.loop-i.invariant.seen c.in_ok-again.ensures.is q
          ∙ ap (position (λ d. is_same_name q d.name.text)) (sym more);
      names =
          c.in_ok-add_input.ensures
          ∙ (λ j. c.loop-i.invariant.names j ++ (if again j then [] else (if is_input x.part then x.name ∷ [] else [])))
          ∙ sym (inputs_pushed [] (take i xs) x)
          ∙ ap inputs (sym more);
    }
