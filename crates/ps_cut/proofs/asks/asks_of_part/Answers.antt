use Rattle.std.proofs.Common.{◌∙◌, refl, sym, ap, arith, length}
use Rattle.std.specs.Prelude.{slice_get}
use Rattle.std.proofs.lemmas.Option.{slice_get_read}
use Rattle.ps_cut.proofs.asks.asks_of_part.Goals as goal

pub returns-in-Some-Some : goal.returns-in-Some-Some
returns-in-Some-Some c = λ on.
    let part = c.in-Some-Some.ensures.lookup in
    let whole = c.in-Some-Some.ensures'.lookup in
    record {
      every = omega (arith, c.if-asked-q.false);
      each = omega (arith, c.if-len-from.false, c.len.ensures, c.from.ensures, c.input_count.ensures);
      inputs = λ r o said at at'. c.if-not-are_said.ensures refl r o said at (ap (λ xs. slice_get xs r) c.as_slice.ensures.value ∙ at');
      whole_rule = c.in-Some-Some.whole_rule.now;
      part_rule = c.in-Some-Some.part_rule.now;
      at_whole = ap (λ xs. slice_get xs c.args.rule) (sym c.deref-2.ensures.value)
          ∙ slice_get_read c.deref-2.result.now (length c.deref-2.result.now) c.args.rule c.in-Some-Some.whole_rule.now refl whole.3.0 whole.1;
      at_part = ap (λ xs. slice_get xs c.args.of_part) (sym c.deref.ensures.value)
          ∙ slice_get_read c.deref.result.now (length c.deref.result.now) c.args.of_part c.in-Some-Some.part_rule.now refl part.3.0 part.1;
      checks = c.is_rule_copy.ensures on;
    }
