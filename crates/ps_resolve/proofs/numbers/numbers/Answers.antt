use Rattle.std.proofs.Common.{◌+◌, ◌∷◌, [], length, get_or, cond, sym, ap, ◌∙◌, arith, length-append}
use Rattle.std.proofs.lemmas.List.Sums.{sum_by-take-le}
use Rattle.std.proofs.lemmas.Option.{slice_get_within}
use Rattle.ps_names.specs.declared.entry.Entry.{Entry}
use Rattle.ps_names.specs.Names.{is_input, is_output, is_local, is_instance}
use Rattle.ps_names.specs.Limits.{outputs_of}
use Rattle.ps_names.specs.Stands.{number_as}
use Rattle.ps_resolve.proofs.NumberLists.{sum_more, more_numbers, number_in_is, both_numbers}
use Rattle.ps_resolve.proofs.numbers.numbers.Goals as goal

pub number_in-number-requires-clause-inputs : goal.number_in-number-requires-clause-inputs
number_in-number-requires-clause-inputs c =
    let all = ap (λ x. x.inputs) c.count-all.ensures in let before = c.loop-i.invariant.inputs in
    let fewer = sum_by-take-le (λ (e : Entry). cond (is_input e.sort) 1 0) c.args.entries.now c.loop-i.i in omega arith

pub number_in-number-requires-clause-outputs : goal.number_in-number-requires-clause-outputs
number_in-number-requires-clause-outputs c =
    let all = ap (λ x. x.outputs) c.count-all.ensures in let before = c.loop-i.invariant.outputs in
    let fewer = sum_by-take-le (λ (e : Entry). cond (is_output e.sort) 1 0) c.args.entries.now c.loop-i.i in omega arith

pub number_in-number-requires-clause-locals : goal.number_in-number-requires-clause-locals
number_in-number-requires-clause-locals c =
    let all = ap (λ x. x.locals) c.count-all.ensures in let before = c.loop-i.invariant.locals in
    let fewer = sum_by-take-le (λ (e : Entry). cond (is_local e.sort) 1 0) c.args.entries.now c.loop-i.i in omega arith

pub number_in-number-requires-clause-instances : goal.number_in-number-requires-clause-instances
number_in-number-requires-clause-instances c =
    let all = ap (λ x. x.instances) c.count-all.ensures in let before = c.loop-i.invariant.instances in
    let fewer = sum_by-take-le (λ (e : Entry). cond (is_instance e.sort) 1 0) c.args.entries.now c.loop-i.i in omega arith

pub overflow_cast-first : goal.overflow_cast-first
overflow_cast-first c =
    let most = c.requires.signals in let now = c.loop-i.invariant.first in
    let fewer = sum_by-take-le (λ (e : Entry). outputs_of e.sort) c.args.entries.now c.loop-i.i in omega arith

pub overflow_add-first-in-loop-i : goal.overflow_add-first-in-loop-i
overflow_add-first-in-loop-i c =
    let most = c.requires.signals in let now = c.loop-i.invariant.first in let few = c.outputs_of-first.ensures.few in
    let fewer = sum_by-take-le (λ (e : Entry). outputs_of e.sort) c.args.entries.now c.loop-i.i in omega arith

pub loop-i-preserved : goal.loop-i-preserved
loop-i-preserved c =
    let es = c.args.entries.now in let i = c.loop-i.i in let d = c.index-entries-i.result in let inv = c.loop-i.invariant in let at = c.index-entries-i.is in
    let a = sum_more (λ (e : Entry). cond (is_input e.sort) 1 0) es i d c.loop-i-test.true in
    let b = sum_more (λ (e : Entry). cond (is_output e.sort) 1 0) es i d c.loop-i-test.true in
    let l = sum_more (λ (e : Entry). cond (is_local e.sort) 1 0) es i d c.loop-i-test.true in
    let n = sum_more (λ (e : Entry). cond (is_instance e.sort) 1 0) es i d c.loop-i-test.true in
    let o = sum_more (λ (e : Entry). outputs_of e.sort) es i d c.loop-i-test.true in
    let all = c.count-all.ensures in
    let number = c.number_in-number.ensures
    ∙ number_in_is es i (get_or es i d).sort c.count-all.result c.loop-i.before (ap (λ x. x.inputs) all) (ap (λ x. x.outputs) all) inv.inputs inv.outputs inv.locals inv.instances
    ∙ ap (λ (e : Entry). number_as es e.sort i) (sym at) in
    record {
      inputs = c.count_one-before.ensures.inputs ∙ ap (λ m. m + cond (is_input (get_or es i d).sort) 1 0) inv.inputs ∙ sym a;
      outputs = c.count_one-before.ensures.outputs ∙ ap (λ m. m + cond (is_output (get_or es i d).sort) 1 0) inv.outputs ∙ sym b;
      locals = c.count_one-before.ensures.locals ∙ ap (λ m. m + cond (is_local (get_or es i d).sort) 1 0) inv.locals ∙ sym l;
      instances = c.count_one-before.ensures.instances ∙ ap (λ m. m + cond (is_instance (get_or es i d).sort) 1 0) inv.instances ∙ sym n;
      first = (let now = inv.first in let brings = c.outputs_of-first.ensures.is in omega arith);
      long = ap length c.in_ok-push.ensures.items ∙ length-append c.loop-i.numbers.items (_ ∷ []) ∙ (let now = inv.long in omega arith);
      each = more_numbers es c.loop-i.numbers.items _ _ i d c.loop-i-test.true inv.long c.in_ok-push.ensures.items at (both_numbers c.number_in-number.result c.loop-i.first es i d.sort number inv.first) inv.each;
    }

pub returns : goal.returns
returns c =
    let all = c.loop-i-test.false in let upto = c.loop-i.auto.i-end in let now = c.loop-i.invariant.long in
    record {
      long = omega arith;
      each = λ k e at. let within = slice_get_within c.args.entries.now k e at in c.loop-i.invariant.each k e (omega arith) at;
    }
