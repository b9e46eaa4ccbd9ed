use Rattle.std.proofs.Common.{◌≡◌, ◌+◌, ◌*◌, length, false, Some, sym, ap, ◌∙◌, arith}
use Rattle.std.proofs.lemmas.List.{take_more_same, take_all}
use Rattle.std.proofs.lemmas.Option.{get_or_from_slice_get}
use Rattle.ps_model.specs.Blank.{no_diag}
use Rattle.ps_model.proofs.FieldPlaces.{outs_differ, diags_differ, diag_from_no_difference, equal_reports, no_difference_from_equal, bits_differ, bits_same}
use Rattle.ps_model.proofs.report.Report.first_difference.Goals as goal

pub returns-then-at-clause-first : goal.returns-then-at-clause-first
returns-then-at-clause-first c =
    sym (outs_differ c.args.self.now c.args.other.now c.loop-j.j c.at.result c.at-in-loop-j.result (omega arith) c.at.ensures c.at-in-loop-j.ensures
    (bits_differ c.at.result c.at-in-loop-j.result c.if-at.true) c.loop-j.invariant)

pub loop-j-preserved : goal.loop-j-preserved
loop-j-preserved c =
    let mine = c.args.self.now.outs in
    let others = c.args.other.now.outs in
    let j = c.loop-j.j in
    take_more_same mine others j false (omega arith) (omega arith) c.loop-j.invariant
    (get_or_from_slice_get mine j c.at.result false c.at.ensures
    ∙ bits_same c.at.result c.at-in-loop-j.result c.if-at.false
    ∙ sym (get_or_from_slice_get others j c.at-in-loop-j.result false c.at-in-loop-j.ensures))

pub returns-in-Some-clause-first : goal.returns-in-Some-clause-first
returns-in-Some-clause-first c =
    let i = c.loop-i.i in
    let part = c.in-Some.part in
    let outputs : c.len-outputs.result + 3 * i + part ≡ length c.args.self.now.outs + 3 * i + part = omega arith in
    ap Some outputs
    ∙ sym (diags_differ c.args.self.now c.args.other.now i part c.at-in-loop-i.result c.at-in-loop-i-2.result (omega arith) c.at-in-loop-i.ensures c.at-in-loop-i-2.ensures
    (sym c.first_difference.ensures ∙ c.in-Some.is) c.loop-i.invariant.outs c.loop-i.invariant.diags)

pub loop-i-preserved : goal.loop-i-preserved
loop-i-preserved c =
    let mine = c.args.self.now.diags in
    let others = c.args.other.now.diags in
    let i = c.loop-i.i in
    record {
      outs = c.loop-i.invariant.outs;
      diags = take_more_same mine others i no_diag (omega arith) (omega arith) c.loop-i.invariant.diags
          (get_or_from_slice_get mine i c.at-in-loop-i.result no_diag c.at-in-loop-i.ensures
          ∙ diag_from_no_difference c.at-in-loop-i.result c.at-in-loop-i-2.result (sym c.first_difference.ensures ∙ c.in_default.is)
          ∙ sym (get_or_from_slice_get others i c.at-in-loop-i-2.result no_diag c.at-in-loop-i-2.ensures));
    }

pub returns-clause-first : goal.returns-clause-first
returns-clause-first c =
    let mine = c.args.self.now.diags in
    let others = c.args.other.now.diags in
    let i = c.loop-i.i in
    let diags : mine ≡ others = sym (take_all i mine (omega arith)) ∙ c.loop-i.invariant.diags ∙ take_all i others (omega arith) in
    sym (no_difference_from_equal c.args.self.now c.args.other.now (equal_reports c.args.self.now c.args.other.now c.loop-i.invariant.outs diags))
