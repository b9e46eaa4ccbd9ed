use Rattle.std.proofs.Common.{◌≡◌, ◌≤◌, ◌∙◌, ℕ, IsTrue, Result, Ok, Err, refl, subst, sym, ap}
use Rattle.ps_outside.specs.declared.text_fail.TextFail.{TextFail}
use Rattle.ps_lines.specs.Reader.{begin_of, left, limits_of, name_of}
use Rattle.ps_lines.specs.declared.reader.Limits.{Limits}
use Rattle.ps_trace.specs.FaultSays.{targets_by}
use Rattle.ps_trace.specs.Found.{GoesOnBy}
use Rattle.ps_trace.specs.Leaving.{IsFurther, Leaves, shelf}
use Rattle.ps_trace.specs.declared.fault_file.Taken.{Taken}
use Rattle.ps_trace.proofs.FoundLemmas.{ends_failing}
use Rattle.ps_trace.proofs.LeavingLemmas.{failing, falls, given, held_after, leaves_failing, leaves_from, leaves_giving, way_among}
use Rattle.ps_trace.proofs.fault_file.read_all.Goals as goal

pub lines-init : goal.lines-init
lines-init g c = record {
  way = c.requires.way;
  are = c.requires.are;
  said = λ tells text held. refl;
  name = refl;
  limits = refl;
  exact = λ other. refl;
  kept = refl;
  telling = refl;
}

pub read_next-requires-clause-way : goal.read_next-requires-clause-way
read_next-requires-clause-way g c =
    let first = shelf (g.F.Files.tells c.args.files.now) (g.F.Files.held c.args.files.now) (g.F.Files.faults c.args.files.now) in
    let mid = shelf (g.F.Files.tells c.lines.files) (g.F.Files.held c.lines.files) (g.F.Files.faults c.lines.files) in
    way_among first mid c.lines.lines c.lines.invariant.kept c.lines.invariant.telling c.lines.invariant.way

pub read_next-requires-clause-are : goal.read_next-requires-clause-are
read_next-requires-clause-are g c = c.lines.invariant.are

pub lines-smaller : goal.lines-smaller
lines-smaller g c =
    let old = c.lines.lines in
    let new = c.read_next.new.lines in
    let further : IsFurther (shelf (g.F.Files.tells c.lines.files) (g.F.Files.held c.lines.files) (g.F.Files.faults c.lines.files)) old new = c.in-Ok.ensures.further c.in-More.is in
    falls (limits_of c.args.lines.now).largest (begin_of old) (begin_of new) further.ahead
    (subst (λ (n : ℕ). begin_of new ≤ n) (ap (λ (limits : Limits). limits.largest) (further.limits ∙ c.lines.invariant.limits)) further.way.near)

pub lines-preserved : goal.lines-preserved
lines-preserved g c =
    let first = shelf (g.F.Files.tells c.args.files.now) (g.F.Files.held c.args.files.now) (g.F.Files.faults c.args.files.now) in
    let mid = shelf (g.F.Files.tells c.lines.files) (g.F.Files.held c.lines.files) (g.F.Files.faults c.lines.files) in
    let last = shelf (g.F.Files.tells c.read_next.new.files) (g.F.Files.held c.read_next.new.files) (g.F.Files.faults c.read_next.new.files) in
    let before = c.lines.invariant in
    let old = c.lines.lines in
    let new = c.read_next.new.lines in
    let t = (targets_by g.W.Target.named_by g.W.Target.is_same g.W.Target.length_of g.W.Target.made c.args.sizes.now c.args.one_alone) in
    let further : IsFurther mid old new = c.in-Ok.ensures.further c.in-More.is in
    let is : c.read_next.result ≡ Ok c.in-Ok.taken = c.in-Ok.is in
    let here : Leaves (name_of old) mid last (given c.in-Ok.taken) = subst (λ (r : Result Taken TextFail). Leaves (name_of old) mid last r) is c.read_next.ensures.leaves in
    record {
      way = way_among mid first new (sym before.kept) (sym before.telling) further.way;
      are = c.in-Ok.ensures.are;
      said = λ tells text held. before.said tells text held
          ∙ subst (λ (r : Result Taken TextFail). GoesOnBy t r c.lines.found c.read_next.new.found (left old text) (left new text)) (is ∙ ap Ok c.in-More.is)
          (c.read_next.ensures.says (subst IsTrue (sym before.telling) tells) text (held_after _ _ _ _ text before.kept before.name held));
      name = further.name ∙ before.name;
      limits = further.limits ∙ before.limits;
      exact = λ other. here.counts other ∙ before.exact other;
      kept = here.kept ∙ before.kept;
      telling = here.telling ∙ before.telling;
    }

pub returns-in-All : goal.returns-in-All
returns-in-All g c =
    let first = shelf (g.F.Files.tells c.args.files.now) (g.F.Files.held c.args.files.now) (g.F.Files.faults c.args.files.now) in
    let mid = shelf (g.F.Files.tells c.lines.files) (g.F.Files.held c.lines.files) (g.F.Files.faults c.lines.files) in
    let last = shelf (g.F.Files.tells c.read_next.new.files) (g.F.Files.held c.read_next.new.files) (g.F.Files.faults c.read_next.new.files) in
    let before = c.lines.invariant in
    let old = c.lines.lines in
    let new = c.read_next.new.lines in
    let t = (targets_by g.W.Target.named_by g.W.Target.is_same g.W.Target.length_of g.W.Target.made c.args.sizes.now c.args.one_alone) in
    let is : c.read_next.result ≡ Ok c.in-Ok.taken = c.in-Ok.is in
    let here : Leaves (name_of old) mid last (given c.in-Ok.taken) = subst (λ (r : Result Taken TextFail). Leaves (name_of old) mid last r) is c.read_next.ensures.leaves in
    record {
      says = λ tells text held. before.said tells text held
          ∙ subst (λ (r : Result Taken TextFail). GoesOnBy t r c.lines.found c.read_next.new.found (left old text) (left new text)) (is ∙ ap Ok c.in-All.is)
          (c.read_next.ensures.says (subst IsTrue (sym before.telling) tells) text (held_after _ _ _ _ text before.kept before.name held));
      are = c.in-Ok.ensures.are;
      leaves = leaves_giving c.in-Ok.taken tt (name_of c.args.lines.now) first last
          (leaves_from (given c.in-Ok.taken) (name_of c.args.lines.now) (name_of old) first mid last before.kept before.telling before.exact before.name here);
    }

pub returns-in-Err : goal.returns-in-Err
returns-in-Err g c =
    let first = shelf (g.F.Files.tells c.args.files.now) (g.F.Files.held c.args.files.now) (g.F.Files.faults c.args.files.now) in
    let mid = shelf (g.F.Files.tells c.lines.files) (g.F.Files.held c.lines.files) (g.F.Files.faults c.lines.files) in
    let last = shelf (g.F.Files.tells c.read_next.new.files) (g.F.Files.held c.read_next.new.files) (g.F.Files.faults c.read_next.new.files) in
    let before = c.lines.invariant in
    let old = c.lines.lines in
    let new = c.read_next.new.lines in
    let t = (targets_by g.W.Target.named_by g.W.Target.is_same g.W.Target.length_of g.W.Target.made c.args.sizes.now c.args.one_alone) in
    let is : c.read_next.result ≡ Err c.in-Err.why = c.in-Err.is in
    let here : Leaves (name_of old) mid last (failing Taken c.in-Err.why) = subst (λ (r : Result Taken TextFail). Leaves (name_of old) mid last r) is c.read_next.ensures.leaves in
    record {
      says = λ tells text held. ends_failing t c.in-Err.why c.args.found.now c.lines.found c.read_next.new.found (left c.args.lines.now text) (left old text) (left new text)
          (before.said tells text held)
          (subst (λ (r : Result Taken TextFail). GoesOnBy t r c.lines.found c.read_next.new.found (left old text) (left new text)) is
          (c.read_next.ensures.says (subst IsTrue (sym before.telling) tells) text (held_after _ _ _ _ text before.kept before.name held)));
      are = tt;
      leaves = leaves_failing Taken (Unit {0}) c.in-Err.why (name_of c.args.lines.now) first last
          (leaves_from (failing Taken c.in-Err.why) (name_of c.args.lines.now) (name_of old) first mid last before.kept before.telling before.exact before.name here);
    }
