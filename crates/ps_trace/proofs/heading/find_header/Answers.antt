use Rattle.std.proofs.Common.{◌≡◌, ◌≤◌, ◌+◌, ◌∙◌, ℕ, IsTrue, Result, Ok, Err, refl, subst, sym, ap}
use Rattle.ps_base.specs.declared.limits.TheConstants.{LARGEST_TRACE}
use Rattle.ps_outside.specs.declared.text_fail.TextFail.{TextFail}
use Rattle.ps_lines.specs.Reader.{begin_of, left, name_of}
use Rattle.ps_lines.specs.declared.reader.Limits.{Limits}
use Rattle.ps_model.specs.Network.{input_count}
use Rattle.ps_trace.specs.Header.{input_names}
use Rattle.ps_trace.specs.Heading.{IsTold, SaysBy}
use Rattle.ps_trace.specs.Leaving.{IsFurther, Leaves, shelf}
use Rattle.ps_trace.specs.declared.heading.Told.{Told}
use Rattle.ps_trace.specs.declared.heading.Heading.{Heading}
use Rattle.ps_trace.proofs.HeadingLemmas.{heading_at, heads_failing}
use Rattle.ps_trace.proofs.LeavingLemmas.{at_least_one, counted_on, failing, falls, given, further_from, held_after, itself, leaves_failing, leaves_from, leaves_giving, no_less_on, way_among, within_room}
use Rattle.ps_trace.proofs.heading.find_header.Goals as goal

pub lines-init : goal.lines-init
lines-init g c = record {
  way = c.requires.way;
  said = λ tells text held. refl;
  counted = at_least_one (begin_of c.args.lines.now);
  limited = c.requires.limited;
  behind = itself (begin_of c.args.lines.now);
  name = refl;
  limits = refl;
  exact = λ other. refl;
  kept = refl;
  telling = refl;
}

pub next_header-requires-clause-way : goal.next_header-requires-clause-way
next_header-requires-clause-way g c =
    let first = shelf (g.F.Files.tells c.args.files.now) (g.F.Files.held c.args.files.now) (g.F.Files.faults c.args.files.now) in
    let mid = shelf (g.F.Files.tells c.lines.files) (g.F.Files.held c.lines.files) (g.F.Files.faults c.lines.files) in
    way_among first mid c.lines.lines c.lines.invariant.kept c.lines.invariant.telling c.lines.invariant.way

pub next_header-requires-clause-room : goal.next_header-requires-clause-room
next_header-requires-clause-room g c =
    let before = c.lines.invariant in
    within_room c.lines.number (begin_of c.lines.lines) LARGEST_TRACE before.counted (subst (λ (n : ℕ). begin_of c.lines.lines ≤ n) before.limited before.way.near)

pub lines-smaller : goal.lines-smaller
lines-smaller g c =
    let old = c.lines.lines in
    let new = c.next_header.new.lines in
    let further : IsFurther (shelf (g.F.Files.tells c.lines.files) (g.F.Files.held c.lines.files) (g.F.Files.faults c.lines.files)) old new = c.in-Ok.ensures.further in
    falls LARGEST_TRACE (begin_of old) (begin_of new) further.ahead
    (subst (λ (n : ℕ). begin_of new ≤ n) (ap (λ (limits : Limits). limits.largest) further.limits ∙ c.lines.invariant.limited) further.way.near)

pub lines-preserved : goal.lines-preserved
lines-preserved g c =
    let first = shelf (g.F.Files.tells c.args.files.now) (g.F.Files.held c.args.files.now) (g.F.Files.faults c.args.files.now) in
    let mid = shelf (g.F.Files.tells c.lines.files) (g.F.Files.held c.lines.files) (g.F.Files.faults c.lines.files) in
    let last = shelf (g.F.Files.tells c.next_header.new.files) (g.F.Files.held c.next_header.new.files) (g.F.Files.faults c.next_header.new.files) in
    let before = c.lines.invariant in
    let old = c.lines.lines in
    let new = c.next_header.new.lines in
    let further : IsFurther mid old new = c.in-Ok.ensures.further in
    let leaves : Leaves (name_of old) mid last c.next_header.result = c.next_header.ensures.leaves in
    let is : c.next_header.result ≡ Ok (c.in-Ok.told) = c.in-Ok.is in
    let here : Leaves (name_of old) mid last (given c.in-Ok.told) = subst (λ (r : Result Told TextFail). Leaves (name_of old) mid last r) is leaves in
    let next : c.in-Skipped.next ≤ c.lines.number + 1 = subst (IsTold (input_count c.args.app.now) c.lines.number) c.in-Skipped.is c.in-Ok.ensures.told in
    record {
      way = way_among mid first new (sym before.kept) (sym before.telling) further.way;
      said = λ tells text held. before.said tells text held
          ∙ subst (λ (r : Result Told TextFail). SaysBy (input_names c.args.app.now) c.lines.number r (left old text) (left new text)) (is ∙ ap Ok c.in-Skipped.is)
          (c.next_header.ensures.says (subst IsTrue (sym before.telling) tells) text (held_after _ _ _ _ text before.kept before.name held));
      counted = counted_on c.lines.number c.in-Skipped.next (begin_of old) (begin_of new) before.counted next further.ahead;
      limited = ap (λ (limits : Limits). limits.largest) further.limits ∙ before.limited;
      behind = no_less_on (begin_of c.args.lines.now) (begin_of old) (begin_of new) before.behind further.ahead;
      name = further.name ∙ before.name;
      limits = further.limits ∙ before.limits;
      exact = λ other. here.counts other ∙ before.exact other;
      kept = leaves.kept ∙ before.kept;
      telling = leaves.telling ∙ before.telling;
    }

pub returns-in-Header : goal.returns-in-Header
returns-in-Header g c =
    let first = shelf (g.F.Files.tells c.args.files.now) (g.F.Files.held c.args.files.now) (g.F.Files.faults c.args.files.now) in
    let mid = shelf (g.F.Files.tells c.lines.files) (g.F.Files.held c.lines.files) (g.F.Files.faults c.lines.files) in
    let last = shelf (g.F.Files.tells c.next_header.new.files) (g.F.Files.held c.next_header.new.files) (g.F.Files.faults c.next_header.new.files) in
    let before = c.lines.invariant in
    let old = c.lines.lines in
    let new = c.next_header.new.lines in
    let further : IsFurther mid old new = c.in-Ok.ensures.further in
    let is : c.next_header.result ≡ Ok (c.in-Ok.told) = c.in-Ok.is in
    let here : Leaves (name_of old) mid last (given c.in-Ok.told) = subst (λ (r : Result Told TextFail). Leaves (name_of old) mid last r) is c.next_header.ensures.leaves in
    record {
      says = λ tells text held. before.said tells text held
          ∙ subst (λ (r : Result Told TextFail). SaysBy (input_names c.args.app.now) c.lines.number r (left old text) (left new text)) (is ∙ ap Ok c.in-Header.is)
          (c.next_header.ensures.says (subst IsTrue (sym before.telling) tells) text (held_after _ _ _ _ text before.kept before.name held));
      heads = heading_at (input_count c.args.app.now) c.lines.number (begin_of old) (begin_of new) c.in-Header.heading before.counted further.ahead
          (subst (IsTold (input_count c.args.app.now) c.lines.number) c.in-Header.is c.in-Ok.ensures.told);
      further = further_from first mid c.args.lines.now old new before.kept before.telling before.behind before.name before.limits further;
      leaves = leaves_giving c.in-Ok.told c.in-Header.heading (name_of c.args.lines.now) first last
          (leaves_from (given c.in-Ok.told) (name_of c.args.lines.now) (name_of old) first mid last before.kept before.telling before.exact before.name here);
    }

pub returns-in-Err : goal.returns-in-Err
returns-in-Err g c =
    let first = shelf (g.F.Files.tells c.args.files.now) (g.F.Files.held c.args.files.now) (g.F.Files.faults c.args.files.now) in
    let mid = shelf (g.F.Files.tells c.lines.files) (g.F.Files.held c.lines.files) (g.F.Files.faults c.lines.files) in
    let last = shelf (g.F.Files.tells c.next_header.new.files) (g.F.Files.held c.next_header.new.files) (g.F.Files.faults c.next_header.new.files) in
    let before = c.lines.invariant in
    let old = c.lines.lines in
    let new = c.next_header.new.lines in
    let is : c.next_header.result ≡ Err c.in-Err.why = c.in-Err.is in
    let here : Leaves (name_of old) mid last (failing Told c.in-Err.why) = subst (λ (r : Result Told TextFail). Leaves (name_of old) mid last r) is c.next_header.ensures.leaves in
    record {
      says = λ tells text held. heads_failing (input_names c.args.app.now) c.lines.number c.in-Err.why (left c.args.lines.now text) (left old text) (left new text) (left new text)
          (before.said tells text held)
          (subst (λ (r : Result Told TextFail). SaysBy (input_names c.args.app.now) c.lines.number r (left old text) (left new text)) is
          (c.next_header.ensures.says (subst IsTrue (sym before.telling) tells) text (held_after _ _ _ _ text before.kept before.name held)));
      heads = tt;
      further = tt;
      leaves = leaves_failing Told Heading c.in-Err.why (name_of c.args.lines.now) first last
          (leaves_from (failing Told c.in-Err.why) (name_of c.args.lines.now) (name_of old) first mid last before.kept before.telling before.exact before.name here);
    }
