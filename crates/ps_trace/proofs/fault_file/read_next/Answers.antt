use Rattle.std.proofs.Common.{◌≡◌, ℕ, List, subst, sym}
use Rattle.ps_lines.specs.Reader.{Gives, left, name_of}
use Rattle.ps_trace.specs.Leaving.{Came, IsFurther, IsUnderWay, shelf}
use Rattle.ps_trace.specs.declared.fault_file.Taken.{Taken}
use Rattle.ps_trace.specs.declared.fault_file.Taken.TheVariants.{More}
use Rattle.ps_trace.proofs.LeavingLemmas.{further_by, held_now, if_ok, leaves_read}
use Rattle.ps_trace.proofs.fault_file.read_next.Goals as goal

pub returns-in-Ok : goal.returns-in-Ok
returns-in-Ok g c =
    let old = c.args.lines.now in
    let new = c.next_line.new.self in
    let files = shelf (g.F.Files.tells c.args.files.now) (g.F.Files.held c.args.files.now) (g.F.Files.faults c.args.files.now) in
    let after = shelf (g.F.Files.tells c.next_line.new.files) (g.F.Files.held c.next_line.new.files) (g.F.Files.faults c.next_line.new.files) in
    let way : IsUnderWay files old = c.requires.way in
    record {
      says = λ tells text held. c.take.ensures.says (left old text) (left new text)
          (subst (λ (b : List ℕ). Gives (left old text) c.in-Ok.got b (left new text)) (sym c.line.ensures) (c.in-Ok.ensures.gives tells text held (way.reads tells text held)));
      are = c.take.ensures.are;
      further = if_ok (λ (taken : Taken). taken ≡ More) (Came c.in-Ok.got) (IsFurther files old new) c.take.result
          (further_by c.in-Ok.got files old new way c.in-Ok.ensures.goes_on c.next_line.ensures.reads c.in-Ok.ensures.found c.next_line.ensures.within c.next_line.ensures.name c.next_line.ensures.limits)
          c.take.ensures.came;
      leaves = leaves_read c.take.result (name_of old) files after c.next_line.ensures.kept c.next_line.ensures.telling c.in-Ok.ensures.exact
          (held_now files old way c.in-Ok.ensures.found) c.take.ensures.no_fault;
    }

pub returns-in-Err : goal.returns-in-Err
returns-in-Err g c = record {
  says = λ tells text held. tt;
  are = tt;
  further = tt;
  leaves = record {
    kept = c.next_line.ensures.kept;
    telling = c.next_line.ensures.telling;
    counts = (c.in-Err.ensures.fault, c.next_line.ensures.counts);
    found = λ tells. tt;
  };
}
