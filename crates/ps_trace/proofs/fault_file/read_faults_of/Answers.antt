use Rattle.std.proofs.Common.{◌≡◌, ◌∙◌, ℕ, List, Result, Ok, Err, Vec, Global, subst, sym, ap}
use Rattle.std.specs.Result.{OnOk}
use Rattle.ps_base.specs.declared.limits.TheConstants.{LONGEST_FAULT_LINE}
use Rattle.ps_outside.specs.declared.text_fail.TextFail.{TextFail}
use Rattle.ps_outside.specs.declared.text_fail.TextFail.TheVariants.{Refused as IsRefused}
use Rattle.ps_lines.specs.Reader.{IsFresh, left, name_of}
use Rattle.ps_lines.specs.declared.reader.Limits.{Limits}
use Rattle.ps_trace.specs.FaultSays.{targets_by}
use Rattle.ps_trace.specs.Faults.{FaultList}
use Rattle.ps_trace.specs.Found.{AreFound, EndsBy}
use Rattle.ps_trace.specs.Leaving.{Leaves, shelf}
use Rattle.ps_trace.specs.declared.fault_file.TheConstants.{LARGEST_READ}
use Rattle.ps_trace.proofs.FoundLemmas.{empty, empty_are, empty_in, refused_by}
use Rattle.ps_trace.proofs.LeavingLemmas.{clause_counts, clause_exact, clause_fault, clause_found, failing, fresh_way, given, given_no_failing, leaves_failing, leaves_giving, same_failing}
use Rattle.ps_trace.proofs.fault_file.read_faults_of.Goals as goal

-- the limits of a fault file
abbrev limits : Limits
limits = record { longest = LONGEST_FAULT_LINE; largest = LARGEST_READ }

pub read_all-requires : goal.read_all-requires
read_all-requires g c = record {
  way = fresh_way (shelf (g.F.Files.tells c.args.files.now) (g.F.Files.held c.args.files.now) (g.F.Files.faults c.args.files.now)) limits c.in_ok-lines.lines c.in_ok-lines.ensures.fresh;
  are = empty_are (targets_by g.W.Target.named_by g.W.Target.is_same g.W.Target.length_of g.W.Target.made c.args.sizes.now c.args.one_alone) g.W.Target.parts c.new-faults.result c.new-faults.ensures.items;
}

pub returns-in-Ok : goal.returns-in-Ok
returns-in-Ok g c =
    let t = (targets_by g.W.Target.named_by g.W.Target.is_same g.W.Target.length_of g.W.Target.made c.args.sizes.now c.args.one_alone) in
    let first = shelf (g.F.Files.tells c.args.files.now) (g.F.Files.held c.args.files.now) (g.F.Files.faults c.args.files.now) in
    let last = shelf (g.F.Files.tells c.read_all.new.files) (g.F.Files.held c.read_all.new.files) (g.F.Files.faults c.read_all.new.files) in
    let name = c.args.name.now in
    let lines = c.in_ok-lines.lines in
    let new = c.read_all.new.found in
    let none = c.new-faults.ensures.items in
    let start = empty t c.new-faults.result in
    let named : name_of lines ≡ name = c.in_ok-lines.ensures.name in
    let fresh : IsFresh limits lines = c.in_ok-lines.ensures.fresh in
    let is : c.read_all.result ≡ Ok c.in-Ok.field-0 = c.in-Ok.is in
    let here : Leaves (name_of lines) first last (given c.in-Ok.field-0) = subst (λ (r : Result (Unit {0}) TextFail). Leaves (name_of lines) first last r) is c.read_all.ensures.leaves in
    let leaves : Leaves name first last (given new.faults) = leaves_giving c.in-Ok.field-0 new.faults name first last (subst (λ (n : List ℕ). Leaves n first last (given c.in-Ok.field-0)) named here) in
    let are : AreFound t g.W.Target.parts new = subst (λ (r : Result (Unit {0}) TextFail). OnOk r (AreFound t g.W.Target.parts new)) is c.read_all.ensures.are in
    record {
      gives = λ tells text held. sym (empty_in t c.new-faults.result text (left lines text) none (fresh.all_left text))
          ∙ subst (λ (r : Result (Unit {0}) TextFail). EndsBy t r start new (left lines text)) is (c.read_all.ensures.says tells text (ap first.held named ∙ held));
      refuses = λ tells text held refusal same. absurd (given_no_failing new.faults (IsRefused refusal) same);
      found = clause_found (given new.faults) name first last leaves;
      fault = clause_fault (given new.faults) name first last leaves;
      exact = clause_exact (given new.faults) name first last leaves;
      ordered = are.ordered;
      one = are.one;
      counts = clause_counts (given new.faults) name first last leaves;
      kept = leaves.kept;
      telling = leaves.telling;
    }

pub returns : goal.returns
returns g c =
    let t = (targets_by g.W.Target.named_by g.W.Target.is_same g.W.Target.length_of g.W.Target.made c.args.sizes.now c.args.one_alone) in
    let first = shelf (g.F.Files.tells c.args.files.now) (g.F.Files.held c.args.files.now) (g.F.Files.faults c.args.files.now) in
    let last = shelf (g.F.Files.tells c.read_all.new.files) (g.F.Files.held c.read_all.new.files) (g.F.Files.faults c.read_all.new.files) in
    let name = c.args.name.now in
    let lines = c.in_ok-lines.lines in
    let new = c.read_all.new.found in
    let none = c.new-faults.ensures.items in
    let start = empty t c.new-faults.result in
    let named : name_of lines ≡ name = c.in_ok-lines.ensures.name in
    let fresh : IsFresh limits lines = c.in_ok-lines.ensures.fresh in
    let why = c.in-Err.why in
    let ended = failing (Vec g.row.W-Fault.Denot Global) why in
    let is : c.read_all.result ≡ Err why = c.in-Err.is in
    let here : Leaves (name_of lines) first last (failing (Unit {0}) why) = subst (λ (r : Result (Unit {0}) TextFail). Leaves (name_of lines) first last r) is c.read_all.ensures.leaves in
    let leaves : Leaves name first last ended = leaves_failing (Unit {0}) (Vec g.row.W-Fault.Denot Global) why name first last (subst (λ (n : List ℕ). Leaves n first last (failing (Unit {0}) why)) named here) in
    record {
      gives = λ tells text held. tt;
      refuses = λ tells text held refusal same. sym (ap (λ (l : FaultList g.row.W-Fault.Denot). l.refusal) (empty_in t c.new-faults.result text (left lines text) none (fresh.all_left text)))
          ∙ refused_by t why refusal start new (left lines text) (same_failing (Vec g.row.W-Fault.Denot Global) why (IsRefused refusal) same)
          (subst (λ (r : Result (Unit {0}) TextFail). EndsBy t r start new (left lines text)) is (c.read_all.ensures.says tells text (ap first.held named ∙ held)));
      found = clause_found ended name first last leaves;
      fault = clause_fault ended name first last leaves;
      exact = clause_exact ended name first last leaves;
      ordered = tt;
      one = λ alone. tt;
      counts = clause_counts ended name first last leaves;
      kept = leaves.kept;
      telling = leaves.telling;
    }
