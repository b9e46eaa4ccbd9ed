use Rattle.std.proofs.Common.{subst}
use Rattle.ps_lines.specs.Reader.{Gives}
use Rattle.ps_lines.specs.declared.reader.Got.{Got}
use Rattle.ps_trace.specs.FaultSays.{targets_by}
use Rattle.ps_trace.proofs.FoundLemmas.{end_in, last_no_more}
use Rattle.ps_trace.proofs.fault_file.take.Goals as goal

pub returns-in-End : goal.returns-in-End
returns-in-End g c =
    let t = (targets_by g.W.Target.named_by g.W.Target.is_same g.W.Target.length_of g.W.Target.made c.args.sizes.now c.args.one_alone) in
    record {
      says = λ lines rest gives. end_in t c.args.found.now lines (subst (λ (got : Got). Gives lines got c.args.line.now rest) c.in-End.is gives).0;
      are = c.requires.are;
      came = λ more. absurd (last_no_more more);
      no_fault = λ failed. cc;
    }
