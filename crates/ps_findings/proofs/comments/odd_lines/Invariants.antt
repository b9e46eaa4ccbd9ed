use Rattle.std.proofs.Common.{◌≡◌, length, map}
use Rattle.std.specs.Prelude.{min}
use Rattle.ps_findings.specs.Comments.{odd_lines}
use Rattle.ps_findings.specs.Walking.{HasAdded}
use Rattle.ps_findings.proofs.comments.odd_lines.Given as goal

abbrev pub invariant-loop-bytes : goal.invariant-loop-bytes
invariant-loop-bytes l =
    record {
      number : l.line ≡ min (length l.yielded) 4294967295;
      odds : HasAdded (odd_lines 0 (map (λ x. x.now) l.yielded)) l.initial.odd l.odd;
    }
