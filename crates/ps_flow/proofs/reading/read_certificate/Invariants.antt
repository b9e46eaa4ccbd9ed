use Rattle.std.proofs.Common.{◌≡◌, ◌++◌, map, length}
use Rattle.std.specs.Prelude.{All}
use Rattle.ps_flow.specs.Written.{line_text}
use Rattle.ps_flow.specs.Lines.{IsNumbered}
use Rattle.ps_flow.specs.Read.{IsWithin, lines_of}
use Rattle.ps_flow.proofs.reading.read_certificate.Given as goal

-- the lines that were read are the certificate's, and the others are left
abbrev pub invariant-loop-left : goal.invariant-loop-left
invariant-loop-left l = record {
  within : IsWithin l.text;
  cut : lines_of l.text ≡ map line_text l.cert ++ lines_of l.left;
  numbered : All IsNumbered l.cert;
}

abbrev pub decreases-loop-left : goal.decreases-loop-left
decreases-loop-left l = length l.left
