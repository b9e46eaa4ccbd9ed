use Rattle.std.proofs.Common.{◌≡◌, ◌++◌, drop}
use Rattle.ps_flow.specs.Written.{written}
use Rattle.ps_flow.proofs.text.write_certificate.Given as goal

-- the lines that are left are still to be written
abbrev pub invariant-loop-line : goal.invariant-loop-line
invariant-loop-line l = l.text ++ written (drop l.line-index l.line-items) ≡ written l.cert
