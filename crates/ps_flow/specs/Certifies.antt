-- What SAFEBOOL flow makes of an application.
use Rattle.std.specs.Prelude.{◌≡◌, List, Result, Ok, Err}
use Rattle.ps_model.specs.Network.{Network}
use Rattle.ps_model.specs.Typing.{Accepted}
use Rattle.ps_flow.specs.declared.certificate.CertLine.{CertLine}
use Rattle.ps_flow.specs.declared.refusal.FlowFail.{FlowFail}
use Rattle.ps_flow.specs.declared.refusal.FlowFail.TheVariants.{Memory, Refused}
use Rattle.ps_flow.specs.Derivation.{certificate}
use Rattle.ps_flow.specs.Refusals.{IsFirstBreach}

-- The certificate of an application that is accepted, or the first breach of one that is not. Running out of memory is the one
-- free answer.
abbrev pub Certifies : Network → Result (List CertLine) FlowFail → Type 0
Certifies net (Ok lines) = Accepted net × (lines ≡ certificate net)
Certifies net (Err Memory) = Unit {0}
Certifies net (Err (Refused r)) = IsFirstBreach net r.rule r.step r.pin
