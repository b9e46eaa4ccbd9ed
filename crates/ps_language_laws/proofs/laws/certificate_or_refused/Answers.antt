use Rattle.ps_language_laws.proofs.CertificateText.{certificate_decided}
use Rattle.ps_language_laws.proofs.laws.certificate_or_refused.Goals as goal

pub returns : goal.returns
returns c = certificate_decided
