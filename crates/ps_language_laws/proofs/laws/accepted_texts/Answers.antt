use Rattle.ps_language_laws.proofs.OfTexts as texts
use Rattle.ps_language_laws.proofs.laws.accepted_texts.Goals as goal

pub returns-clause-has_library : goal.returns-clause-has_library
returns-clause-has_library c = texts.has_library

pub returns-clause-is_accepted : goal.returns-clause-is_accepted
returns-clause-is_accepted c = texts.is_accepted
