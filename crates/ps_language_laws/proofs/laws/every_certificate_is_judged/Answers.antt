use Rattle.std.proofs.Common.{ℕ, ◌⊎◌, inl, inr, List, refl}
use Rattle.ps_base.specs.declared.failing.Refusal.{Refusal}
use Rattle.ps_base.specs.declared.failing.Rule.{Rule}
use Rattle.ps_model.specs.Network.{Network}
use Rattle.ps_flow.specs.declared.certificate.CertLine.{CertLine}
use Rattle.ps_flow.specs.Read.{IsCertificate, RefusesText}
use Rattle.ps_checker.specs.Derives.{Derives}
use Rattle.ps_checker.specs.Objections.{Objects}
use Rattle.ps_top.specs.Program.{Ruling, Judges}
use Rattle.ps_top.specs.Program.Ruling.{derives, objects}
use Rattle.ps_language_laws.proofs.laws.every_certificate_is_judged.Goals as goal

module _ (net : Network) (text : List ℕ) where
  -- by the rules O, where the text is that of a certificate
  of_lines : (lines : List CertLine) → IsCertificate text lines → Derives net lines ⊎ ((n : ℕ) × (rule : Rule) × Objects net lines n rule) → (j : Ruling) × Judges net text j
  of_lines lines is (inl d) = (derives lines, (is, d))
  of_lines lines is (inr o) =
      (objects (record { rule = o.1; place = record { line = o.0; column = 0 } }), inr (record { lines = lines; certificate_is = is; objection = o.2; line_alone = refl }))

  -- and by the rules C
  of_text : ((lines : List CertLine) → Derives net lines ⊎ ((n : ℕ) × (rule : Rule) × Objects net lines n rule))
      → ((lines : List CertLine) × IsCertificate text lines) ⊎ ((r : Refusal) × RefusesText text r.rule r.place) → (j : Ruling) × Judges net text j
  of_text each (inl ls) = of_lines ls.0 ls.1 (each ls.0)
  of_text each (inr r) = (objects r.0, inl r.1)

pub returns : goal.returns
returns c = λ net text. of_text net text (c.derived_or_objected.ensures net) (c.certificate_or_refused.ensures text)
