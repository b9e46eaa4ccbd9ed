-- Whether a rule fits a node of this shape, whose operands have these places.
use Rattle.std.specs.Prelude.{ℕ, Bool, true, false, List, [], ◌∷◌, ◌&&◌, ◌<◌}
use Rattle.ps_model.specs.declared.node.Shape.{Shape}
use Rattle.ps_model.specs.declared.node.Shape.TheVariants.{Signal, And as AndNode, Or as OrNode}
use Rattle.ps_model.specs.Network.{Network}
use Rattle.ps_model.specs.Typing.{is_safe_signal}
use Rattle.ps_flow.specs.declared.certificate.CertLine.{CertLine}
use Rattle.ps_flow.specs.declared.certificate.LineRule.{LineRule}
use Rattle.ps_flow.specs.declared.certificate.LineRule.TheVariants.{Src, And, Or}
use Rattle.ps_checker.specs.Derives.{speak_of, speaks_of_one}

-- There are no premises.
abbrev pub is_none : List ℕ → Bool
is_none [] = true
is_none (p ∷ ps) = false

-- The rule fits a node of this shape with these premises, where its operands are the nodes with these numbers.
abbrev pub fits_shape : Network → List CertLine → LineRule → Shape → List ℕ → List ℕ → Bool
fits_shape net lines Src (Signal s) premises places = is_none premises && is_safe_signal net s
fits_shape net lines And AndNode premises places = speaks_of_one lines premises places
fits_shape net lines Or OrNode premises places = speak_of lines premises places
fits_shape net lines _ _ premises places = false

-- a signal of the application, which has n of them, where the shape is a signal
abbrev pub IsKnown : ℕ → Shape → Type 0
IsKnown n (Signal s) = s < n
IsKnown n _ = Unit {0}
