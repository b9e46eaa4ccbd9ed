use Rattle.std.proofs.Common.{subst, sym, ◌∙◌, refl}
use Rattle.ps_names.specs.Offences.{IsFirst}
use Rattle.ps_names.specs.Rules.{offences}
use Rattle.ps_names.proofs.Firsts.{refused_first}
use Rattle.ps_names.proofs.laws.stands_where_unbroken.Goals as goal

pub returns-clause-exists : goal.returns-clause-exists
returns-clause-exists c = λ p h. record { unbroken = h; is = refl }

pub returns-clause-only : goal.returns-clause-only
returns-clause-only c = λ p a b x y. x.is ∙ sym y.is

pub returns-clause-unbroken : goal.returns-clause-unbroken
returns-clause-unbroken c = λ p a x. x.unbroken

pub returns-clause-unrefused : goal.returns-clause-unrefused
returns-clause-unrefused c = λ p h. subst (IsFirst (offences p)) h (refused_first (offences p))
