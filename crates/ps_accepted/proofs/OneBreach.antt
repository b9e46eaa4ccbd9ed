-- An application breaks the rules S first at one step and pin, by one rule.
use Rattle.std.proofs.Common.{◌≡◌, ◌∙◌, ℕ, List, Option, Some, sym, ap, subst, inl, inr}
use Rattle.std.specs.Prelude.{slice_get}
use Rattle.std.proofs.lemmas.Option.{same_Some}
use Rattle.ps_base.specs.declared.failing.Refusal.{Refusal}
use Rattle.ps_model.specs.Network.{Network}
use Rattle.ps_flow.specs.Refusals.{IsFirstBreach}
use Rattle.ps_flow.proofs.Refused.{not_accepted, one_first_breach}
use Rattle.ps_parser.specs.Places.{step_place}
use Rattle.ps_parser.specs.Tree.{SourceTree}
use Rattle.ps_names.specs.Stands.{network}
use Rattle.ps_accepted.specs.Source.{Reading, BreaksFlow, IsResolvedAs, IsAcceptedAs, pin_name}
use Rattle.ps_accepted.specs.Source.Reading.{stands_for, is_refused}
use Rattle.ps_accepted.proofs.OneReading.{one_program, stands_unrefused, one_source_refusal, one_application}

one_flow_refusal : (s : List ℕ) (r q : Refusal) → BreaksFlow s r → BreaksFlow s q → r ≡ q
one_flow_refusal s r q a b =
    let trees : b.tree ≡ a.tree = one_program s b.tree a.tree b.program a.program in
    let nets : b.net ≡ a.net = b.stands.is ∙ ap network trees ∙ sym a.stands.is in
    let one = one_first_breach a.net r.rule q.rule a.step b.step a.pin b.pin a.breach (subst (λ (n : Network). IsFirstBreach n q.rule b.step b.pin) nets b.breach) in
    let place_is : Some r.place ≡ Some q.place =
    sym a.place
    ∙ ap (λ (k : ℕ). step_place a.tree k (pin_name a.net (slice_get a.net.steps k) a.pin)) one.1
    ∙ ap (λ (p : Option ℕ). step_place a.tree b.step (pin_name a.net (slice_get a.net.steps b.step) p)) one.2
    ∙ ap (λ (n : Network). step_place a.tree b.step (pin_name n (slice_get n.steps b.step) b.pin)) (sym nets)
    ∙ ap (λ (t : SourceTree). step_place t b.step (pin_name b.net (slice_get b.net.steps b.step) b.pin)) (sym trees)
    ∙ b.place in
    let place = same_Some r.place q.place place_is in
    λ i. record { rule = one.0 i; place = place i }

flow_refused : (s : List ℕ) (r q : Refusal) → BreaksFlow s r → IsResolvedAs s (is_refused q) → ⊥
flow_refused s r q a n = stands_unrefused s a.net q (record { tree = a.tree; program = a.program; stands = a.stands }) n

accepted_flow : (s : List ℕ) (net : Network) (r : Refusal) → IsAcceptedAs s (stands_for net) → BreaksFlow s r → ⊥
accepted_flow s net r a b =
    not_accepted net r.rule b.step b.pin
    (subst (λ (n : Network). IsFirstBreach n r.rule b.step b.pin) (one_application s b.net net (record { tree = b.tree; program = b.program; stands = b.stands }) a.0) b.breach) a.1

pub one_acceptance : (s : List ℕ) (r q : Reading) → IsAcceptedAs s r → IsAcceptedAs s q → r ≡ q
one_acceptance s (stands_for a) (stands_for b) x y = ap stands_for (one_application s a b x.0 y.0)
one_acceptance s (stands_for a) (is_refused q) x (inl n) = absurd (stands_unrefused s a q x.0 n)
one_acceptance s (stands_for a) (is_refused q) x (inr f) = absurd (accepted_flow s a q x f)
one_acceptance s (is_refused r) (stands_for b) (inl n) y = absurd (stands_unrefused s b r y.0 n)
one_acceptance s (is_refused r) (stands_for b) (inr f) y = absurd (accepted_flow s b r y f)
one_acceptance s (is_refused r) (is_refused q) (inl n) (inl m) = ap is_refused (one_source_refusal s r q n m)
one_acceptance s (is_refused r) (is_refused q) (inl n) (inr f) = absurd (flow_refused s q r f n)
one_acceptance s (is_refused r) (is_refused q) (inr f) (inl n) = absurd (flow_refused s r q f n)
one_acceptance s (is_refused r) (is_refused q) (inr f) (inr g) = ap is_refused (one_flow_refusal s r q f g)
