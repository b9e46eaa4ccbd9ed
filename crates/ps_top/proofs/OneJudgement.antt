-- The text of a certificate comes to one judgement alone.
use Rattle.std.proofs.Common.{◌≡◌, ◌<◌, ◌≤◌, ◌+◌, ◌∙◌, ◌⊎◌, ℕ, true, false, List, Some, length, refl, sym, ap, subst, inl, inr, ⊎_elim, arith}
use Rattle.std.specs.Prelude.{slice_get}
use Rattle.std.specs.List.{list_all}
use Rattle.std.proofs.lemmas.Bool.{false≢true, cases_lt}
use Rattle.std.proofs.lemmas.Option.{same_Some, slice_get_within}
use Rattle.ps_base.specs.declared.failing.Refusal.{Refusal}
use Rattle.ps_base.specs.declared.failing.Place.{Place}
use Rattle.ps_base.specs.declared.failing.Rule.{Rule}
use Rattle.ps_base.specs.declared.failing.Rule.TheVariants.{O1, O2, O3, O4, O5}
use Rattle.ps_model.specs.Formula.{Formula}
use Rattle.ps_model.specs.Network.{Network}
use Rattle.ps_model.specs.Nodes.{app_nodes}
use Rattle.ps_flow.specs.declared.certificate.CertLine.{CertLine}
use Rattle.ps_flow.proofs.OneAnswer.{one_certificate_of, one_text_refusal, refused_or_certificate}
use Rattle.ps_checker.specs.Derives.{Derives, IsInstance, LiteralsFit, is_earlier, fits}
use Rattle.ps_checker.specs.Objections.{LineBreaks, EachUpTo, LiteralMisfits, Objects}
use Rattle.ps_checker.proofs.Lawful.{not_derived}
use Rattle.ps_top.specs.Program.{Ruling, HasObjection, Judges}
use Rattle.ps_top.specs.Program.Ruling.{derives, objects}

place_one : (p q : Place) → p.line ≡ q.line → p.column ≡ q.column → p ≡ q
place_one p q lines columns = λ i. record { line = lines i; column = columns i }

refusal_one : (r q : Refusal) → r.rule ≡ q.rule → r.place ≡ q.place → r ≡ q
refusal_one r q rules places = λ i. record { rule = rules i; place = places i }

-- ---- objections

-- the ways in which a line breaks a rule
abbrev LineWay : Network → List CertLine → ℕ → CertLine → Rule → Type 0
LineWay net lines i l rule =
    ((rule ≡ O1) × (length (app_nodes net) ≤ l.node))
    ⊎ ((rule ≡ O2) × (l.node < length (app_nodes net)) × (list_all (is_earlier i) l.premises ≡ false))
    ⊎ ((rule ≡ O3) × (list_all (is_earlier i) l.premises ≡ true)
    × ((e : Formula) × (slice_get (app_nodes net) l.node ≡ Some e) × (fits net lines l.rule l.premises (l.node + 1) e ≡ false)))

line_way : (net : Network) (lines : List CertLine) (i : ℕ) (l : CertLine) (rule : Rule) → LineBreaks net lines i l rule → LineWay net lines i l rule
line_way net lines i l O1 h = inl (refl, h)
line_way net lines i l O2 h = inr (inl (refl, h.0, h.1))
line_way net lines i l O3 h = inr (inr (refl, h.0, h.1))
line_way net lines i l _ h = absurd h

no_node : (net : Network) (n : ℕ) (e : Formula) → slice_get (app_nodes net) n ≡ Some e → length (app_nodes net) ≤ n → ⊥
no_node net n e at past = let within = slice_get_within (app_nodes net) n e at in omega (arith, within, past)

breaks_instance : (net : Network) (lines : List CertLine) (i : ℕ) (l : CertLine) (rule : Rule) → LineBreaks net lines i l rule → IsInstance net lines i l → ⊥
breaks_instance net lines i l rule h s = way (line_way net lines i l rule h)
  where
    way : LineWay net lines i l rule → ⊥
    way (inl a) = no_node net l.node s.node s.exists a.1
    way (inr (inl a)) = false≢true (sym a.2 ∙ s.earlier)
    way (inr (inr a)) =
        let same : a.2.0 ≡ s.node = same_Some a.2.0 s.node (sym a.2.1 ∙ s.exists) in
        false≢true (sym a.2.2 ∙ ap (fits net lines l.rule l.premises (l.node + 1)) same ∙ s.rule)

line_one : (net : Network) (lines : List CertLine) (i : ℕ) (l : CertLine) (r q : Rule) → LineBreaks net lines i l r → LineBreaks net lines i l q → r ≡ q
line_one net lines i l r q x y = both (line_way net lines i l r x) (line_way net lines i l q y)
  where
    both : LineWay net lines i l r → LineWay net lines i l q → r ≡ q
    both (inl a) (inl b) = a.0 ∙ sym b.0
    both (inl a) (inr (inl b)) = absurd (let m = a.1 in let n = b.1 in omega arith)
    both (inl a) (inr (inr b)) = absurd (no_node net l.node b.2.0 b.2.1 a.1)
    both (inr (inl a)) (inl b) = absurd (let m = a.1 in let n = b.1 in omega arith)
    both (inr (inl a)) (inr (inl b)) = a.0 ∙ sym b.0
    both (inr (inl a)) (inr (inr b)) = absurd (false≢true (sym a.2 ∙ b.1))
    both (inr (inr a)) (inl b) = absurd (no_node net l.node a.2.0 a.2.1 b.1)
    both (inr (inr a)) (inr (inl b)) = absurd (false≢true (sym b.2 ∙ a.1))
    both (inr (inr a)) (inr (inr b)) = a.0 ∙ sym b.0

-- the ways in which there is an objection
abbrev Way : Network → List CertLine → ℕ → Rule → Type 0
Way net lines n rule =
    ((rule ≡ O5) × (n ≡ length lines + 1) × EachUpTo net lines (length lines) × LiteralMisfits net)
    ⊎ ((rule ≡ O4) × (n ≡ length lines + 1) × EachUpTo net lines (length lines) × LiteralsFit net)
    ⊎ ((i : ℕ) × (l : CertLine) × (n ≡ i + 1) × EachUpTo net lines i × (slice_get lines i ≡ Some l) × LineBreaks net lines i l rule)

way_of : (net : Network) (lines : List CertLine) (n : ℕ) (rule : Rule) → Objects net lines n rule → Way net lines n rule
way_of net lines n O5 h = inl (refl, h.0, h.1, h.2)
way_of net lines n O4 h = inr (inl (refl, h.0, h.1, h.2))
way_of net lines n _ h = inr (inr h)

fits_or_misfits : (net : Network) → LiteralMisfits net → LiteralsFit net → ⊥
fits_or_misfits net m f = false≢true (sym m.6 ∙ f m.0 m.1 m.2 m.3 m.4 m.5)

line_within : (net : Network) (lines : List CertLine) (n i : ℕ) (l : CertLine) (rule : Rule) → EachUpTo net lines n → i < n → slice_get lines i ≡ Some l → LineBreaks net lines i l rule → ⊥
line_within net lines n i l rule each lt at breaks = breaks_instance net lines i l rule breaks (each i lt l at)

object_one : (net : Network) (lines : List CertLine) (n m : ℕ) (r q : Rule) → Objects net lines n r → Objects net lines m q → (n ≡ m) × (r ≡ q)
object_one net lines n m r q x y = both (way_of net lines n r x) (way_of net lines m q y)
  where
    both : Way net lines n r → Way net lines m q → (n ≡ m) × (r ≡ q)
    both (inl a) (inl b) = (a.1 ∙ sym b.1, a.0 ∙ sym b.0)
    both (inl a) (inr (inl b)) = absurd (fits_or_misfits net a.3 b.3)
    both (inl a) (inr (inr b)) = absurd (line_within net lines (length lines) b.0 b.1 q a.2 (slice_get_within lines b.0 b.1 b.4) b.4 b.5)
    both (inr (inl a)) (inl b) = absurd (fits_or_misfits net b.3 a.3)
    both (inr (inl a)) (inr (inl b)) = (a.1 ∙ sym b.1, a.0 ∙ sym b.0)
    both (inr (inl a)) (inr (inr b)) = absurd (line_within net lines (length lines) b.0 b.1 q a.2 (slice_get_within lines b.0 b.1 b.4) b.4 b.5)
    both (inr (inr a)) (inl b) = absurd (line_within net lines (length lines) a.0 a.1 r b.2 (slice_get_within lines a.0 a.1 a.4) a.4 a.5)
    both (inr (inr a)) (inr (inl b)) = absurd (line_within net lines (length lines) a.0 a.1 r b.2 (slice_get_within lines a.0 a.1 a.4) a.4 a.5)
    both (inr (inr a)) (inr (inr b)) =
        ⊎_elim (λ lt. absurd (line_within net lines b.0 a.0 a.1 r b.3 lt a.4 a.5))
        (λ le. ⊎_elim (λ gt. absurd (line_within net lines a.0 b.0 b.1 q a.3 gt b.4 b.5))
        (λ ge.
        let same : b.0 ≡ a.0 = omega arith in
        let at : slice_get lines a.0 ≡ Some b.1 = ap (slice_get lines) (sym same) ∙ b.4 in
        let line : b.1 ≡ a.1 = same_Some b.1 a.1 (sym at ∙ a.4) in
        let there : LineBreaks net lines a.0 a.1 q = subst (λ (l : CertLine). LineBreaks net lines a.0 l q) line (subst (λ (i : ℕ). LineBreaks net lines i b.1 q) same b.5) in
        (let p = a.2 in let p' = b.2 in omega arith, line_one net lines a.0 a.1 r q a.5 there))
        (cases_lt b.0 a.0))
        (cases_lt a.0 b.0)

objection_one : (net : Network) (text : List ℕ) (r q : Refusal) → HasObjection net text r → HasObjection net text q → r ≡ q
objection_one net text r q a b =
    let same : b.lines ≡ a.lines = one_certificate_of text b.lines a.lines b.certificate_is a.certificate_is in
    let one = object_one net a.lines r.place.line q.place.line r.rule q.rule a.objection (subst (λ (ls : List CertLine). Objects net ls q.place.line q.rule) same b.objection) in
    refusal_one r q one.1 (place_one r.place q.place one.0 (a.line_alone ∙ sym b.line_alone))

derived_objected : (net : Network) (text : List ℕ) (lines : List CertLine) (r : Refusal) → Judges net text (derives lines) → Judges net text (objects r) → ⊥
derived_objected net text lines r d (inl x) = refused_or_certificate text r lines x d.0
derived_objected net text lines r d (inr o) =
    not_derived net o.lines r.place.line r.rule o.objection (subst (λ (ls : List CertLine). Derives net ls) (one_certificate_of text lines o.lines d.0 o.certificate_is) d.1)

pub one_judgement : (net : Network) (text : List ℕ) (a b : Ruling) → Judges net text a → Judges net text b → a ≡ b
one_judgement net text (derives k) (derives m) x y = ap derives (one_certificate_of text k m x.0 y.0)
one_judgement net text (derives k) (objects q) x y = absurd (derived_objected net text k q x y)
one_judgement net text (objects r) (derives m) x y = absurd (derived_objected net text m r y x)
one_judgement net text (objects r) (objects q) (inl x) (inl y) = ap objects (one_text_refusal text r q x y)
one_judgement net text (objects r) (objects q) (inl x) (inr y) = absurd (refused_or_certificate text r y.lines x y.certificate_is)
one_judgement net text (objects r) (objects q) (inr x) (inl y) = absurd (refused_or_certificate text q x.lines y x.certificate_is)
one_judgement net text (objects r) (objects q) (inr x) (inr y) = ap objects (objection_one net text r q x y)
