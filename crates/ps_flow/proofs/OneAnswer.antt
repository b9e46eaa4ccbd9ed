-- Deriving an application and reading a text have one answer alone, but if memory runs out.
use Rattle.std.proofs.Common.{◌≡◌, ◌≢◌, ◌+◌, ◌++◌, ◌∷◌, ◌∙◌, ◌⊎◌, [], ℕ, suc, List, Result, Ok, Err, refl, sym, ap, inl, inr, arith, length, map}
use Rattle.std.specs.Prelude.{All}
use Rattle.std.proofs.lemmas.List.Elements.{All-head, All-tail}
use Rattle.ps_base.specs.declared.failing.Fail.{Fail}
use Rattle.ps_base.specs.declared.failing.Fail.TheVariants as fail
use Rattle.ps_base.specs.declared.failing.Place.{Place}
use Rattle.ps_base.specs.declared.failing.Refusal.{Refusal}
use Rattle.ps_base.specs.declared.failing.Rule.{Rule}
use Rattle.ps_base.specs.declared.failing.Rule.TheVariants.{C1, C2}
use Rattle.ps_model.specs.Network.{Network}
use Rattle.ps_flow.specs.declared.certificate.CertLine.{CertLine}
use Rattle.ps_flow.specs.declared.refusal.FlowFail.{FlowFail}
use Rattle.ps_flow.specs.declared.refusal.FlowFail.TheVariants as flow_fail
use Rattle.ps_flow.specs.declared.refusal.FlowRefusal.{FlowRefusal}
use Rattle.ps_flow.specs.Written.{line_text, written}
use Rattle.ps_flow.specs.Lines.{IsNumbered}
use Rattle.ps_flow.specs.Read.{IsTooLarge, IsWithin, IsFirstOther, RefusesText, IsCertificate, ReadsAs}
use Rattle.ps_flow.specs.Certifies.{Certifies}
use Rattle.ps_flow.proofs.Cutting.{lines_of_text, one_certificate, no_other_line}
use Rattle.ps_flow.proofs.Refused.{not_accepted, one_first_breach}

-- ---- deriving
one_flow_refusal : (net : Network) (r q : FlowRefusal) → Certifies net (Err (flow_fail.Refused r)) → Certifies net (Err (flow_fail.Refused q)) → r ≡ q
one_flow_refusal net r q x y =
    let one = one_first_breach net r.rule q.rule r.step q.step r.pin q.pin x y in
    λ i. record { rule = one.0 i; step = one.1 i; pin = one.2 i }

pub one_certified : (net : Network) (a b : Result (List CertLine) FlowFail) → Certifies net a → Certifies net b → a ≢ Err flow_fail.Memory → b ≢ Err flow_fail.Memory → a ≡ b
one_certified net (Ok c) (Ok d) x y na nb = ap Ok (x.1 ∙ sym y.1)
one_certified net (Ok c) (Err flow_fail.Memory) x y na nb = absurd (nb refl)
one_certified net (Ok c) (Err (flow_fail.Refused q)) x y na nb = absurd (not_accepted net q.rule q.step q.pin y x.0)
one_certified net (Err flow_fail.Memory) b x y na nb = absurd (na refl)
one_certified net (Err (flow_fail.Refused r)) (Ok d) x y na nb = absurd (not_accepted net r.rule r.step r.pin x y.0)
one_certified net (Err (flow_fail.Refused r)) (Err flow_fail.Memory) x y na nb = absurd (nb refl)
one_certified net (Err (flow_fail.Refused r)) (Err (flow_fail.Refused q)) x y na nb = ap (λ z. Err (flow_fail.Refused z)) (one_flow_refusal net r q x y)

-- ---- the ways in which a text is refused
abbrev IsRefusedBy : List ℕ → Rule → Place → Type 0
IsRefusedBy text rule place =
    ((rule ≡ C2) × (place ≡ record { line = 1; column = 0 }) × IsTooLarge text)
    ⊎ ((rule ≡ C1) × (place.column ≡ 0) × IsWithin text × IsFirstOther text place.line)

refused_by : (text : List ℕ) (rule : Rule) (place : Place) → RefusesText text rule place → IsRefusedBy text rule place
refused_by text C2 place h = inl (refl, h.0, h.1)
refused_by text C1 place h = inr (refl, h.0, h.1, h.2)
refused_by text _ place h = absurd h

too_large_or_within : (text : List ℕ) → IsTooLarge text → IsWithin text → ⊥
too_large_or_within text (inl many) within = let few = within.lines in omega (arith, many, few)
too_large_or_within text (inr many) within = let few = within.bytes in omega (arith, many, few)

-- of two lines that are the first not of the form, both stand after equally many
same_count : (a b : List CertLine) (x y : List ℕ) (xs ys : List (List ℕ)) → All IsNumbered a → All IsNumbered b →
    ((l : CertLine) → IsNumbered l → x ≢ line_text l) → ((l : CertLine) → IsNumbered l → y ≢ line_text l) →
    map line_text a ++ x ∷ xs ≡ map line_text b ++ y ∷ ys → length a ≡ length b
same_count [] [] x y xs ys na nb nx ny e = refl
same_count [] (l ∷ b) x y xs ys na nb nx ny e = let here : x ≡ line_text l = cc in absurd (nx l (All-head IsNumbered l b nb) here)
same_count (l ∷ a) [] x y xs ys na nb nx ny e = let here : y ≡ line_text l = cc in absurd (ny l (All-head IsNumbered l a na) here)
same_count (l ∷ a) (m ∷ b) x y xs ys na nb nx ny e =
    let rest : map line_text a ++ x ∷ xs ≡ map line_text b ++ y ∷ ys = cc in
    ap suc (same_count a b x y xs ys (All-tail IsNumbered l a na) (All-tail IsNumbered m b nb) nx ny rest)

one_first_other : (text : List ℕ) (n m : ℕ) → IsFirstOther text n → IsFirstOther text m → n ≡ m
one_first_other text n m a b =
    let count = same_count a.before b.before a.other b.other a.behind b.behind a.numbered b.numbered a.form b.form (sym a.cut ∙ b.cut) in
    a.place ∙ ap (λ k. k + 1) count ∙ sym b.place

same_refusal : (r q : Refusal) → r.rule ≡ q.rule → r.place ≡ q.place → r ≡ q
same_refusal r q rules places = λ i. record { rule = rules i; place = places i }

same_place : (p q : Place) → p.line ≡ q.line → p.column ≡ q.column → p ≡ q
same_place p q lines columns = λ i. record { line = lines i; column = columns i }

pub one_text_refusal : (text : List ℕ) (r q : Refusal) → RefusesText text r.rule r.place → RefusesText text q.rule q.place → r ≡ q
one_text_refusal text r q x y = both (refused_by text r.rule r.place x) (refused_by text q.rule q.place y)
  where
    both : IsRefusedBy text r.rule r.place → IsRefusedBy text q.rule q.place → r ≡ q
    both (inl a) (inl b) = same_refusal r q (a.0 ∙ sym b.0) (a.1 ∙ sym b.1)
    both (inl a) (inr b) = absurd (too_large_or_within text a.2 b.2)
    both (inr a) (inl b) = absurd (too_large_or_within text b.2 a.2)
    both (inr a) (inr b) = same_refusal r q (a.0 ∙ sym b.0) (same_place r.place q.place (one_first_other text r.place.line q.place.line a.3 b.3) (a.1 ∙ sym b.1))

-- ---- reading
pub one_certificate_of : (text : List ℕ) (a b : List CertLine) → IsCertificate text a → IsCertificate text b → a ≡ b
one_certificate_of text a b x y = one_certificate a b x.numbered y.numbered (sym (lines_of_text a text x.numbered x.form) ∙ lines_of_text b text y.numbered y.form)

pub refused_or_certificate : (text : List ℕ) (r : Refusal) (lines : List CertLine) → RefusesText text r.rule r.place → IsCertificate text lines → ⊥
refused_or_certificate text r lines x c = by (refused_by text r.rule r.place x)
  where
    by : IsRefusedBy text r.rule r.place → ⊥
    by (inl a) = too_large_or_within text a.2 c.within
    by (inr a) = no_other_line lines text r.place.line c.numbered c.form a.3

pub one_read : (text : List ℕ) (a b : Result (List CertLine) Fail) → ReadsAs text a → ReadsAs text b → a ≢ Err fail.Memory → b ≢ Err fail.Memory → a ≡ b
one_read text (Ok c) (Ok d) x y na nb = ap Ok (one_certificate_of text c d x y)
one_read text (Ok c) (Err fail.Memory) x y na nb = absurd (nb refl)
one_read text (Ok c) (Err (fail.Refused q)) x y na nb = absurd (refused_or_certificate text q c y x)
one_read text (Err fail.Memory) b x y na nb = absurd (na refl)
one_read text (Err (fail.Refused r)) (Ok d) x y na nb = absurd (refused_or_certificate text r d x y)
one_read text (Err (fail.Refused r)) (Err fail.Memory) x y na nb = absurd (nb refl)
one_read text (Err (fail.Refused r)) (Err (fail.Refused q)) x y na nb = ap (λ z. Err (fail.Refused z)) (one_text_refusal text r q x y)

pub read_back : (lines : List CertLine) (a : Result (List CertLine) Fail) → All IsNumbered lines → IsWithin (written lines) → ReadsAs (written lines) a → a ≢ Err fail.Memory → a ≡ Ok lines
read_back lines a numbered within reads other =
    one_read (written lines) a (Ok lines) reads (record { form = inl refl; numbered = numbered; within = within }) other (λ e. cc)
