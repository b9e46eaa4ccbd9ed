-- Tokens have one answer: they spell one tree of a language, or they have one refusal.
use Rattle.std.proofs.Common.{◌≡◌, ◌≢◌, ◌<◌, suc, List, [], ◌∷◌, ◌++◌, Result, Ok, Err, length, drop, get_or, refl, sym, ap, ◌∙◌, subst, ⊎_elim, arith}
use Rattle.std.proofs.lemmas.Bool.{cases_lt}
use Rattle.std.proofs.lemmas.List.{append-nil, map-append}
use Rattle.ps_base.specs.declared.failing.Fail.{Fail}
use Rattle.ps_base.specs.declared.failing.Fail.TheVariants.{Memory, Refused}
use Rattle.ps_base.specs.declared.failing.Place.{Place}
use Rattle.ps_base.specs.declared.failing.Refusal.{Refusal}
use Rattle.ps_base.specs.declared.failing.Rule.{Rule}
use Rattle.ps_base.specs.declared.failing.Rule.TheVariants.{P1, P2}
use Rattle.ps_base.specs.declared.limits.TheConstants.{MOST_GROUPS}
use Rattle.ps_lexer.specs.declared.token.Token.{Token}
use Rattle.ps_lexer.specs.declared.token.Tokens.{Tokens}
use Rattle.ps_parser.specs.Symbol.{Symbol, symbol, symbols}
use Rattle.ps_parser.specs.Language.{Language, BeginsTree, Breaks, place_at, IsRefused, IsSpelt, Answers}

append_one : (xs : List Symbol) (y : Symbol) (ys : List Symbol) → xs ++ (y ∷ ys) ≡ (xs ++ y ∷ []) ++ ys
append_one [] y ys = refl
append_one (x ∷ xs) y ys = ap (λ l. x ∷ l) (append_one xs y ys)

-- a list that is cut at two places is cut earlier at one of them, and then what stands between is in the later front
pub earlier_cut : {X : Type 0} (f1 r1 f2 r2 : List X) → f1 ++ r1 ≡ f2 ++ r2 → length f1 < length f2 → (t : X) × (more : List X) × (f2 ≡ f1 ++ t ∷ more) × (r1 ≡ t ∷ more ++ r2)
earlier_cut [] r1 [] r2 e lt = absurd (omega arith)
earlier_cut [] r1 (y ∷ f2) r2 e lt = (y, f2, refl, e)
earlier_cut (x ∷ f1) r1 [] r2 e lt = absurd (omega arith)
earlier_cut (x ∷ f1) r1 (y ∷ f2) r2 e lt =
    let rest = earlier_cut f1 r1 f2 r2 (ap (drop 1) e) (omega arith) in
    let head : y ≡ x = ap (λ l. get_or l 0 y) (sym e) in
    (rest.0, rest.1, ap (λ z. z ∷ f2) head ∙ ap (λ l. x ∷ l) rest.2, rest.3)

-- a list that is cut at one place has one front and one rest
same_cut : {X : Type 0} (f1 r1 f2 r2 : List X) → f1 ++ r1 ≡ f2 ++ r2 → length f1 ≡ length f2 → (f1 ≡ f2) × (r1 ≡ r2)
same_cut [] r1 [] r2 e n = (refl, e)
same_cut [] r1 (y ∷ f2) r2 e n = absurd (omega arith)
same_cut (x ∷ f1) r1 [] r2 e n = absurd (omega arith)
same_cut (x ∷ f1) r1 (y ∷ f2) r2 e n =
    let rest = same_cut f1 r1 f2 r2 (ap (drop 1) e) (omega arith) in
    let head : x ≡ y = ap (λ l. get_or l 0 x) e in
    (ap (λ z. z ∷ f1) head ∙ ap (λ l. y ∷ l) rest.0, rest.1)

one_more : (xs : List Symbol) (y : Symbol) (ys more : List Symbol) → (xs ++ y ∷ ys) ++ more ≡ (xs ++ y ∷ []) ++ (ys ++ more)
one_more [] y ys more = refl
one_more (x ∷ xs) y ys more = ap (λ l. x ∷ l) (one_more xs y ys more)

-- a spelling tells its tree
abbrev pub IsToldBySpelling : {X : Type 0} → Language X → Type 0
IsToldBySpelling {X} language = (a b : X) → language.within MOST_GROUPS a → language.within MOST_GROUPS b → language.spelt a ≡ language.spelt b → a ≡ b

module _ {X : Type 0} (language : Language X) where
  no_spelling_of_broken : (rule : Rule) (front rest : List Symbol) (tree : X) → language.within MOST_GROUPS tree → language.spelt tree ≡ front ++ rest → Breaks rule language front rest → ⊥
  no_spelling_of_broken P1 front [] tree within e breaks = breaks MOST_GROUPS tree within (e ∙ append-nil front)
  no_spelling_of_broken P1 front (t ∷ rest) tree within e breaks = breaks MOST_GROUPS (record { tree = tree; more = rest; within = within; spelling = e ∙ append_one front t rest })
  no_spelling_of_broken P2 front [] tree within e breaks = breaks
  no_spelling_of_broken P2 front (t ∷ rest) tree within e breaks = breaks.2 (record { tree = tree; more = rest; within = within; spelling = e ∙ append_one front t rest })
  no_spelling_of_broken _ front rest tree within e breaks = breaks

  pub refused_or_spelt : (tokens : List Token) (end : Place) (refusal : Refusal) (tree : X) → IsRefused language tokens end refusal → IsSpelt language tokens tree → ⊥
  refused_or_spelt tokens end refusal tree r spelling =
      no_spelling_of_broken refusal.rule (symbols r.front) (symbols r.rest) tree spelling.within (sym spelling.spelling ∙ ap symbols r.split ∙ map-append symbol r.front r.rest) r.breaks

  no_beginning_of_broken : (rule : Rule) (front : List Symbol) (t : Symbol) (rest : List Symbol) → Breaks rule language front (t ∷ rest) → BeginsTree language MOST_GROUPS (front ++ t ∷ []) → ⊥
  no_beginning_of_broken P1 front t rest breaks begins = breaks MOST_GROUPS begins
  no_beginning_of_broken P2 front t rest breaks begins = breaks.2 begins
  no_beginning_of_broken _ front t rest breaks begins = breaks

  shorter_beginning : (front : List Symbol) (t : Symbol) (more : List Symbol) → BeginsTree language MOST_GROUPS (front ++ t ∷ more) → BeginsTree language MOST_GROUPS (front ++ t ∷ [])
  shorter_beginning front t more b = record { tree = b.tree; more = more ++ b.more; within = b.within; spelling = b.spelling ∙ one_more front t more b.more }

  -- a refusal that stands earlier rules the later one out
  no_earlier_refusal : (list : List Token) (end : Place) (r q : Refusal) (a : IsRefused language list end r) (b : IsRefused language list end q) → length a.front < length b.front → ⊥
  no_earlier_refusal list end r q a b lt =
      let parts = earlier_cut a.front a.rest b.front b.rest (sym a.split ∙ b.split) lt in
      let begins : BeginsTree language MOST_GROUPS (symbols (a.front ++ parts.0 ∷ parts.1)) = subst (λ (f : List Token). BeginsTree language MOST_GROUPS (symbols f)) parts.2 b.begins in
      let begun = subst (λ (f : List Symbol). BeginsTree language MOST_GROUPS f) (map-append symbol a.front (parts.0 ∷ parts.1)) begins in
      no_beginning_of_broken r.rule (symbols a.front) _ _ (subst (λ (rest : List Token). Breaks r.rule language (symbols a.front) (symbols rest)) parts.3 a.breaks)
      (shorter_beginning (symbols a.front) _ (symbols parts.1) begun)

  same_rule : (rule rule' : Rule) (front rest : List Symbol) → Breaks rule language front rest → Breaks rule' language front rest → rule ≡ rule'
  same_rule P1 P1 front rest a b = refl
  same_rule P2 P2 front rest a b = refl
  same_rule P1 P2 front [] a b = absurd b
  same_rule P1 P2 front (t ∷ rest) a b = absurd (a (suc MOST_GROUPS) b.1)
  same_rule P2 P1 front [] a b = absurd a
  same_rule P2 P1 front (t ∷ rest) a b = absurd (b (suc MOST_GROUPS) a.1)
  same_rule P1 _ front rest a b = absurd b
  same_rule P2 _ front rest a b = absurd b
  same_rule _ rule' front rest a b = absurd a

  -- tokens have one refusal
  pub one_refusal : (list : List Token) (end : Place) (r q : Refusal) → IsRefused language list end r → IsRefused language list end q → r ≡ q
  one_refusal list end r q a b =
      ⊎_elim (λ lt. absurd (no_earlier_refusal list end r q a b lt))
      (λ le. ⊎_elim (λ gt. absurd (no_earlier_refusal list end q r b a gt))
      (λ ge.
      let same = same_cut a.front a.rest b.front b.rest (sym a.split ∙ b.split) (omega arith) in
      let there : Breaks q.rule language (symbols a.front) (symbols a.rest) =
      subst (λ (f : List Token). Breaks q.rule language (symbols f) (symbols a.rest)) (sym same.0) (subst (λ (rest : List Token). Breaks q.rule language (symbols b.front) (symbols rest)) (sym same.1) b.breaks) in
      let rules = same_rule r.rule q.rule (symbols a.front) (symbols a.rest) a.breaks there in
      let places : r.place ≡ q.place = a.place ∙ ap (λ rest. place_at rest end) same.1 ∙ sym b.place in
      λ i. record { rule = rules i; place = places i })
      (cases_lt (length b.front) (length a.front)))
      (cases_lt (length a.front) (length b.front))

  -- tokens spell one tree
  pub one_tree : IsToldBySpelling language → (list : List Token) (a b : X) → IsSpelt language list a → IsSpelt language list b → a ≡ b
  one_tree told list a b p q = told a b p.within q.within (sym p.spelling ∙ q.spelling)

  pub one_answer : IsToldBySpelling language → (tokens : Tokens) (r q : Result X Fail) → Answers language tokens r → Answers language tokens q → r ≢ Err Memory → q ≢ Err Memory → r ≡ q
  one_answer told tokens (Ok x) (Ok y) a b n m = ap Ok (one_tree told tokens.list x y a b)
  one_answer told tokens (Ok x) (Err (Refused refusal)) a b n m = absurd (refused_or_spelt tokens.list tokens.end refusal x b a)
  one_answer told tokens (Err (Refused refusal)) (Ok y) a b n m = absurd (refused_or_spelt tokens.list tokens.end refusal y a b)
  one_answer told tokens (Err (Refused r)) (Err (Refused q)) a b n m = ap (λ r. Err (Refused r)) (one_refusal tokens.list tokens.end r q a b)
  one_answer told tokens (Err Memory) q a b n m = absurd (n refl)
  one_answer told tokens r (Err Memory) a b n m = absurd (m refl)
