-- Literals and ways, one after another, and what is told of them.
use Rattle.std.proofs.Common.{◌≡◌, ℕ, ◌+◌, ◌<◌, Bool, true, false, not, List, [], ◌∷◌, length, drop, refl, ap, ◌∙◌, inl, inr}
use Rattle.std.specs.Prelude.{Option, Some, None, find, slice_index_or}
use Rattle.std.specs.List.{AllByRecursion}
use Rattle.std.proofs.lemmas.Bool.{cond-true, cond-false}
use Rattle.std.proofs.lemmas.List.{get_or_default}
use Rattle.ps_model.proofs.Rest.{rest_at}
use Rattle.ps_model.specs.Table.{Conditions}
use Rattle.ps_ways.specs.Ways.{meets}
use Rattle.ps_ways.specs.declared.way.Literal.{Literal}
use Rattle.ps_ways.specs.declared.way.Literal.TheVariants.{Any, Is, Not}
use Rattle.ps_ways.specs.declared.way.Way.{Way}
use Rattle.ps_why.specs.Guards.{Decides, IsOpen, IsPassed, LiteralIs, before_any}
use Rattle.ps_why.specs.Telling.{Adds}
use Rattle.ps_why.specs.declared.fact.Fact.{Fact}
use Rattle.ps_why.specs.declared.fact.Fact.TheVariants.{AskIs}

-- a literal that asks something stands before those behind it
pub before_next : (l : Literal) (ls : List Literal) → (l ≡ Any → ⊥) → before_any (l ∷ ls) ≡ l ∷ before_any ls
before_next Any ls some = absurd (some refl)
before_next (Is a) ls some = refl
before_next (Not a) ls some = refl

-- the literals from one on
pub literal_at : (ls : List Literal) (i : ℕ) → i < length ls → drop i ls ≡ slice_index_or ls i Any ∷ drop (i + 1) ls
literal_at ls i h = rest_at ls i (slice_index_or ls i Any) h (get_or_default ls i Any (slice_index_or ls i Any) h)

-- where the next literal asks nothing, nothing is left to tell
pub none_before : (ls : List Literal) (i : ℕ) → i < length ls → slice_index_or ls i Any ≡ Any → before_any (drop i ls) ≡ []
none_before ls i h is = ap before_any (literal_at ls i h ∙ ap (λ l. l ∷ drop (i + 1) ls) is)

-- the first that does not hold, from a literal on
module _ (c : Conditions) (ls : List Literal) (i : ℕ) (within : i < length ls) where
  abbrev failing : List Literal → Option Literal
  failing ls = find (λ l. not (meets l c)) (before_any ls)

  abbrev at : Literal
  at = slice_index_or ls i Any

  abbrev rest : List Literal
  rest = drop (i + 1) ls

  pub failing_end : at ≡ Any → failing (drop i ls) ≡ None
  failing_end is = ap failing (literal_at ls i within ∙ ap (λ l. l ∷ rest) is)

  asks_something : (at ≡ Any → ⊥) → failing (drop i ls) ≡ find (λ l. not (meets l c)) (at ∷ before_any rest)
  asks_something some = ap failing (literal_at ls i within) ∙ ap (find (λ l. not (meets l c))) (before_next at rest some)

  pub failing_here : (at ≡ Any → ⊥) → meets at c ≡ false → failing (drop i ls) ≡ Some at
  failing_here some off = asks_something some ∙ cond-true (not (meets at c)) (Some at) (failing rest) (ap not off)

  pub failing_next : (at ≡ Any → ⊥) → meets at c ≡ true → failing (drop i ls) ≡ failing rest
  failing_next some on = asks_something some ∙ cond-false (not (meets at c)) (Some at) (failing rest) (ap not on)

-- what is told of literals goes with more that is told
module _ (k : ℕ) (old new : Fact → Type 0) (more : (fact : Fact) → old fact → new fact) where
  pub literal_by_more : (l : Literal) (b : Bool) → LiteralIs old k l b → LiteralIs new k l b
  literal_by_more Any b h = h
  literal_by_more (Is a) b h = more (AskIs k a b) h
  literal_by_more (Not a) b h = more (AskIs k a (not b)) h

  pub open_by_more : (ls : List Literal) → AllByRecursion (λ l. LiteralIs old k l true) ls → AllByRecursion (λ l. LiteralIs new k l true) ls
  open_by_more [] h = tt
  open_by_more (l ∷ ls) h = (literal_by_more l true h.0, open_by_more ls h.1)

-- facts that come one after another
pub adds_none : (Sort : Fact → Type 0) (facts : List Fact) → Adds Sort facts facts
adds_none Sort facts = record { kept = λ f h. h; only = λ f h. inl h }

pub adds_more : (Sort : Fact → Type 0) (a b c : List Fact) → Adds Sort a b → Adds Sort b c → Adds Sort a c
adds_more Sort a b c x y = record {
  kept = λ f h. y.kept f (x.kept f h);
  only = λ f h. elim (y.only f h) [ inl before ↦ x.only f before | inr is ↦ inr is ];
}

-- ways, one after another
module _ (told : Fact → Type 0) (k q : ℕ) where
  pub decides_next : (w : Way) (ways : List Way) (q' : ℕ) → IsPassed told k q w → Decides told k ways q q' → Decides told k (w ∷ ways) q q'
  decides_next w ways q' p (inl left) = inl (record {
    before = w ∷ left.before;
    way = left.way;
    behind = left.behind;
    order = ap (λ ws. w ∷ ws) left.order;
    passed = (p, left.passed);
    of_state = left.of_state;
    open_way = left.open_way;
    leads = left.leads;
  })
  decides_next w ways q' p (inr kept) = inr ((p, kept.0), kept.1)

  pub decides_here : (w : Way) (ways : List Way) → w.state ≡ q → IsOpen told k w → Decides told k (w ∷ ways) q w.next
  decides_here w ways of asked_holds = inl (record {
    before = [];
    way = w;
    behind = ways;
    order = refl;
    passed = tt;
    of_state = of;
    open_way = asked_holds;
    leads = refl;
  })

-- what stands past the ways
abbrev pub no_way : Way
no_way = record { state = 0; number = 0; next = 0; first = Any; second = Any; third = Any }

-- the ways from one on
pub way_at : (ws : List Way) (i : ℕ) → i < length ws → drop i ws ≡ slice_index_or ws i no_way ∷ drop (i + 1) ws
way_at ws i h = rest_at ws i (slice_index_or ws i no_way) h (get_or_default ws i no_way (slice_index_or ws i no_way) h)
