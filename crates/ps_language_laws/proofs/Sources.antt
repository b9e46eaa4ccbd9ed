-- Every source has a reading: an application, or its first refusal.
use Rattle.std.proofs.Common.{◌≡◌, ℕ, ◌⊎◌, inl, inr, List, [], Option, Some, None, IsSome, Ok, refl, sym, subst}
use Rattle.std.specs.Prelude.{slice_get}
use Rattle.ps_base.specs.declared.failing.Refusal.{Refusal}
use Rattle.ps_base.specs.declared.failing.Rule.{Rule}
use Rattle.ps_lexer.specs.declared.token.Tokens.{Tokens}
use Rattle.ps_lexer.specs.Reading.{IsRefused as IsUnread, tokens}
use Rattle.ps_parser.specs.Language.{IsSpelt, IsRefused}
use Rattle.ps_parser.specs.Places.{step_place}
use Rattle.ps_parser.specs.Tree.{SourceTree}
use Rattle.ps_derived.specs.declared.library.Library.{Library}
use Rattle.ps_derived.specs.Flat.{flat}
use Rattle.ps_derived.specs.Texts.{libraries}
use Rattle.ps_offences.specs.BlockRules.{block_offences}
use Rattle.ps_names.specs.Offences.{refused, IsFirst}
use Rattle.ps_names.specs.Rules.{offences}
use Rattle.ps_names.specs.Stands.{Stands, network}
use Rattle.ps_names.proofs.Firsts.{refused_first}
use Rattle.ps_model.specs.Action.{Action, assigns, calls}
use Rattle.ps_model.specs.Network.{Network}
use Rattle.ps_model.specs.Typing.{Accepted}
use Rattle.ps_flow.specs.Refusals.{BreaksStep, IsFirstBreach}
use Rattle.ps_accepted.specs.Demanding.{IsDemandableAs}
use Rattle.ps_accepted.specs.Source.{Reading, IsText, IsProgram, Resolves, pin_name, BreaksFlow, IsResolvedAs, IsAcceptedAs}
use Rattle.ps_accepted.specs.Source.Reading.{stands_for, is_refused}
use Rattle.ps_accepted.proofs.Demandable.{some_demanding}
use Rattle.ps_accepted.proofs.Placing.{breach_placed, target_placed}
use Rattle.ps_accepted.proofs.Sourced.{some_of}
use Rattle.ps_language_laws.proofs.Flow.{flow_decided}
use Rattle.ps_language_laws.proofs.Lexing.{tokens_decided}
use Rattle.ps_language_laws.proofs.Spelling.{spelling_decided}
use Rattle.ps_language_laws.proofs.WellFormed.{well_formed}

-- there is no offence, or one is named
named_or_none : (os : List Refusal) → (os ≡ []) ⊎ ((r : Refusal) × (refused os ≡ Some r))
named_or_none os = by (refused os) refl
  where
    by : (o : Option Refusal) → refused os ≡ o → (os ≡ []) ⊎ ((r : Refusal) × (refused os ≡ Some r))
    by None is = inl (subst (IsFirst os) is (refused_first os))
    by (Some r) is = inr (r, is)

module _ (s : List ℕ) where
  abbrev Resolved : Type 0
  Resolved = (reading : Reading) × IsResolvedAs s reading

  -- by the rules N, where the text breaks no rule B
  of_program : (p : SourceTree) → IsProgram s p → Resolved
  of_program p program = by (named_or_none (offences p))
    where
      by : (offences p ≡ []) ⊎ ((r : Refusal) × (refused (offences p) ≡ Some r)) → Resolved
      by (inl unbroken) = (stands_for (network p), record { tree = p; program = program; stands = record { unbroken = unbroken; is = refl } })
      by (inr named) = (is_refused named.0, inr (inr (inr (record { tree = p; program = program; names = named.1 }))))

  -- by the rules B, where the tokens spell a text
  of_text : (l : Library) → IsText s l → Resolved
  of_text l text = by (named_or_none (block_offences l))
    where
      by : (block_offences l ≡ []) ⊎ ((r : Refusal) × (refused (block_offences l) ≡ Some r)) → Resolved
      by (inl unbroken) = of_program (flat l) (record { library = l; text = text; unbroken = unbroken; is = refl })
      by (inr named) = (is_refused named.0, inr (inr (inl (record { library = l; text = text; blocks = named.1 }))))

  -- by the rules P, where there are tokens
  of_tokens : (t : Tokens) → tokens s (Ok t) → Resolved
  of_tokens t are = by (spelling_decided t (well_formed s t are))
    where
      by : ((l : Library) × IsSpelt libraries t.list l) ⊎ ((r : Refusal) × IsRefused libraries t.list t.end r) → Resolved
      by (inl l) = of_text l.0 (record { lexed = t; tokens_are = are; spelt = l.1 })
      by (inr r) = (is_refused r.0, inr (inl (record { lexed = t; tokens_are = are; breaks = r.1 })))

  pub resolution : (reading : Reading) × IsResolvedAs s reading
  resolution = by (tokens_decided s)
    where
      by : ((t : Tokens) × tokens s (Ok t)) ⊎ ((r : Refusal) × IsUnread s r) → Resolved
      by (inl t) = of_tokens t.0 t.1
      by (inr r) = (is_refused r.0, inl r.1)

  -- ---- the rules S

  module _ (p : SourceTree) (net : Network) (stands : Stands p net) where
    -- the place of a breach stands in the source
    placed : (k : ℕ) (rule : Rule) (a : Action) (pin : Option ℕ) → slice_get net.steps k ≡ Some a → BreaksStep net a rule pin → IsSome (step_place p k (pin_name net (Some a) pin))
    placed k rule (assigns t e) None at b = target_placed p net stands k (assigns t e) at
    placed k rule (assigns t e) (Some j) at b = absurd b
    placed k rule (calls i args) None at b = absurd b
    placed k rule (calls i args) (Some j) at b = breach_placed p net stands k i j args rule at b

    breach_of : (rule : Rule) (k : ℕ) (pin : Option ℕ) → IsProgram s p → IsFirstBreach net rule k pin → (r : Refusal) × BreaksFlow s r
    breach_of rule k pin program first =
        let place = some_of (step_place p k (pin_name net (slice_get net.steps k) pin)) (subst (λ o. IsSome (step_place p k (pin_name net o pin))) (sym first.here) (placed k rule first.action pin first.here first.breaks)) in
        (record { rule = rule; place = place.0 }, record { tree = p; net = net; program = program; stands = stands; step = k; pin = pin; breach = first; place = place.1 })

  pub acceptance : (reading : Reading) × IsAcceptedAs s reading
  acceptance = by resolution.0 resolution.1
    where
      flows : (net : Network) → Resolves s net → Accepted net ⊎ ((rule : Rule) × (step : ℕ) × (pin : Option ℕ) × IsFirstBreach net rule step pin) → (reading : Reading) × IsAcceptedAs s reading
      flows net r (inl accepted) = (stands_for net, (r, accepted))
      flows net r (inr b) = let breach = breach_of r.tree net r.stands b.0 b.1 b.2 r.program b.3 in (is_refused breach.0, inr breach.1)

      by : (reading : Reading) → IsResolvedAs s reading → (reading : Reading) × IsAcceptedAs s reading
      by (stands_for net) r = flows net r (flow_decided net)
      by (is_refused r) h = (is_refused r, inl h)

  pub demanding : (reading : Reading) × IsDemandableAs s reading
  demanding = some_demanding s acceptance.0 acceptance.1
