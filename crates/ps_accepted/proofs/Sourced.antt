-- What was read of a source is what its whole text gives.
use Rattle.std.proofs.Common.{◌≡◌, ◌≤◌, ◌<◌, ◌+◌, ℕ, List, Option, None, Some, IsSome, Ok, length, take, refl, subst, inl, inr, ⊎_elim, arith}
use Rattle.std.proofs.lemmas.List.{take_all, length-take}
use Rattle.ps_base.specs.declared.limits.TheConstants.{LARGEST_SOURCE}
use Rattle.ps_base.specs.declared.failing.Refusal.{Refusal}
use Rattle.ps_lexer.specs.declared.token.Tokens.{Tokens}
use Rattle.ps_lexer.specs.Reading.{tokens, IsRefused}
use Rattle.ps_parser.specs.Tree.{SourceTree}
use Rattle.ps_derived.specs.declared.library.Library.{Library}
use Rattle.ps_accepted.specs.Demanding.{IsDemandableAs}
use Rattle.ps_accepted.specs.Source.{Reading, IsText, IsProgram, IsResolvedAs, IsAcceptedAs}
use Rattle.ps_accepted.specs.Source.Reading.{stands_for, is_refused}

pub some_of : {X : Type 0} (o : Option X) → IsSome o → (x : X) × (o ≡ Some x)
some_of None is = cc
some_of (Some x) is = (x, refl)

module _ (text : List ℕ) where
  abbrev pub front : List ℕ
  front = take (LARGEST_SOURCE + 1) text

  -- a text that is not too large was read whole
  small : length front ≤ LARGEST_SOURCE → front ≡ text
  small few = take_all (LARGEST_SOURCE + 1) text (omega (arith, length-take (LARGEST_SOURCE + 1) text, few))

  large : LARGEST_SOURCE < length front → LARGEST_SOURCE < length text
  large many = omega (arith, length-take (LARGEST_SOURCE + 1) text, many)

  tokens_whole : (t : Tokens) → tokens front (Ok t) → tokens text (Ok t)
  tokens_whole t h = subst (λ (s : List ℕ). tokens s (Ok t)) (small h.0) h

  refused_whole : (r : Refusal) → IsRefused front r → IsRefused text r
  refused_whole r h = ⊎_elim (λ big. inl (large big.0, big.1)) (λ few. subst (λ (s : List ℕ). IsRefused s r) (small few.0) (inr few)) h

  text_whole : (l : Library) → IsText front l → IsText text l
  text_whole l h = record { lexed = h.lexed; tokens_are = tokens_whole h.lexed h.tokens_are; spelt = h.spelt }

  program_whole : (p : SourceTree) → IsProgram front p → IsProgram text p
  program_whole p h = record { library = h.library; text = text_whole h.library h.text; unbroken = h.unbroken; is = h.is }

  pub resolution_of_whole : (reading : Reading) → IsResolvedAs front reading → IsResolvedAs text reading
  resolution_of_whole (stands_for net) h = record { tree = h.tree; program = program_whole h.tree h.program; stands = h.stands }
  resolution_of_whole (is_refused r) h =
      ⊎_elim (λ l. inl (refused_whole r l))
      (λ more. ⊎_elim
      (λ g. inr (inl (record { lexed = g.lexed; tokens_are = tokens_whole g.lexed g.tokens_are; breaks = g.breaks })))
      (λ last. ⊎_elim
      (λ b. inr (inr (inl (record { library = b.library; text = text_whole b.library b.text; blocks = b.blocks }))))
      (λ n. inr (inr (inr (record { tree = n.tree; program = program_whole n.tree n.program; names = n.names })))) last) more) h

  pub acceptance_of_whole : (reading : Reading) → IsAcceptedAs front reading → IsAcceptedAs text reading
  acceptance_of_whole (stands_for net) h = (resolution_of_whole (stands_for net) h.0, h.1)
  acceptance_of_whole (is_refused r) h =
      ⊎_elim (λ n. inl (resolution_of_whole (is_refused r) n))
      (λ f. inr (record { tree = f.tree; net = f.net; program = program_whole f.tree f.program; stands = f.stands; step = f.step; pin = f.pin; breach = f.breach; place = f.place })) h

  pub demanding_of_whole : (reading : Reading) → IsDemandableAs front reading → IsDemandableAs text reading
  demanding_of_whole (stands_for net) h = (acceptance_of_whole (stands_for net) h.0, h.1)
  demanding_of_whole (is_refused r) h =
      ⊎_elim (λ n. inl (acceptance_of_whole (is_refused r) n))
      (λ m. inr (record { tree = m.tree; net = m.net; program = program_whole m.tree m.program; stands = m.stands; accepted = m.accepted; output = m.output; large = m.large; rule = m.rule; place = m.place })) h
