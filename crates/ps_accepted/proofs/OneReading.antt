-- A source gives one reading alone.
use Rattle.std.proofs.Common.{◌≡◌, ◌∙◌, ℕ, List, Some, None, Ok, sym, ap, subst, inl, inr}
use Rattle.std.proofs.lemmas.Option.{same_Some}
use Rattle.ps_base.specs.declared.limits.TheConstants.{MOST_GROUPS}
use Rattle.ps_base.specs.declared.failing.Refusal.{Refusal}
use Rattle.ps_lexer.specs.declared.token.Tokens.{Tokens}
use Rattle.ps_lexer.specs.Reading.{tokens, IsRefused as IsUnread}
use Rattle.ps_lexer.proofs.Meeting.{one_list, refused_not_read, one_refusal}
use Rattle.ps_parser.specs.Language.{IsRefused, IsSpelt}
use Rattle.ps_parser.specs.Tree.{SourceTree}
use Rattle.ps_parser.proofs.OneAnswer.{one_refusal as one_grammar_refusal, refused_or_spelt, one_tree}
use Rattle.ps_derived.specs.declared.library.Library.{Library}
use Rattle.ps_derived.specs.Flat.{flat}
use Rattle.ps_derived.specs.Texts.{libraries}
use Rattle.ps_derived.proofs.Fronts.{one_spelling}
use Rattle.ps_offences.specs.BlockRules.{block_offences}
use Rattle.ps_names.specs.Offences.{refused}
use Rattle.ps_names.specs.Rules.{offences}
use Rattle.ps_names.specs.Stands.{network}
use Rattle.ps_model.specs.Network.{Network}
use Rattle.ps_accepted.specs.Source.{Reading, IsText, IsProgram, BreaksGrammar, BreaksBlocks, BreaksNames, Resolves, IsResolvedAs}
use Rattle.ps_accepted.specs.Source.Reading.{stands_for, is_refused}

-- ---- tokens

one_tokens : (s : List ℕ) (t u : Tokens) → tokens s (Ok t) → tokens s (Ok u) → t ≡ u
one_tokens s t u a b = λ i. record { list = one_list s t.list u.list a.1 b.1 i; end = (a.2 ∙ sym b.2) i }

-- ---- whole texts

one_library : (s : List ℕ) (l m : Library) → IsText s l → IsText s m → l ≡ m
one_library s l m a b =
    one_tree libraries (one_spelling MOST_GROUPS) a.lexed.list l m a.spelt
    (subst (λ (t : Tokens). IsSpelt libraries t.list m) (one_tokens s b.lexed a.lexed b.tokens_are a.tokens_are) b.spelt)

pub one_program : (s : List ℕ) (p q : SourceTree) → IsProgram s p → IsProgram s q → p ≡ q
one_program s p q a b = a.is ∙ ap flat (one_library s a.library b.library a.text b.text) ∙ sym b.is

unread_text : (s : List ℕ) (l : Library) (r : Refusal) → IsText s l → IsUnread s r → ⊥
unread_text s l r a u = refused_not_read s r a.lexed.list u a.tokens_are.0 a.tokens_are.1

grammar_text : (s : List ℕ) (l : Library) (r : Refusal) → IsText s l → BreaksGrammar s r → ⊥
grammar_text s l r a g =
    refused_or_spelt libraries g.lexed.list g.lexed.end r l g.breaks
    (subst (λ (t : Tokens). IsSpelt libraries t.list l) (one_tokens s a.lexed g.lexed a.tokens_are g.tokens_are) a.spelt)

unread_program : (s : List ℕ) (p : SourceTree) (r : Refusal) → IsProgram s p → IsUnread s r → ⊥
unread_program s p r a u = unread_text s a.library r a.text u

grammar_program : (s : List ℕ) (p : SourceTree) (r : Refusal) → IsProgram s p → BreaksGrammar s r → ⊥
grammar_program s p r a g = grammar_text s a.library r a.text g

-- a text that breaks a rule B has no flat source
blocks_program : (s : List ℕ) (p : SourceTree) (r : Refusal) → IsProgram s p → BreaksBlocks s r → ⊥
blocks_program s p r a b =
    let named : refused (block_offences a.library) ≡ Some r = ap (λ (l : Library). refused (block_offences l)) (one_library s a.library b.library a.text b.text) ∙ b.blocks in
    let none : refused (block_offences a.library) ≡ None = ap refused a.unbroken in
    let both : None ≡ Some r = sym none ∙ named in
    cc

one_block_offence : (s : List ℕ) (r q : Refusal) → BreaksBlocks s r → BreaksBlocks s q → r ≡ q
one_block_offence s r q a b =
    same_Some r q (sym a.blocks ∙ ap (λ (l : Library). refused (block_offences l)) (one_library s a.library b.library a.text b.text) ∙ b.blocks)

unread_grammar : (s : List ℕ) (r q : Refusal) → IsUnread s r → BreaksGrammar s q → ⊥
unread_grammar s r q l g = refused_not_read s r g.lexed.list l g.tokens_are.0 g.tokens_are.1

one_named_offence : (s : List ℕ) (r q : Refusal) → BreaksNames s r → BreaksNames s q → r ≡ q
one_named_offence s r q a b =
    same_Some r q (sym a.names ∙ ap (λ (p : SourceTree). refused (offences p)) (one_program s a.tree b.tree a.program b.program) ∙ b.names)

names_unrefused : (s : List ℕ) (net : Network) (r : Refusal) → Resolves s net → BreaksNames s r → ⊥
names_unrefused s net r a b =
    let named : refused (offences a.tree) ≡ Some r = ap (λ (p : SourceTree). refused (offences p)) (one_program s a.tree b.tree a.program b.program) ∙ b.names in
    let none : refused (offences a.tree) ≡ None = ap refused a.stands.unbroken in
    let both : None ≡ Some r = sym none ∙ named in
    cc

pub stands_unrefused : (s : List ℕ) (net : Network) (r : Refusal) → Resolves s net → IsResolvedAs s (is_refused r) → ⊥
stands_unrefused s net r a (inl l) = unread_program s a.tree r a.program l
stands_unrefused s net r a (inr (inl g)) = grammar_program s a.tree r a.program g
stands_unrefused s net r a (inr (inr (inl b))) = blocks_program s a.tree r a.program b
stands_unrefused s net r a (inr (inr (inr n))) = names_unrefused s net r a n

pub one_source_refusal : (s : List ℕ) (r q : Refusal) → IsResolvedAs s (is_refused r) → IsResolvedAs s (is_refused q) → r ≡ q
one_source_refusal s r q (inl l) (inl m) = one_refusal s r q l m
one_source_refusal s r q (inl l) (inr (inl g)) = absurd (unread_grammar s r q l g)
one_source_refusal s r q (inl l) (inr (inr (inl b))) = absurd (unread_text s b.library r b.text l)
one_source_refusal s r q (inl l) (inr (inr (inr n))) = absurd (unread_program s n.tree r n.program l)
one_source_refusal s r q (inr (inl g)) (inl m) = absurd (unread_grammar s q r m g)
one_source_refusal s r q (inr (inl g)) (inr (inl h)) =
    one_grammar_refusal libraries g.lexed.list g.lexed.end r q g.breaks
    (subst (λ (t : Tokens). IsRefused libraries t.list t.end q) (one_tokens s h.lexed g.lexed h.tokens_are g.tokens_are) h.breaks)
one_source_refusal s r q (inr (inl g)) (inr (inr (inl b))) = absurd (grammar_text s b.library r b.text g)
one_source_refusal s r q (inr (inl g)) (inr (inr (inr n))) = absurd (grammar_program s n.tree r n.program g)
one_source_refusal s r q (inr (inr (inl b))) (inl m) = absurd (unread_text s b.library q b.text m)
one_source_refusal s r q (inr (inr (inl b))) (inr (inl g)) = absurd (grammar_text s b.library q b.text g)
one_source_refusal s r q (inr (inr (inl b))) (inr (inr (inl d))) = one_block_offence s r q b d
one_source_refusal s r q (inr (inr (inl b))) (inr (inr (inr n))) = absurd (blocks_program s n.tree r n.program b)
one_source_refusal s r q (inr (inr (inr n))) (inl m) = absurd (unread_program s n.tree q n.program m)
one_source_refusal s r q (inr (inr (inr n))) (inr (inl g)) = absurd (grammar_program s n.tree q n.program g)
one_source_refusal s r q (inr (inr (inr n))) (inr (inr (inl b))) = absurd (blocks_program s n.tree q n.program b)
one_source_refusal s r q (inr (inr (inr n))) (inr (inr (inr m))) = one_named_offence s r q n m

pub one_application : (s : List ℕ) (a b : Network) → Resolves s a → Resolves s b → a ≡ b
one_application s a b x y = x.stands.is ∙ ap network (one_program s x.tree y.tree x.program y.program) ∙ sym y.stands.is

pub one_resolution : (s : List ℕ) (r q : Reading) → IsResolvedAs s r → IsResolvedAs s q → r ≡ q
one_resolution s (stands_for a) (stands_for b) x y = ap stands_for (one_application s a b x y)
one_resolution s (stands_for a) (is_refused q) x y = absurd (stands_unrefused s a q x y)
one_resolution s (is_refused r) (stands_for b) x y = absurd (stands_unrefused s b r y x)
one_resolution s (is_refused r) (is_refused q) x y = ap is_refused (one_source_refusal s r q x y)
