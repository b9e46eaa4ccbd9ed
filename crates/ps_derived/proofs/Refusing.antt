-- What is refused after function blocks is refused of the whole text.
use Rattle.std.proofs.Common.{◌≡◌, ◌≢◌, ℕ, suc, List, [], ◌∷◌, ◌++◌, Some, length, take, drop, refl, sym, ap, ◌∙◌, subst, ⊎_elim, append_assoc, arith}
use Rattle.std.proofs.lemmas.Bool.{cases_lt}
use Rattle.std.proofs.lemmas.List.{append-nil, take-append-drop, take-map, map-append}
use Rattle.std.proofs.Math.Seq.{take-append_seam}
use Rattle.std.specs.List.{AllByRecursion}
use Rattle.ps_base.specs.declared.failing.Place.{Place}
use Rattle.ps_base.specs.declared.failing.Refusal.{Refusal}
use Rattle.ps_base.specs.declared.failing.Rule.{Rule}
use Rattle.ps_base.specs.declared.failing.Rule.TheVariants.{P1, P2}
use Rattle.ps_base.specs.declared.limits.TheConstants.{MOST_GROUPS}
use Rattle.ps_lexer.specs.declared.token.Token.{Token}
use Rattle.ps_parser.specs.declared.heads.Heads.{Heads}
use Rattle.ps_parser.specs.declared.heads.Heads.TheVariants.{Program, Block}
use Rattle.ps_parser.specs.declared.sign.Sign.TheVariants as sign
use Rattle.ps_parser.specs.Symbol.{Symbol, Mark, symbol, symbols}
use Rattle.ps_parser.specs.Tree.{SourceTree}
use Rattle.ps_parser.specs.Spelt.{spelt}
use Rattle.ps_parser.specs.Phrase.{next}
use Rattle.ps_parser.specs.Language.{BeginsTree, Breaks, IsRefused}
use Rattle.ps_parser.specs.Parsing.{IsSourceWithin, sources, IsRefusedFrom}
use Rattle.ps_parser.proofs.OneAnswer.{earlier_cut}
use Rattle.ps_parser.proofs.Uniqueness.{one_source_at_front, some_source, some_source_within}
use Rattle.ps_derived.specs.Texts.{library_spelt, libraries}
use Rattle.ps_derived.proofs.Fronts.{blocks_spelt, blocks_spelt_push, all_within_deeper, all_within_push, front_of_longer, behind_blocks}

-- the front of a source is that of a text, after any blocks
begins_behind : (h : Heads) (depth : ℕ) (bs : List SourceTree) (front : List Symbol) → AllByRecursion (IsSourceWithin depth) bs → BeginsTree (sources h) depth front → BeginsTree libraries depth (blocks_spelt bs ++ front)
begins_behind Program depth bs front w b = record {
  tree = record { blocks = bs; program = b.tree };
  more = b.more;
  within = record { blocks = w; program = b.within };
  spelling = ap (λ l. blocks_spelt bs ++ l) b.spelling ∙ sym (append_assoc (blocks_spelt bs) front b.more);
}
begins_behind Block depth bs front w b =
    let last = spelt Program some_source in
    record {
      tree = record { blocks = bs ++ b.tree ∷ []; program = some_source };
      more = b.more ++ last;
      within = record { blocks = all_within_push depth bs b.tree w b.within; program = some_source_within depth };
      spelling = ap (λ l. l ++ last) (blocks_spelt_push bs b.tree ∙ ap (λ l. blocks_spelt bs ++ l) b.spelling ∙ sym (append_assoc (blocks_spelt bs) front b.more)) ∙ append_assoc (blocks_spelt bs ++ front) b.more last;
    }

-- the head is the one that stands next: a function block's where its word does, and else a program's
abbrev pub IsHeadOf : Heads → List Symbol → Type 0
IsHeadOf Block ts = next ts ≡ Some (Mark sign.FunctionBlock)
IsHeadOf Program ts = next ts ≢ Some (Mark sign.FunctionBlock)

same_head : (h : Heads) (ts us : List Symbol) → next ts ≡ next us → IsHeadOf h ts → IsHeadOf h us
same_head Block ts us e head = sym e ∙ head
same_head Program ts us e head = λ is. head (e ∙ is)

next_front : (front : List Symbol) (t : Symbol) (rest : List Symbol) → next ((front ++ t ∷ []) ++ rest) ≡ next (front ++ t ∷ [])
next_front [] t rest = refl
next_front (f ∷ front) t rest = refl

head_here : (h : Heads) (front : List Symbol) (t : Symbol) (rest : List Symbol) → IsHeadOf h (front ++ t ∷ rest) → IsHeadOf h (front ++ t ∷ [])
head_here h [] t rest head = same_head h (t ∷ rest) (t ∷ []) refl head
head_here h (f ∷ front) t rest head = same_head h ((f ∷ front) ++ t ∷ rest) ((f ∷ front) ++ t ∷ []) refl head

-- no source is spelt at the front of these symbols
abbrev pub NoneAtFront : Heads → List Symbol → Type 0
NoneAtFront h front = (s : SourceTree) (more : List Symbol) → IsSourceWithin MOST_GROUPS s → front ≡ spelt h s ++ more → ⊥

-- a source that ends within the front of another is that other
none_within : (depth : ℕ) (c : SourceTree) (front more : List Symbol) → IsSourceWithin depth c → BeginsTree (sources Block) MOST_GROUPS front → NoneAtFront Block front → front ≡ spelt Block c ++ more → ⊥
none_within depth c front more w b none e =
    let longer : spelt Block b.tree ++ [] ≡ spelt Block c ++ (more ++ b.more) = append-nil (spelt Block b.tree) ∙ b.spelling ∙ ap (λ l. l ++ b.more) e ∙ append_assoc (spelt Block c) more b.more in
    let same = one_source_at_front Block MOST_GROUPS depth b.tree c [] (more ++ b.more) b.within w longer in
    none b.tree more b.within (e ∙ ap (λ s. spelt Block s ++ more) (sym same.0))

-- a text that goes on with a symbol goes on with it in the source that stands next
begins_here : (h : Heads) (depth : ℕ) (cs : List SourceTree) (p : SourceTree) (front : List Symbol) (t : Symbol) (more : List Symbol)
    → IsHeadOf h (front ++ t ∷ []) → BeginsTree (sources h) MOST_GROUPS front → NoneAtFront h front → AllByRecursion (IsSourceWithin depth) cs → IsSourceWithin depth p
    → blocks_spelt cs ++ spelt Program p ≡ (front ++ t ∷ []) ++ more → BeginsTree (sources h) depth (front ++ t ∷ [])
begins_here Program depth [] p front t more head b none wc wp e = record { tree = p; more = more; within = wp; spelling = e }
begins_here Program depth (c ∷ cs) p front t more head b none wc wp e =
    let first : Some (Mark sign.FunctionBlock) ≡ next ((front ++ t ∷ []) ++ more) = ap next e in
    absurd (head (sym (next_front front t more) ∙ sym first))
begins_here Block depth [] p front t more head b none wc wp e =
    let first : Some (Mark sign.Program) ≡ next ((front ++ t ∷ []) ++ more) = ap next e in
    let wrong : Some (Mark sign.Program) ≡ Some (Mark sign.FunctionBlock) = first ∙ next_front front t more ∙ head in
    cc
begins_here Block depth (c ∷ cs) p front t more head b none wc wp e =
    let others = blocks_spelt cs ++ spelt Program p in
    let split : spelt Block c ++ others ≡ front ++ t ∷ more = sym (append_assoc (spelt Block c) (blocks_spelt cs) (spelt Program p)) ∙ e ∙ append_assoc front (t ∷ []) more in
    ⊎_elim
    (λ lt. longer (earlier_cut front (t ∷ more) (spelt Block c) others (sym split) lt))
    (λ le. let cut = front_of_longer (spelt Block c) others front (t ∷ more) split le in absurd (none_within depth c front cut.0 wc.0 b none cut.1))
    (cases_lt (length front) (length (spelt Block c)))
  where
    longer : (u : Symbol) × (rest : List Symbol) × (spelt Block c ≡ front ++ u ∷ rest) × (t ∷ more ≡ u ∷ rest ++ (blocks_spelt cs ++ spelt Program p)) → BeginsTree (sources Block) depth (front ++ t ∷ [])
    longer cut =
        let same : cut.0 ≡ t = cc in
        record { tree = c; more = cut.1; within = wc.0; spelling = cut.2 ∙ ap (λ u. front ++ u ∷ cut.1) same ∙ sym (append_assoc front (t ∷ []) cut.1) }

-- a text that ends with the front ends in the program that stands next
ends_here : (h : Heads) (depth : ℕ) (cs : List SourceTree) (p : SourceTree) (front : List Symbol)
    → IsHeadOf h front → BeginsTree (sources h) MOST_GROUPS front → NoneAtFront h front → AllByRecursion (IsSourceWithin depth) cs
    → blocks_spelt cs ++ spelt Program p ≡ front → spelt h p ≡ front
ends_here Program depth [] p front head b none wc e = e
ends_here Program depth (c ∷ cs) p front head b none wc e = let first : Some (Mark sign.FunctionBlock) ≡ next front = ap next e in absurd (head (sym first))
ends_here Block depth [] p front head b none wc e =
    let wrong : Some (Mark sign.Program) ≡ Some (Mark sign.FunctionBlock) = ap next e ∙ head in
    cc
ends_here Block depth (c ∷ cs) p front head b none wc e =
    absurd (none_within depth c front (blocks_spelt cs ++ spelt Program p) wc.0 b none (sym e ∙ append_assoc (spelt Block c) (blocks_spelt cs) (spelt Program p)))

-- what breaks a rule of sources after these blocks breaks it of whole texts
module _ (h : Heads) (bs : List SourceTree) (front : List Symbol) (w : AllByRecursion (IsSourceWithin MOST_GROUPS) bs) (b : BeginsTree (sources h) MOST_GROUPS front) (none : NoneAtFront h front) where
  only_here : (depth : ℕ) (t : Symbol) → IsHeadOf h (front ++ t ∷ []) → BeginsTree libraries depth ((blocks_spelt bs ++ front) ++ t ∷ []) → BeginsTree (sources h) depth (front ++ t ∷ [])
  only_here depth t head text =
      let spelling : library_spelt text.tree ≡ blocks_spelt bs ++ ((front ++ t ∷ []) ++ text.more) =
      text.spelling ∙ ap (λ l. l ++ text.more) (append_assoc (blocks_spelt bs) front (t ∷ [])) ∙ append_assoc (blocks_spelt bs) (front ++ t ∷ []) text.more in
      let behind = behind_blocks MOST_GROUPS depth bs text.tree.blocks text.tree.program ((front ++ t ∷ []) ++ text.more) w text.within.blocks spelling in
      begins_here h depth behind.later text.tree.program front t text.more head b none behind.within text.within.program behind.spelling

  breaks_behind : (rule : Rule) (rest : List Symbol) → IsHeadOf h (front ++ rest) → Breaks rule (sources h) front rest → Breaks rule libraries (blocks_spelt bs ++ front) rest
  breaks_behind P1 [] head breaks = λ depth l within e.
      let behind = behind_blocks MOST_GROUPS depth bs l.blocks l.program front w within.blocks e in
      breaks depth l.program within.program (ends_here h depth behind.later l.program front (subst (IsHeadOf h) (append-nil front) head) b none behind.within behind.spelling)
  breaks_behind P1 (t ∷ rest) head breaks = λ depth text. breaks depth (only_here depth t (head_here h front t rest head) text)
  breaks_behind P2 [] head breaks = breaks
  breaks_behind P2 (t ∷ rest) head breaks = (
    breaks.0,
    subst (BeginsTree libraries (suc MOST_GROUPS)) (sym (append_assoc (blocks_spelt bs) front (t ∷ []))) (begins_behind h (suc MOST_GROUPS) bs (front ++ t ∷ []) (all_within_deeper MOST_GROUPS (suc MOST_GROUPS) bs (omega arith) w) breaks.1),
    λ text. breaks.2 (only_here MOST_GROUPS t (head_here h front t rest head) text),
  )
  breaks_behind _ rest head breaks = breaks

-- what is refused from a number on, after whole blocks, is refused of all tokens
module _ (list : List Token) (at : ℕ) (bs : List SourceTree) (w : AllByRecursion (IsSourceWithin MOST_GROUPS) bs) (spelling : symbols (take at list) ≡ blocks_spelt bs) where
  none_at_front : (h : Heads) (end : Place) (refusal : Refusal) (r : IsRefusedFrom h (drop at list) end refusal) → NoneAtFront h (symbols r.refused.front)
  none_at_front h end refusal r s more within e =
      let ts = drop at list in
      let n = length (spelt h s) in
      let whole : symbols ts ≡ spelt h s ++ (more ++ symbols r.refused.rest) =
      ap symbols r.refused.split ∙ map-append symbol r.refused.front r.refused.rest ∙ ap (λ l. l ++ symbols r.refused.rest) e ∙ append_assoc (spelt h s) more (symbols r.refused.rest) in
      r.none (take n ts) (drop n ts) s (sym (take-append-drop n ts)) (record {
        within = within;
        spelling = sym (take-map symbol n ts) ∙ ap (take n) whole ∙ take-append_seam (spelt h s) (more ++ symbols r.refused.rest);
      })

  pub refused_behind : (h : Heads) (end : Place) (refusal : Refusal) → IsHeadOf h (symbols (drop at list)) → IsRefusedFrom h (drop at list) end refusal → IsRefused libraries list end refusal
  refused_behind h end refusal head r =
      let here = r.refused in
      let front = symbols here.front in
      let front_is : symbols (take at list ++ here.front) ≡ blocks_spelt bs ++ front = map-append symbol (take at list) here.front ∙ ap (λ l. l ++ front) spelling in
      let whole : symbols (drop at list) ≡ front ++ symbols here.rest = ap symbols here.split ∙ map-append symbol here.front here.rest in
      record {
        front = take at list ++ here.front;
        rest = here.rest;
        split = sym (take-append-drop at list) ∙ ap (λ l. take at list ++ l) here.split ∙ sym (append_assoc (take at list) here.front here.rest);
        begins = subst (BeginsTree libraries MOST_GROUPS) (sym front_is) (begins_behind h MOST_GROUPS bs front w here.begins);
        breaks = subst (λ l. Breaks refusal.rule libraries l (symbols here.rest)) (sym front_is)
            (breaks_behind h bs front w here.begins (none_at_front h end refusal r) refusal.rule (symbols here.rest) (subst (IsHeadOf h) whole head) here.breaks);
        place = here.place;
      }
