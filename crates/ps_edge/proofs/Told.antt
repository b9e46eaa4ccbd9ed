-- What is told of a call.
use Rattle.std.proofs.Common.{◌≡◌, ℕ, ◌∙◌, Bool, false, List, [], ◌∷◌, Some, Result, Ok, Err, IfOk, ap, arith, length, map, min, refl, sym, subst, slice_get, slice_index_or, take}
use Rattle.std.proofs.lemmas.List.{take-map}
use Rattle.std.specs.Borrow.{Bor}
use Rattle.ps_findings.specs.Usage.{help_text, wrong_text}
use Rattle.ps_findings.specs.declared.usage.TheConstants.{HELP}
use Rattle.ps_base.specs.declared.failing.Refusal.{Refusal}
use Rattle.ps_message.specs.Ending.{usage_text}
use Rattle.ps_message.specs.Message.{Says}
use Rattle.ps_top.specs.declared.left.Left.{Left}
use Rattle.ps_edge.specs.Hearing.{IsFirst, ListenerSeen}
use Rattle.ps_edge.specs.Spoken.{most_of, named, spoken_of}
use Rattle.ps_edge.specs.Telling.{IsOfApp, IsOfAsking, IsOfNamed, IsOfOther, IsOfRefusal, IsOfSome, IsOfText, IsOfWords, asks_help, asks_version, source_of}
use Rattle.ps_edge.specs.declared.spoken.Spoken.{Spoken}
use Rattle.ps_edge.specs.declared.spoken.Spoken.TheVariants.{App, Cert, Faults, Trace}

-- the words of a call by their places, as far as there are any, are the first of them
firsts : (words : List (List ℕ)) →
    take (min (length words) 5) (slice_index_or words 0 [] ∷ slice_index_or words 1 [] ∷ slice_index_or words 2 [] ∷ slice_index_or words 3 [] ∷ slice_index_or words 4 [] ∷ []) ≡ take 5 words
firsts [] = refl
firsts (a ∷ []) = refl
firsts (a ∷ b ∷ []) = refl
firsts (a ∷ b ∷ c ∷ []) = refl
firsts (a ∷ b ∷ c ∷ d ∷ []) = refl
firsts (a ∷ b ∷ c ∷ d ∷ e ∷ words) =
    let five : min (length (a ∷ b ∷ c ∷ d ∷ e ∷ words)) 5 ≡ 5 = omega arith in
    ap (λ (n : ℕ). take n (a ∷ b ∷ c ∷ d ∷ e ∷ [])) five

-- the same of references to them
pub looked_at : (words : List (List ℕ)) (given : List (Bor (List ℕ))) (count : ℕ) → count ≡ min (length words) 5 →
    map (λ w. w.now) given ≡ slice_index_or words 0 [] ∷ slice_index_or words 1 [] ∷ slice_index_or words 2 [] ∷ slice_index_or words 3 [] ∷ slice_index_or words 4 [] ∷ [] →
    map (λ w. w.now) (take count given) ≡ take 5 words
looked_at words given count so_many are =
    sym (take-map (λ (w : Bor (List ℕ)). w.now) count given) ∙ (λ i. take (so_many i) (are i)) ∙ firsts words

-- words that ask neither for help nor for the version
pub of_words : (words : List (List ℕ)) (given : List (Bor (List ℕ))) (text wrong help : List ℕ) → asks_help (slice_get words 0) ≡ false →
    asks_version (slice_get words 0) ≡ false → map (λ w. w.now) given ≡ take 5 words → wrong ≡ wrong_text HELP.now (map (λ w. w.now) given) →
    help ≡ help_text HELP.now (slice_index_or (map (λ w. w.now) given) 0 []) → text ≡ usage_text wrong help → IsOfWords words text
of_words words given text wrong help no_help no_version are wrong_is help_is is =
    subst (λ (asks : Bool). IsOfAsking asks (asks_version (slice_get words 0)) words text) (sym no_help)
    (subst (λ (asks : Bool). IsOfAsking false asks words text) (sym no_version)
    (is ∙ (λ i. usage_text (wrong_is i) (help_is i))
    ∙ (λ i. usage_text (wrong_text HELP.now (are i)) (help_text HELP.now (slice_index_or (are i) 0 [])))))

module _ {E : Type 0} (who : ListenerSeen) (refusal : Refusal) where
  -- a message of what was read of a text
  pub of_other : (most limit : ℕ) (file name shown text given : List ℕ) (made : Result (List ℕ) E) → file ≡ name → shown ≡ text → most ≡ limit →
      IsFirst most (who.reads name) text → IfOk made (λ bytes. Says file shown refusal given bytes) → IfOk made (IsOfOther limit who name refusal)
  of_other most limit file name shown text given (Ok bytes) same is looked first says = (
    text,
    given,
    subst (λ (n : ℕ). IsFirst n (who.reads name) text) looked first,
    subst (λ (t : List ℕ). Says name t refusal given bytes) is (subst (λ (f : List ℕ). Says f shown refusal given bytes) same says),
  )
  of_other most limit file name shown text given (Err e) same is looked first says = tt

  module _ (words : List (List ℕ)) (left : Left) (file : List ℕ) (made : Result (List ℕ) E) where
    -- a message by the text that the rule is about is one of the refusal that is left
    pub of_refusal : (spoken : Spoken) → left.refusal ≡ Some refusal → spoken ≡ spoken_of refusal.rule → named words spoken ≡ Some file →
        IfOk made (IsOfText spoken who left file refusal) → IfOk made (IsOfRefusal words who left)
    of_refusal spoken is rule name told =
        subst (λ r. IfOk made (IsOfSome r words who left)) (sym is)
        (subst (λ n. IfOk made (IsOfNamed n who left refusal)) (sym (subst (λ (s : Spoken). named words s ≡ Some file) rule name))
        (subst (λ (s : Spoken). IfOk made (IsOfText s who left file refusal)) rule told))

    -- the application's is one by its text
    pub of_app : (source : List ℕ) → source ≡ source_of left.text → IfOk made (IsOfApp file source refusal) →
        IfOk made (IsOfText App who left file refusal)
    of_app source is told = subst (λ (s : List ℕ). IfOk made (IsOfApp file s refusal)) is told

    -- that of another text is one by what was read of it
    pub by_text : (spoken : Spoken) → ¬ (spoken ≡ App) → IfOk made (IsOfOther (most_of spoken) who file refusal) →
        IfOk made (IsOfText spoken who left file refusal)
    by_text App not told = absurd (not refl)
    by_text Cert not told = told
    by_text Faults not told = told
    by_text Trace not told = told
