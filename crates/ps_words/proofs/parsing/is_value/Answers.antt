use Rattle.std.proofs.Common.{◌≡◌, ◌∙◌, ◌<◌, ◌≤◌, ℕ, List, Option, Some, None, sym, ap, refl, length, get_or}
use Rattle.std.specs.Prelude.{option_map, slice_get, IfSome, MatchOption}
use Rattle.std.specs.Borrow.{Bor}
use Rattle.std.proofs.lemmas.Option.{slice_get-map, slice_get_read, slice_get_past}
use Rattle.clap.proofs.WalkLemmas.{first_value-rows}
use Rattle.clap.specs.Words.{found_of}
use Rattle.ps_words.specs.Seen.{seen}
use Rattle.ps_words.proofs.parsing.is_value.Goals as goal

-- what `get` gives is the word at a place
got : (words : List (Bor (List ℕ))) (place : ℕ) (word : Option (Bor (Bor (List ℕ)))) → IfSome word (λ w. w.now ≡ get_or words place w.now) →
    MatchOption word (length words ≤ place) (λ w. place < length words) → option_map (λ w. w.now.now) word ≡ slice_get (seen words) place
got words place None item within = ap (option_map (λ w. w.now)) (sym (slice_get_past words place within)) ∙ sym (slice_get-map (λ w. w.now) words place)
got words place (Some w) item within =
    ap (option_map (λ w. w.now)) (sym (slice_get_read words (length words) place w.now refl within item)) ∙ sym (slice_get-map (λ w. w.now) words place)

-- the same, of what a call says
got_item : (words : List (Bor (List ℕ))) (place : ℕ) (word : Option (Bor (Bor (List ℕ)))) (P : Bor (Bor (List ℕ)) → Type 0) → IfSome word (λ w. w.now ≡ get_or words place w.now) →
    MatchOption word (length words ≤ place) (λ w. (place < length words) × P w) → option_map (λ w. w.now.now) word ≡ slice_get (seen words) place
got_item words place None P item within = got words place None item within
got_item words place (Some w) P item within = got words place (Some w) item within.0

pub returns-clause-same : goal.returns-clause-same
returns-clause-same c = λ e.
    let given = c.get_str.ensures ∙ first_value-rows (found_of c.args.values.now) c.args.id.now in
    let word = got_item c.args.words.now c.args.place c.get.result _ c.get.ensures.lookup.1 c.get.ensures.lookup.3 in
    c.is_same.ensures.same (given ∙ e ∙ sym word)

pub returns-clause-other : goal.returns-clause-other
returns-clause-other c = λ yes.
    let given = c.get_str.ensures ∙ first_value-rows (found_of c.args.values.now) c.args.id.now in
    let word = got_item c.args.words.now c.args.place c.get.result _ c.get.ensures.lookup.1 c.get.ensures.lookup.3 in
    sym given ∙ c.is_same.ensures.other yes ∙ word
