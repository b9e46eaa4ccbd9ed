use Rattle.std.proofs.Common.{◌≡◌, ◌<◌, ◌+◌, ◌-◌, ◌==◌, ◌∷◌, ◌∙◌, ℕ, Bool, List, length, take, drop, sym, ap, arith}
use Rattle.std.specs.List.{position_or_len, slice_split}
use Rattle.std.proofs.lemmas.Grind.{common_steps}
use Rattle.std.proofs.lemmas.List.{take_all, length-drop}
use Rattle.std.proofs.lemmas.List.Splits.{slice_split_first}
use Rattle.ps_bench_names.proofs.Cutting.{any_found, none_found, one_piece}
use Rattle.ps_bench_names.proofs.words.cut.Goals as goal

pub returns-then-at-word-clause-none : goal.returns-then-at-word-clause-none
returns-then-at-word-clause-none c = none_found (λ b. b == c.args.byte) c.args.word.now (sym c.place_of-at.ensures.place ∙ c.if-at-word.true)

pub returns-then-at-word-clause-split : goal.returns-then-at-word-clause-split
returns-then-at-word-clause-split c =
    one_piece (λ b. b == c.args.byte) c.args.word.now (none_found (λ b. b == c.args.byte) c.args.word.now (sym c.place_of-at.ensures.place ∙ c.if-at-word.true))

pub returns-clause-found : goal.returns-clause-found
returns-clause-found c =
    let less : c.place_of-at.result < length c.args.word.now = grind (arith, common_steps) in
    any_found (λ b. b == c.args.byte) c.args.word.now (omega (arith, less, c.place_of-at.ensures.place))

pub returns-clause-split : goal.returns-clause-split
returns-clause-split c =
    let p : ℕ → Bool = λ b. b == c.args.byte in
    let word = c.args.word.now in
    let at = c.place_of-at.result in
    let less : at < length word = grind (arith, common_steps) in
    let place : position_or_len p word ≡ at = sym c.place_of-at.ensures.place in
    let rest : take (length word - (at + 1)) (drop (at + 1) word) ≡ drop (at + 1) word = take_all (length word - (at + 1)) (drop (at + 1) word) (omega (arith, length-drop (at + 1) word)) in
    slice_split_first p word 0 (omega (arith, less, place))
    ∙ ap (λ (n : ℕ). take n word ∷ slice_split p (drop (n + 1) word)) place
    ∙ ap (λ (bytes : List ℕ). take at word ∷ slice_split p bytes) (sym rest)
