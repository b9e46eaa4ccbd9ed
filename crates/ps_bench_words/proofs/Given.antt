-- What was given to a command, as the getters of a parse say it.
use Rattle.std.proofs.Common.{◌≡◌, ◌∙◌, ℕ, List, Option}
use Rattle.std.specs.Prelude.{option_map, map}
use Rattle.std.specs.Borrow.{Bor}
use Rattle.clap.proofs.WalkLemmas.{first_value-rows, raw_values-rows}
use Rattle.clap.specs.Matches.{first_value, matched_of, raw_values}
use Rattle.clap.specs.Walk.{all_of, first_of, rows_of}
use Rattle.clap.specs.declared.parser.matches.Found.{Found}
use Rattle.ps_bench_words.specs.Seen.{seen}

-- the value that a getter gives
pub value_given : (f : Found) (id : List ℕ) (got : Option (Bor (List ℕ))) → option_map (λ s. s.now) got ≡ first_value f id →
    option_map (λ s. s.now) got ≡ first_of id (rows_of f)
value_given f id got is = is ∙ first_value-rows f id

-- the values that a getter gives
pub values_given : (f : Found) (id : List ℕ) (got : Option (Bor (List (Bor (List ℕ))))) →
    option_map (λ s. map (λ v. v.now) s.now) got ≡ option_map raw_values (matched_of f id) →
    option_map (λ s. seen s.now) got ≡ all_of id (rows_of f)
values_given f id got is = is ∙ raw_values-rows f id
