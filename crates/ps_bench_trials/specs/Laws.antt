-- Laws of counts.
use Rattle.std.specs.Prelude.{◌≡◌, List, ◌++◌}
use Rattle.ps_bench_trials.specs.Adding.{added}
use Rattle.ps_bench_trials.specs.Plain.{ArePlain}
use Rattle.ps_bench_trials.specs.Tallies.{Result_of, all_counted, none_counted}
use Rattle.ps_bench_trials.specs.declared.line.Line.{Line}

-- what is counted of two lists of trials, one after the other, is what is counted of each, added
abbrev pub PartsAdd : Type 0
PartsAdd = (trials others : List Result_of) →
    all_counted none_counted (trials ++ others)
    ≡ added (all_counted none_counted trials) (all_counted none_counted others)

-- tallies are added in any order, two by two or one after another
abbrev pub IsOfAnyOrder : Type 0
IsOfAnyOrder =
    ((a b : List Line) → added a b ≡ added b a)
    × ((a b c : List Line) → added (added a b) c ≡ added a (added b c))

-- what is counted of trials is plain: a line of trips has latencies that some trips have
abbrev pub CountsArePlain : Type 0
CountsArePlain = (trials : List Result_of) → ArePlain (all_counted none_counted trials)
