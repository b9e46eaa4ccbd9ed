use Rattle.std.proofs.Common.{◌≡◌, ℕ, List, Result, Ok, Err, Option, Some, IfOk, arith}
use Rattle.std.specs.Prelude.{slice_get}
use Rattle.std.proofs.lemmas.Grind.{common_steps}
use Rattle.ps_reach.specs.declared.asked.Asked.{Asked}
use Rattle.ps_search.specs.declared.answer.Found.{Found}
use Rattle.ps_search.specs.declared.answer.Path.{Path}
use Rattle.ps_reach.specs.Comparing.{Two, two_of}
use Rattle.ps_bench_never.specs.SameTelling.{IsSaid}
use Rattle.ps_bench_never.proofs.same_telling.told.Goals as goal

said_of : {E : Type 0} (t : Two) (q : Asked) (found : Found) (path : Path) (r : Result (List ℕ) E) → slice_get found.paths.items 0 ≡ Some (Some path) →
    IfOk r (λ text. (f : Found) → IsSaid t q f (Some path) text) →
    IfOk r (λ text. (x : Option Path) × (slice_get found.paths.items 0 ≡ Some x) × IsSaid t q found x text)
said_of t q found path (Ok text) at each = (Some path, at, each found)
said_of t q found path (Err e) at each = tt

pub met-requires-clause-numbers : goal.met-requires-clause-numbers
met-requires-clause-numbers c = c.requires.run.numbers (Some c.in-Some.path) (grind (arith, common_steps, c.requires.run.one, c.in-Some.is, c.index.ensures))

pub returns-in-Some : goal.returns-in-Some
returns-in-Some c =
    said_of (two_of c.args.compared.now) c.args.asked.now c.args.found.now c.in-Some.path c.met.result
    (grind (arith, common_steps, c.requires.run.one, c.in-Some.is, c.index.ensures)) c.met.ensures
