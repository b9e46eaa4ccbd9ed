-- Something is said of each input in each attempt.
use Rattle.std.proofs.Common.{◌<◌, ℕ, zero, suc, List, [], ◌∷◌, length, arith}
use Rattle.std.specs.List.{All}
use Rattle.ps_model.specs.Network.{Network}
use Rattle.ps_bench_rules.specs.declared.rules.RulesFile.{RulesFile}
use Rattle.ps_bench_never.specs.Asked.{AreAlike}
use Rattle.ps_bench_never.proofs.Alike.{says_of_each}
use Rattle.ps_bench_never.specs.AnsweringAny.{IsAttempt, SaysIn}
use Rattle.ps_bench_never.specs.declared.searching.Attempt.{Attempt}

pub says_in : (net : Network) (file : RulesFile) (most : ℕ) (paces : List ℕ) (attempts : List Attempt) → AreAlike (IsAttempt net file most) paces attempts → All (SaysIn net) attempts
says_in net file most [] [] are k d inside = let no : ⊥ = omega (arith, inside) in absurd no
says_in net file most [] (t ∷ ts) are k d inside = absurd are
says_in net file most (p ∷ ps) [] are k d inside = absurd are
says_in net file most (p ∷ ps) (t ∷ ts) are zero d inside = says_of_each net file p t.asked are.0.asks
says_in net file most (p ∷ ps) (t ∷ ts) are (suc k) d inside = let less : k < length ts = omega (arith, inside) in says_in net file most ps ts are.1 k d less
