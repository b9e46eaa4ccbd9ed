use Rattle.std.proofs.Common.{◌≡◌, drop, fold}
use Rattle.clap.specs.Words.{app_of}
use Rattle.ps_words.specs.Parsing.{plcsafe}
use Rattle.ps_words.proofs.Adding.{with_next}
use Rattle.ps_words.proofs.parsing.program.Given as goal

-- the program with this subcommand and those after it
abbrev pub invariant-loop-form : goal.invariant-loop-form
invariant-loop-form l = fold with_next (app_of l.program) (drop l.form-index l.form-items) ≡ plcsafe
