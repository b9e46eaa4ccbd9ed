use Rattle.std.proofs.Common.{subst}
use Rattle.clap.specs.Words.{found_of, rows_of}
use Rattle.clap.specs.declared.parser.matches.ArgMatches.TheViews.{out-ArgMatches}
use Rattle.ps_bench_words.specs.Asking.{matched_asks}
use Rattle.ps_bench_words.specs.Seen.{IsAsked}
use Rattle.ps_bench_words.proofs.Named.{met_is}
use Rattle.ps_bench_words.proofs.asking.matched.Goals as goal

pub returns-in-Some : goal.returns-in-Some
returns-in-Some c =
    let is = met_is (out-ArgMatches c.args.matches.now).subcommand c.in-Some.name.now (rows_of (found_of c.in-Some.values.now))
    c.in-Some.ensures.name c.in-Some.ensures.rows in
    c.told.ensures _ (subst (λ m. IsAsked c.command_in.result (matched_asks m)) is c.command_in.ensures)
