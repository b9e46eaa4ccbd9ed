use Rattle.std.proofs.Common.{subst, sym}
use Rattle.ps_accepted.specs.Answering.{source_of}
use Rattle.ps_accepted.specs.Source.{IsAcceptedAs, IsProgram}
use Rattle.ps_accepted.specs.Source.Reading.{stands_for}
use Rattle.ps_names.specs.Stands.{Stands}
use Rattle.ps_bench_frame.proofs.Giving.{accepted_none, both_given, front_all}
use Rattle.ps_bench_frame.proofs.program.sourced_text.Goals as goal

pub returns : goal.returns
returns c =
    let front = c.args.text.now in
    let given = c.in_ok-accepted.ensures in
    let parts = c.into_sourced-source.ensures in
    let tree = c.into_sourced-source.result.0 in
    let net = c.into_sourced-source.result.1 in
    let program = subst (λ t. IsProgram front t) (sym parts.source) given.sourced.0 in
    let accepted = subst (λ n. IsAcceptedAs front (stands_for n)) (sym parts.app) (given.decides front (front_all front tree program)).0 in
    record {
      decides = λ whole is. both_given front whole tree net program is accepted;
      program = program;
      stands = subst (λ t. Stands t net) (sym parts.source)
          (subst (λ n. Stands (source_of c.in_ok-accepted.accepted) n) (sym parts.app) given.sourced.1);
      accepted = accepted.1;
    }

pub returns-in_err-accepted-clause-decides : goal.returns-in_err-accepted-clause-decides
returns-in_err-accepted-clause-decides c = λ whole is.
    accepted_none whole _ c.from_residual.result c.from_residual.ensures.1 (c.in_err-accepted.ensures.decides whole is)
