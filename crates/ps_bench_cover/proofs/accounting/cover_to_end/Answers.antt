use Rattle.std.proofs.Common.{ap, subst}
use Rattle.ps_bench_frame.proofs.Leaving.{finished}
use Rattle.ps_bench_frame.specs.Answering.{Ends}
use Rattle.ps_bench_frame.specs.Seen.{Loans, OutputSeen}
use Rattle.ps_bench_cover.proofs.accounting.cover_to_end.Goals as goal

pub returns : goal.returns
returns g c =
    let first = g.C.Call.seen c.args.call.now in
    let last = g.C.Call.seen c.finish.new.call in
    let quiet = c.cover_in-came.ensures.reads.quiet in
    let leaves = finished _ first _ last c.cover_in-came.result _ _ _ c.finish.result c.cover_in-came.ensures.reads c.finish.ensures.ends c.finish.ensures.leaves in
    record {
      ends = (
        c.cover_in-came.result,
        c.cover_in-came.ensures.comes,
        subst (λ (out : OutputSeen). Ends c.cover_in-came.result out.tells out.taken last.out.taken c.finish.result) quiet.out c.finish.ensures.ends,
      );
      leaves = leaves;
      files = ap (λ (l : Loans). l.files) leaves.keeps.loans;
      out = ap (λ (l : Loans). l.out) leaves.keeps.loans;
    }
