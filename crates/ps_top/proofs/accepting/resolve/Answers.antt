use Rattle.std.proofs.Common.{◌∙◌, Err, ap, subst}
use Rattle.ps_base.specs.declared.failing.Fail.{Fail}
use Rattle.ps_accepted.specs.Answering.{IsResolved}
use Rattle.ps_accepted.specs.Source.{IsResolvedAs}
use Rattle.ps_top.specs.Asking.{worked}
use Rattle.ps_top.specs.Program.{leaves_text}
use Rattle.ps_top.proofs.Calling.{passes_read, passes_left, passes_both}
use Rattle.ps_top.proofs.Sourced.{refused_none, text_left}
use Rattle.ps_top.proofs.accepting.resolve.Goals as goal

pub returns-in-Ok-clause-finds : goal.returns-in-Ok-clause-finds
returns-in-Ok-clause-finds g c = record {
  passes = passes_both (passes_read (λ is. cc) c.in_ok-bytes.ensures.reads) (passes_left _ c.leave.ensures);
  gives = λ tells. let found = c.in_ok-bytes.ensures.bytes tells in (
    found.0,
    found.1,
    c.in-Ok.ensures.decides found.0 (c.as_slice.ensures ∙ found.2),
    text_left c.in_ok-bytes.bytes found.0 (g.C.Call.seen c.args.call.now) (g.C.Call.seen c.read_source.new.call) (g.C.Call.seen c.leave.new.self) found.2
        c.in_ok-bytes.ensures.reads.left (ap (λ s. worked s.left) c.leave.ensures),
  );
}

pub returns-in-Err-clause-none : goal.returns-in-Err-clause-none
returns-in-Err-clause-none g c =
    refused_none leaves_text IsResolvedAs c.args.name.now c.in_ok-bytes.bytes c.in-Err.why (passes_read (λ is. cc) c.in_ok-bytes.ensures.reads) c.in_ok-bytes.ensures.bytes
    (λ text refusal is why. (
      subst (λ (f : Fail). IsResolved text (Err f)) why (c.in-Err.ensures.decides text (c.as_slice.ensures ∙ is)),
      text_left c.in_ok-bytes.bytes text (g.C.Call.seen c.args.call.now) (g.C.Call.seen c.read_source.new.call) (g.C.Call.seen c.refuse_source.new.call) is
          c.in_ok-bytes.ensures.reads.left c.refuse_source.ensures.left,
    ))
    c.refuse_source.ensures.says c.refuse_source.ensures.refuses
