use Rattle.std.proofs.Common.{◌∙◌, Err, inl, subst}
use Rattle.ps_base.specs.declared.failing.Fail.{Fail}
use Rattle.ps_accepted.specs.Demanding.{IsDemandableAs, IsDemanding}
use Rattle.ps_top.specs.Asking.{worked}
use Rattle.ps_top.specs.Program.{LeavesAccepted}
use Rattle.ps_top.proofs.Calling.{passes_read}
use Rattle.ps_top.proofs.Demands.{lines_found, lines_none, none_left}
use Rattle.ps_top.proofs.Sourced.{refused_none, text_left}
use Rattle.ps_top.proofs.accepting.accept_demands.Goals as goal

pub returns-in-Ok-clause-finds : goal.returns-in-Ok-clause-finds
returns-in-Ok-clause-finds g c =
    lines_found c.args.name.now c.in-Ok.demanded c.in_ok-bytes.bytes (passes_read (λ is. cc) c.in_ok-bytes.ensures.reads) c.in_ok-bytes.ensures.reads.left c.in-Ok.ensures.checked
    (λ tells. let found = c.in_ok-bytes.ensures.bytes tells in (found.0, found.1, found.2, c.in-Ok.ensures.decides found.0 (c.as_slice.ensures ∙ found.2)))
    (g.C.Call.seen c.lines_of.new.call) c.lines_of.result c.lines_of.ensures.passes c.lines_of.ensures.lines c.lines_of.ensures.left

pub returns-in-Ok-clause-none : goal.returns-in-Ok-clause-none
returns-in-Ok-clause-none g c =
    lines_none c.args.name.now c.in-Ok.demanded c.in_ok-bytes.bytes (passes_read (λ is. cc) c.in_ok-bytes.ensures.reads) c.in_ok-bytes.ensures.reads.left c.in-Ok.ensures.checked
    (λ tells. let found = c.in_ok-bytes.ensures.bytes tells in (found.0, found.1, found.2, c.in-Ok.ensures.decides found.0 (c.as_slice.ensures ∙ found.2)))
    (g.C.Call.seen c.lines_of.new.call) c.lines_of.result c.lines_of.ensures.none c.lines_of.ensures.left

pub returns-in-Err-clause-none : goal.returns-in-Err-clause-none
returns-in-Err-clause-none g c =
    refused_none LeavesAccepted IsDemandableAs c.args.name.now c.in_ok-bytes.bytes c.in-Err.why (passes_read (λ is. cc) c.in_ok-bytes.ensures.reads) c.in_ok-bytes.ensures.bytes
    (λ text refusal is why.
    let refused = subst (λ (f : Fail). IsDemanding text (Err f)) why (c.in-Err.ensures.decides text (c.as_slice.ensures ∙ is)) in
    let old = g.C.Call.seen c.args.call.now in
    let new = g.C.Call.seen c.refuse_source.new.call in (
      inl refused,
      none_left text refusal (worked old.left) (worked new.left) refused
          (text_left c.in_ok-bytes.bytes text old (g.C.Call.seen c.read_source.new.call) new is c.in_ok-bytes.ensures.reads.left c.refuse_source.ensures.left),
    ))
    c.refuse_source.ensures.says c.refuse_source.ensures.refuses
