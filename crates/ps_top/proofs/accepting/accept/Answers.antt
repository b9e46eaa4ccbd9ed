use Rattle.std.proofs.Common.{◌∙◌, ℕ, List, Err, sym, ap, subst}
use Rattle.std.proofs.lemmas.Option.{same_Some}
use Rattle.ps_base.specs.declared.failing.Fail.{Fail}
use Rattle.ps_accepted.specs.Answering.{IsAcceptance, source_of}
use Rattle.ps_accepted.specs.Source.{IsAcceptedAs, IsProgram}
use Rattle.ps_top.specs.Asking.{worked}
use Rattle.ps_top.specs.Program.{leaves_text}
use Rattle.ps_top.proofs.Calling.{passes_read, passes_left, passes_both}
use Rattle.ps_top.proofs.Sourced.{program_of_front, refused_none, text_left}
use Rattle.ps_top.proofs.accepting.accept.Goals as goal

pub returns-in-Ok-clause-finds : goal.returns-in-Ok-clause-finds
returns-in-Ok-clause-finds g c = record {
  passes = passes_both (passes_read (λ is. cc) c.in_ok-bytes.ensures.reads) (passes_left _ c.leave.ensures);
  gives = λ tells. let found = c.in_ok-bytes.ensures.bytes tells in (
    found.0,
    found.1,
    (c.in-Ok.ensures.decides found.0 (c.as_slice.ensures ∙ found.2)).0,
    text_left c.in_ok-bytes.bytes found.0 (g.C.Call.seen c.args.call.now) (g.C.Call.seen c.read_source.new.call) (g.C.Call.seen c.leave.new.self) found.2
        c.in_ok-bytes.ensures.reads.left (ap (λ s. worked s.left) c.leave.ensures),
  );
}

pub returns-in-Ok-clause-sourced : goal.returns-in-Ok-clause-sourced
returns-in-Ok-clause-sourced g c = λ tells text held.
    let found = c.in_ok-bytes.ensures.bytes tells in
    let flat = source_of c.in-Ok.accepted in
    subst (λ (t : List ℕ). IsProgram t flat) (same_Some found.0 text (sym found.1 ∙ held))
    (program_of_front c.in_ok-bytes.bytes found.0 flat (subst (λ (t : List ℕ). IsProgram t flat) c.as_slice.ensures c.in-Ok.ensures.sourced.0) found.2)

pub returns-in-Err-clause-none : goal.returns-in-Err-clause-none
returns-in-Err-clause-none g c =
    refused_none leaves_text IsAcceptedAs c.args.name.now c.in_ok-bytes.bytes c.in-Err.why (passes_read (λ is. cc) c.in_ok-bytes.ensures.reads) c.in_ok-bytes.ensures.bytes
    (λ text refusal is why. (
      subst (λ (f : Fail). IsAcceptance text (Err f)) why (c.in-Err.ensures.decides text (c.as_slice.ensures ∙ is)),
      text_left c.in_ok-bytes.bytes text (g.C.Call.seen c.args.call.now) (g.C.Call.seen c.read_source.new.call) (g.C.Call.seen c.refuse_source.new.call) is
          c.in_ok-bytes.ensures.reads.left c.refuse_source.ensures.left,
    ))
    c.refuse_source.ensures.says c.refuse_source.ensures.refuses
