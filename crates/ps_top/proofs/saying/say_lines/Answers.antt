use Rattle.std.proofs.Common.{◌≡◌, ◌+◌, ◌-◌, ◌++◌, ◌∙◌, ℕ, Bool, List, IsTrue, take, drop, refl, sym, ap, subst, inl, inr, arith}
use Rattle.std.proofs.lemmas.List.{take-take}
use Rattle.ps_outside.proofs.Pieces.{written_more}
use Rattle.ps_top.specs.Program.{answer}
use Rattle.ps_top.proofs.Calling.{writes_both, writes_failed}
use Rattle.ps_top.proofs.Meeting.{stopped_in}
use Rattle.ps_top.proofs.saying.say_lines.Goals as goal

pub lines-preserved : goal.lines-preserved
lines-preserved g c =
    let done = c.lines.done in
    let end = c.line_end-end.result in
    let text = c.args.text.now in
    let seen = g.C.Call.seen in
    let size : done + (end - done) ≡ end = let some = c.line_end-end.ensures.some in omega (arith, some) in
    record {
      within = c.line_end-end.ensures.within;
      begins = λ some less. c.line_end-end.ensures.ends less;
      written = λ tells.
          written_more (seen c.args.call.now).out.taken (seen c.lines.call).out.taken (seen c.write_line.new.call).out.taken text done (end - done)
          (c.lines.invariant.written tells) (c.in-Ok.ensures.whole (subst (λ (b : Bool). IsTrue b) (sym c.lines.invariant.writes.keeps.telling) tells))
          ∙ ap (λ (n : ℕ). (seen c.args.call.now).out.taken ++ take n text) size;
      writes = writes_both c.lines.invariant.writes (λ e. cc) c.in-Ok.ensures.writes;
      left = c.in-Ok.ensures.left ∙ c.lines.invariant.left;
    }

pub returns-in-Err-clause-says : goal.returns-in-Err-clause-says
returns-in-Err-clause-says g c =
    let done = c.lines.done in
    let text = c.args.text.now in
    let seen = g.C.Call.seen in
    let size = c.in-Err.field-0.taken in
    record {
      gives = stopped_in (answer text c.args.status) (seen c.args.call.now).out.tells (seen c.args.call.now).out.taken (seen c.write_line.new.call).out.taken (done + size)
          (λ tells.
          written_more (seen c.args.call.now).out.taken (seen c.lines.call).out.taken (seen c.write_line.new.call).out.taken text done size
          (c.lines.invariant.written tells)
          (c.in-Err.ensures.part (subst (λ (b : Bool). IsTrue b) (sym c.lines.invariant.writes.keeps.telling) tells)
          ∙ ap (λ (t : List ℕ). (seen c.lines.call).out.taken ++ t) (take-take size (c.line_end-end.result - done) (drop done text) c.in-Err.ensures.within)));
      ends = inr refl;
      writes = writes_failed c.lines.invariant.writes refl c.in-Err.ensures.writes;
    }
