use Rattle.std.proofs.Common.{◌≡◌, refl, inl, inr}
use Rattle.ps_top.specs.Program.{answer}
use Rattle.ps_top.proofs.Meeting.{all_given, stopped_in}
use Rattle.ps_top.proofs.saying.say.Goals as goal

pub returns-in-Ok-clause-says : goal.returns-in-Ok-clause-says
returns-in-Ok-clause-says g c = record {
  gives = all_given (λ a. a ≡ answer c.args.line.now c.args.status) (answer c.args.line.now c.args.status) _ _ _ c.requires refl c.in-Ok.ensures.whole;
  ends = inl refl;
  writes = record {
    rose = λ is. absurd (c.requires (inr (inl is)));
    exact = λ not. c.in-Ok.ensures.writes.exact (λ e. cc);
    keeps = c.in-Ok.ensures.writes.keeps;
    files = c.in-Ok.ensures.writes.files;
    loans = c.in-Ok.ensures.writes.loans;
  };
}

pub returns-in-Err-clause-says : goal.returns-in-Err-clause-says
returns-in-Err-clause-says g c = record {
  gives = stopped_in (answer c.args.line.now c.args.status) _ _ _ c.in-Err.field-0.taken c.in-Err.ensures.part;
  ends = inr refl;
  writes = record {
    rose = λ is. c.in-Err.ensures.writes.rose refl;
    exact = λ not. absurd (not refl);
    keeps = c.in-Err.ensures.writes.keeps;
    files = c.in-Err.ensures.writes.files;
    loans = c.in-Err.ensures.writes.loans;
  };
}
