use Rattle.ps_bench_never.proofs.answering_any.answer_any.Goals as goal

pub answer_asked-requires : goal.answer_asked-requires
answer_asked-requires g c = record {
  some = c.requires.some;
  stands = c.requires.stands;
  pace = c.requires.pace;
  asks = c.in_ok-asked.ensures.asks;
  few = c.in_ok-asked.ensures.few;
}

pub returns-clause-tells : goal.returns-clause-tells
returns-clause-tells g c = c.in_ok-told.ensures
