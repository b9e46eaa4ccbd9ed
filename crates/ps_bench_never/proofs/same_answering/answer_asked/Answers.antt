use Rattle.ps_bench_never.proofs.same_answering.answer_asked.Goals as goal

pub compare-requires : goal.compare-requires
compare-requires g c = record {
  some = c.requires.some;
  says = c.requires.says;
  few = c.requires.few;
  many = c.requires.many;
  outputs = c.requires.outputs;
}

pub told-requires : goal.told-requires
told-requires g c = record {
  says = c.requires.says;
  few = c.requires.few;
  many = c.requires.many;
  outputs = c.requires.outputs;
  run = c.in_ok-found.ensures.run;
}

pub returns : goal.returns
returns g c = record {
  found = c.in_ok-found.found;
  path = c.in_ok-text.ensures.0;
  finds = c.in_ok-text.ensures.1;
  answers = c.in_ok-found.ensures.answers c.requires.shared c.in_ok-text.ensures.0 c.in_ok-text.ensures.1;
  counts = c.in_ok-found.ensures.counts;
  text = c.in_ok-text.ensures.2;
  same = c.do_all_hold.ensures;
}
