use Rattle.std.proofs.Common.{◌∙◌, Err, inl, inr, refl, ap}
use Rattle.std.proofs.lemmas.Result.{IfErr-weaker}
use Rattle.ps_bench_frame.specs.declared.ending.Stop.TheVariants.{Unwritten}
use Rattle.ps_bench_campaign.proofs.Leaving.{input_unread_written, memory_read, memory_written, no_more, of_err}
use Rattle.ps_bench_campaign.proofs.Summed.{named, told}
use Rattle.ps_bench_campaign.proofs.summing.sum_named.Goals as goal

pub returns-in-Ok-text_of : goal.returns-in-Ok-text_of
returns-in-Ok-text_of g c = record {
  answers = told (named c.args.first.now c.args.others.now) (g.F.Files.tells c.args.files.now) (g.F.Files.held c.args.files.now) c.in-Ok.total
      c.as_slice.result.now (g.O.Sink.tells c.args.out.now) (g.O.Sink.taken c.args.out.now) (g.O.Sink.taken c.write_told.new.out)
      c.write_told.result c.in-Ok.ensures.sums (c.as_slice.ensures ∙ c.in-Ok-text_of.ensures) c.write_told.ensures.all c.write_told.ensures.some;
  unread = IfErr-weaker c.write_told.result _ _ (λ stop read is. absurd (read is)) c.write_told.ensures.leaves.read;
  unwritten = c.write_told.ensures.leaves.unwritten;
  writes = c.write_told.ensures.leaves.writes;
  telling = c.write_told.ensures.leaves.telling;
}

pub returns-in-Ok : goal.returns-in-Ok
returns-in-Ok g c = record {
  answers = inr (inr (inr refl, λ tells. refl));
  unread = λ is. memory_read is;
  unwritten = λ is. memory_written _ refl is;
  writes = no_more (g.O.Sink.faults c.args.out.now);
  telling = refl;
}

pub returns-in-Err-Refused : goal.returns-in-Err-Refused
returns-in-Err-Refused g c = record {
  answers = inl (
    c.in-Err-Refused.refusal,
    λ tells. c.sum_files.ensures.refused c.in-Err-Refused.refusal (c.in-Err-Refused.is ∙ ap Err c.in-Err-Refused.field-0-is) tells,
    c.refuse_sum.ensures.refuses,
  );
  unread = λ is. absurd (c.refuse_sum.ensures.read is);
  unwritten = λ is. c.refuse_sum.ensures.unwritten (of_err _ c.refuse_sum.result Unwritten refl is);
  writes = c.refuse_sum.ensures.writes;
  telling = c.refuse_sum.ensures.telling;
}

pub returns-in-Err-Unread : goal.returns-in-Err-Unread
returns-in-Err-Unread g c = record {
  answers = inr (inr (inl refl, λ tells. refl));
  unread = λ is.
      c.sum_files.ensures.unread c.in-Err-Unread.place (c.in-Err-Unread.is ∙ ap Err c.in-Err-Unread.field-0-is);
  unwritten = λ is. input_unread_written _ _ refl is;
  writes = no_more (g.O.Sink.faults c.args.out.now);
  telling = refl;
}

pub returns : goal.returns
returns g c = record {
  answers = inr (inr (inr refl, λ tells. refl));
  unread = λ is. memory_read is;
  unwritten = λ is. memory_written _ refl is;
  writes = no_more (g.O.Sink.faults c.args.out.now);
  telling = refl;
}
