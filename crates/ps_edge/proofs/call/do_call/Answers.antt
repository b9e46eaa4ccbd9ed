use Rattle.ps_top.specs.Calls.{files_seen, output_seen}
use Rattle.ps_edge.proofs.Ending.{Called, HandsOn, in_all, handed}
use Rattle.ps_edge.proofs.call.do_call.Goals as goal

pub returns-clause-does : goal.returns-clause-does
returns-clause-does g c =
    in_all _ _ _ _ _ _ _ c.finish.result c.top-status.result c.ended.result
    (record {
      status = c.top-status.ensures.status;
      whole = c.top-status.ensures.whole;
      quiet = c.top-status.ensures.quiet;
      untripped = c.top-status.ensures.untripped;
      stopped = c.top-status.ensures.stopped;
      unread = c.top-status.ensures.unread;
      memory = c.top-status.ensures.memory;
      leaves = c.top-status.ensures.leaves;
      refuses = c.top-status.ensures.refuses;
      not_held = c.top-status.ensures.not_held;
      nothing_written = c.top-status.ensures.nothing_written;
      asked_fault = c.top-status.ensures.asked_fault;
      read_fault = c.top-status.ensures.read_fault;
      write_fault = c.top-status.ensures.write_fault;
      no_read_failed = c.top-status.ensures.no_read_failed;
      no_write_failed = c.top-status.ensures.no_write_failed;
      usage = c.top-status.ensures.usage;
      not_taken = c.top-status.ensures.not_taken;
      completes = c.top-status.ensures.completes;
      kept = c.top-status.ensures.kept;
      files_telling = c.top-status.ensures.files_telling;
      counts = c.top-status.ensures.counts;
      output_telling = c.top-status.ensures.output_telling;
      output_count = c.top-status.ensures.output_count;
    })
    (record {
      failed = c.finish.ensures.failed;
      exact = c.finish.ensures.exact;
      counts = c.finish.ensures.counts;
      kept = c.finish.ensures.kept;
      telling = c.finish.ensures.telling;
    })
    c.ended.ensures.same c.ended.ensures.write_fault

pub returns-clause-handed_on : goal.returns-clause-handed_on
returns-clause-handed_on g c = λ not. handed c.finish.result c.ended.result c.finish.ensures.handed_on c.ended.ensures.write_fault not
