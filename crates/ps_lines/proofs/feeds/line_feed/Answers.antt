use Rattle.std.proofs.Common.{arith}
use Rattle.ps_lines.proofs.Lanes.{none_before, feed_behind, none_among}
use Rattle.ps_lines.proofs.feeds.line_feed.Goals as goal

pub returns-then-n-lt-LANES-clause-found : goal.returns-then-n-lt-LANES-clause-found
returns-then-n-lt-LANES-clause-found c = (
  omega arith,
  feed_behind c.args.bytes.now c.lanes.from c.before_feed-n.result (omega arith) c.before_feed-n.ensures c.if-n-lt-LANES.true,
  none_before c.args.bytes.now c.lanes.from c.before_feed-n.result (omega arith) c.before_feed-n.ensures c.lanes.invariant.none,
)

pub lanes-preserved : goal.lanes-preserved
lanes-preserved c = record {
  within = omega arith;
  none = none_among c.args.bytes.now c.lanes.from c.before_feed-n.result (omega arith) c.before_feed-n.ensures c.if-n-lt-LANES.false c.lanes.invariant.none;
}
