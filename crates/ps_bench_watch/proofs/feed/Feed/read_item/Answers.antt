use Rattle.std.proofs.Common.{◌≡◌, ◌∙◌, ℕ, List, length, refl, sym, ap, arith}
use Rattle.std.proofs.lemmas.List.{length-map}
use Rattle.ps_base.specs.declared.failing.Rule.{Rule}
use Rattle.ps_bench_watch.specs.Reading.{line_of}
use Rattle.ps_model.specs.declared.report.Scan.{Scan}
use Rattle.ps_trace.specs.Scans.{inputs_of}
use Rattle.ps_trace.specs.Trace.Said.{skips, restarts, scans, breaks}
use Rattle.ps_bench_watch.proofs.WatchSaying.{said_line, written}
use Rattle.ps_bench_watch.proofs.feed.Feed.read_item.Goals as goal

pub fill-requires : goal.fill-requires
fill-requires c = omega (arith, c.requires.sizes, c.deref.ensures.len)

pub invariant_of-self : goal.invariant_of-self
invariant_of-self c = record { one_each = c.args.self.now.one_each }

pub invariant_of-self-in-Restart : goal.invariant_of-self-in-Restart
invariant_of-self-in-Restart c = record { one_each = c.args.self.now.one_each }

pub invariant_of-self-in-Scan : goal.invariant_of-self-in-Scan
invariant_of-self-in-Scan c = record { one_each = c.args.self.now.one_each }

pub invariant_of-self-in-Scan-2 : goal.invariant_of-self-in-Scan-2
invariant_of-self-in-Scan-2 c = record { one_each = c.args.self.now.one_each }

pub returns-in-Nothing : goal.returns-in-Nothing
returns-in-Nothing c =
    let feed = c.args.self.now in
    let size : length c.deref_mut.result.now ≡ length feed.places.items = omega arith in
    record {
      says = (said_line (length feed.places.items) feed.last c.deref_mut.result.now c.line.result.now (line_of feed.lines) skips size c.line.ensures c.in-Nothing.ensures.says, refl, refl);
      breaks = λ rule is. cc;
      fits = refl;
      rises = omega arith;
      time = λ is. cc;
      same_time = tt;
      lines = refl;
      places = refl;
      number = refl;
      ended = refl;
    }

pub returns-in-Restart : goal.returns-in-Restart
returns-in-Restart c =
    let feed = c.args.self.now in
    let size : length c.deref_mut.result.now ≡ length feed.places.items = omega arith in
    record {
      says = (said_line (length feed.places.items) feed.last c.deref_mut.result.now c.line.result.now (line_of feed.lines) restarts size c.line.ensures c.in-Restart.ensures.says, refl, refl);
      breaks = λ rule is. cc;
      fits = refl;
      rises = omega arith;
      time = λ is. cc;
      same_time = tt;
      lines = refl;
      places = refl;
      number = refl;
      ended = refl;
    }

pub returns-in-Scan : goal.returns-in-Scan
returns-in-Scan c =
    let feed = c.args.self.now in
    let size : length c.deref_mut.result.now ≡ length feed.places.items = omega arith in
    let whole : length c.read_line.new.values ≡ feed.values.len = omega arith in
    let values = c.deref-in-Scan.ensures.value ∙ written feed.values.len c.read_line.new.values _ whole in
    let ins = ap (λ (scan : Scan). scan.ins) c.fill.ensures in
    let now = ap (λ (scan : Scan). scan.now) c.fill.ensures in
    record {
      says = (
        c.read_line.new.values,
        said_line (length feed.places.items) feed.last c.deref_mut.result.now c.line.result.now (line_of feed.lines) (scans c.in-Scan.now c.read_line.new.values) size c.line.ensures c.in-Scan.ensures.says
            ∙ ap (λ (n : ℕ). scans n c.read_line.new.values) (sym now),
        ins ∙ ap (λ (found : List ℕ). inputs_of found c.deref-in-Scan.result.now) c.deref.ensures.value ∙ ap (inputs_of feed.places.items) values,
        sym now,
      );
      breaks = λ rule is. cc;
      fits = ap length ins ∙ length-map c.deref.result.now _ ∙ omega (arith, c.requires.sizes, c.deref.ensures.len);
      rises = c.read_line.ensures.rises c.in-Scan.now c.in-Scan.is;
      time = λ is. sym now;
      same_time = tt;
      lines = refl;
      places = refl;
      number = refl;
      ended = refl;
    }

pub returns-in-Broken : goal.returns-in-Broken
returns-in-Broken c =
    let feed = c.args.self.now in
    let size : length c.deref_mut.result.now ≡ length feed.places.items = omega arith in
    record {
      says = tt;
      breaks = λ rule is.
          let same : c.in-Broken.rule ≡ rule = cc in
          said_line (length feed.places.items) feed.last c.deref_mut.result.now c.line.result.now (line_of feed.lines) (breaks c.in-Broken.rule) size c.line.ensures c.in-Broken.ensures.says
          ∙ ap (λ (r : Rule). breaks r) same;
      fits = refl;
      rises = tt;
      time = λ is. cc;
      same_time = refl;
      lines = refl;
      places = refl;
      number = refl;
      ended = refl;
    }
