use Rattle.std.proofs.Common.{◌≡◌, ◌∙◌, ℕ, Ok, length, sym, ap, subst}
use Rattle.ps_bench_watch.specs.Reading.{line_of}
use Rattle.ps_bench_watch.specs.Saying.{Says}
use Rattle.ps_bench_watch.specs.declared.feed.Fed.TheVariants.{Scan as AScan}
use Rattle.ps_trace.specs.Scans.{at_line}
use Rattle.ps_trace.specs.Trace.{Said}
use Rattle.ps_bench_watch.proofs.WatchSaying.{counts_line, said_came}
use Rattle.ps_bench_watch.proofs.feed.Feed.take_line.Goals as goal

pub invariant_of-self : goal.invariant_of-self
invariant_of-self c = record { one_each = c.read_item.new.self.one_each }

pub returns-in-Ok : goal.returns-in-Ok
returns-in-Ok c =
    let feed = c.args.self.now in
    record {
      says = subst (λ (said : Said). Says c.in-Ok.fed feed.places.items feed.last c.read_item.new.self.last c.args.into.now c.read_item.new.into said)
          (sym (said_came c.args.came c.requires.line (length feed.places.items) feed.last (line_of feed.lines))) c.in-Ok.ensures.says;
      breaks = λ refusal is. cc;
      shown = λ number is.
          counts_line c.read_item.new.self.number c.number_behind-self.result c.args.came c.number_behind-self.ensures number (line_of feed.lines) (c.read_item.ensures.number ∙ is);
      ended = c.is_last-self.ensures;
      no_fault = λ is. cc;
      fits = c.read_item.ensures.fits;
      rises = c.in-Ok.ensures.rises;
      time = λ is.
          let same : c.in-Ok.fed ≡ AScan = cc in
          c.read_item.ensures.time (c.in-Ok.is ∙ ap Ok same);
      same_time = tt;
      lines = c.read_item.ensures.lines;
      places = c.read_item.ensures.places;
    }

pub returns-in-Err : goal.returns-in-Err
returns-in-Err c =
    let feed = c.args.self.now in
    record {
      says = tt;
      breaks = λ refusal is.
          let same : c.at_line.result ≡ refusal = cc in
          record {
            rule = c.in-Err.rule;
            broken = said_came c.args.came c.requires.line (length feed.places.items) feed.last (line_of feed.lines) ∙ c.read_item.ensures.breaks c.in-Err.rule c.in-Err.is;
            told_so = sym same ∙ c.at_line.ensures ∙ ap (λ (n : ℕ). at_line c.in-Err.rule n) c.read_item.ensures.number;
          };
      shown = tt;
      ended = tt;
      no_fault = λ is. cc;
      fits = c.read_item.ensures.fits;
      rises = tt;
      time = λ is. cc;
      same_time = c.in-Err.ensures.same_time;
      lines = c.read_item.ensures.lines;
      places = c.read_item.ensures.places;
    }
