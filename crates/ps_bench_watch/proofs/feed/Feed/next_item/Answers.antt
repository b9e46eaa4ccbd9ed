use Rattle.std.proofs.Common.{◌≡◌, ◌∙◌, if◌then◌else◌, [], Bool, refl, sym, ap, subst, arith}
use Rattle.ps_bench_watch.specs.Feeding.{lines_left}
use Rattle.ps_bench_watch.specs.Reading.{Gives, left, line_of}
use Rattle.ps_bench_watch.specs.declared.coming.Came.{Came}
use Rattle.ps_bench_watch.proofs.WatchSaying.{came_breaks, came_gives, left_ended, left_open, line_unless_end, long_breaks}
use Rattle.ps_bench_watch.proofs.feed.Feed.next_item.Goals as goal

pub invariant_of-self : goal.invariant_of-self
invariant_of-self g c = record { one_each = c.args.self.now.one_each }

pub returns-then-self : goal.returns-then-self
returns-then-self g c = record {
  gives = λ tells. (left_ended c.args.self.now (g.S.Stream.coming c.args.input.now) c.if-self.true, refl);
  refuses = λ tells refusal is. cc;
  same_line = λ tells is. cc;
  all_came = λ is. cc;
  fits = refl;
  rises = omega arith;
  time = λ is. cc;
  same_time = tt;
  places = refl;
  fault = λ is. cc;
  exact = λ no. refl;
  counts = omega arith;
  telling = refl;
}

pub returns-in-Err : goal.returns-in-Err
returns-in-Err g c = record {
  gives = λ tells. tt;
  refuses = λ tells refusal is. cc;
  same_line = λ tells is.
      ap (λ (b : Bool). if b then [] else left c.next_line.new.self (g.S.Stream.coming c.next_line.new.input)) c.if-self.false
      ∙ c.in-Err.ensures.same_line tells ∙ sym (left_open c.args.self.now (g.S.Stream.coming c.args.input.now) c.if-self.false);
  all_came = λ is. c.in-Err.ensures.all_came;
  fits = refl;
  rises = tt;
  time = λ is. cc;
  same_time = refl;
  places = refl;
  fault = λ is. c.in-Err.ensures.failed;
  exact = λ no. absurd (no refl);
  counts = c.next_line.ensures.counts;
  telling = c.next_line.ensures.telling;
}

pub returns-then-is_end : goal.returns-then-is_end
returns-then-is_end g c =
    let coming = g.S.Stream.coming in
    record {
      gives = λ tells.
          let at = subst (λ (came : Came). Gives (left c.args.self.now.lines (coming c.args.input.now)) came (line_of c.next_line.new.self) (left c.next_line.new.self (coming c.next_line.new.input)))
          (c.is_end.ensures.end c.if-is_end.true) (c.in-Ok.ensures.gives tells) in
          (left_open c.args.self.now (coming c.args.input.now) c.if-self.false ∙ at.0, refl);
      refuses = λ tells refusal is. cc;
      same_line = λ tells is. cc;
      all_came = λ is. cc;
      fits = refl;
      rises = omega arith;
      time = λ is. cc;
      same_time = tt;
      places = refl;
      fault = λ is. cc;
      exact = λ no. c.in-Ok.ensures.exact;
      counts = c.next_line.ensures.counts;
      telling = c.next_line.ensures.telling;
    }

pub returns-in-TooLong : goal.returns-in-TooLong
returns-in-TooLong g c =
    let coming = g.S.Stream.coming in
    record {
      gives = λ tells. tt;
      refuses = λ tells refusal is.
          let same : c.at_line.result ≡ refusal = cc in
          let at = subst (λ (came : Came). Gives (left c.args.self.now.lines (coming c.args.input.now)) came (line_of c.next_line.new.self) (left c.next_line.new.self (coming c.next_line.new.input)))
          c.in-TooLong.is (c.in-Ok.ensures.gives tells) in
          long_breaks c.args.self.now (lines_left c.args.self.now (coming c.args.input.now)) at.0 refusal
          (left_open c.args.self.now (coming c.args.input.now) c.if-self.false ∙ at.1) (sym same ∙ c.at_line.ensures);
      same_line = λ tells is. cc;
      all_came = λ is. cc;
      fits = refl;
      rises = tt;
      time = λ is. cc;
      same_time = refl;
      places = refl;
      fault = λ is. cc;
      exact = λ no. c.in-Ok.ensures.exact;
      counts = c.next_line.ensures.counts;
      telling = c.next_line.ensures.telling;
    }

pub take_line-requires : goal.take_line-requires
take_line-requires g c = record {
  sizes = c.requires.sizes;
  line = line_unless_end c.in-Ok.came c.in-Line.is (c.is_end.ensures.more c.if-is_end.false);
}

pub returns-in-Line : goal.returns-in-Line
returns-in-Line g c =
    let coming = g.S.Stream.coming in
    let line = line_unless_end c.in-Ok.came c.in-Line.is (c.is_end.ensures.more c.if-is_end.false) in
    let took = c.take_line.ensures in
    record {
      gives = λ tells.
          came_gives c.take_line.result c.args.self.now c.take_line.new.self c.args.into.now c.take_line.new.into (coming c.args.input.now) (coming c.next_line.new.input)
          c.in-Ok.came c.next_line.new.self line c.if-self.false (c.in-Ok.ensures.gives tells) took.lines took.ended took.says took.shown;
      refuses = λ tells refusal is.
          came_breaks c.args.self.now (coming c.args.input.now) (coming c.next_line.new.input)
          c.in-Ok.came c.next_line.new.self line c.if-self.false (c.in-Ok.ensures.gives tells) refusal (took.breaks refusal is);
      same_line = λ tells is. absurd {A = lines_left c.take_line.new.self (coming c.next_line.new.input) ≡ lines_left c.args.self.now (coming c.args.input.now)} (took.no_fault is);
      all_came = λ is. absurd (took.no_fault is);
      fits = took.fits;
      rises = took.rises;
      time = took.time;
      same_time = took.same_time;
      places = took.places;
      fault = λ is. absurd (took.no_fault is);
      exact = λ no. c.in-Ok.ensures.exact;
      counts = c.next_line.ensures.counts;
      telling = c.next_line.ensures.telling;
    }
