use Rattle.std.proofs.Common.{◌≡◌, ◌∙◌, ◌≤◌, ◌<◌, ◌+◌, ◌-◌, ◌++◌, ℕ, List, length, take, drop, sym, ap, subst, arith, length-take, length-drop}
use Rattle.std.specs.Prelude.{vec_len}
use Rattle.ps_lines.specs.Lines.{HasNoLineFeed}
use Rattle.ps_bench_watch.specs.Reading.{held_of}
use Rattle.ps_bench_watch.proofs.Feeds.{kept_part, read_more}
use Rattle.ps_bench_watch.proofs.lines.StreamLines.fetch.Goals as goal

pub invariant_of-self-in-Err : goal.invariant_of-self-in-Err
invariant_of-self-in-Err g c =
    let s = c.move_down.new.self in
    let within : s.upto ≤ length c.deref_mut.result.now = omega arith in
    let few : s.looked - s.from ≤ s.upto = omega arith in
    record {
      room = s.room;
      in_order = s.in_order;
      held = s.held;
      within = s.within;
      none = subst HasNoLineFeed (sym (kept_part c.deref_mut.result.now s.bytes.items c.read_some.new.buf _ _ (vec_len s.bytes) s.from s.upto (s.looked - s.from)
          c.move_down.ensures.first c.deref_mut.ensures.value within s.within few)) s.none;
      shown = s.shown;
      shown_within = s.shown_within;
    }

pub invariant_of-self : goal.invariant_of-self
invariant_of-self g c =
    let s = c.move_down.new.self in
    let within : s.upto ≤ length c.deref_mut.result.now = omega arith in
    let few : s.looked - s.from ≤ s.upto = omega arith in
    record {
      room = s.room;
      in_order = s.in_order;
      held = omega arith;
      within = omega (arith, c.in-Ok.ensures.fits, length-take {A = ℕ}, length-drop {A = ℕ});
      none = subst HasNoLineFeed (sym (kept_part c.deref_mut.result.now s.bytes.items c.read_some.new.buf _ _ (vec_len s.bytes) s.from s.upto (s.looked - s.from)
          c.move_down.ensures.first c.deref_mut.ensures.value within s.within few)) s.none;
      shown = s.shown;
      shown_within = s.shown_within;
    }

pub returns-in-Err : goal.returns-in-Err
returns-in-Err g c =
    let s = c.move_down.new.self in
    let within : s.upto ≤ length c.deref_mut.result.now = omega arith in
    let few : s.upto - s.from ≤ s.upto = omega arith in
    let keeps = kept_part c.deref_mut.result.now s.bytes.items c.read_some.new.buf _ _ (vec_len s.bytes) s.from s.upto (s.upto - s.from)
    c.move_down.ensures.first c.deref_mut.ensures.value within s.within few ∙ c.move_down.ensures.same in
    record {
      same = λ tells. ap (λ (held : List ℕ). held ++ g.S.Stream.coming c.read_some.new.self) keeps
          ∙ ap (λ (bytes : List ℕ). held_of c.args.self.now ++ bytes) (c.in-Err.ensures.unread tells);
      end = λ tells is. cc;
      grows = tt;
      stays = λ is. cc;
      stays_looked_at = λ is. cc;
      none = keeps;
      failed = c.in-Err.ensures.failed;
      exact = tt;
      counts = c.read_some.ensures.counts;
      telling = c.read_some.ensures.telling;
      longest = c.move_down.ensures.longest;
    }

pub returns-in-Ok : goal.returns-in-Ok
returns-in-Ok g c =
    let s = c.move_down.new.self in
    let n = c.in-Ok.n in
    let within : s.upto ≤ length c.deref_mut.result.now = omega arith in
    let room : s.upto + n ≤ vec_len s.bytes = omega (arith, c.in-Ok.ensures.fits, length-take {A = ℕ}, length-drop {A = ℕ}) in
    record {
      same = λ tells. read_more c.deref_mut.result.now s.bytes.items c.read_some.new.buf _ _ (vec_len s.bytes) s.from s.upto n _ _ _
          c.move_down.ensures.first c.deref_mut.ensures.value within c.in-Ok.ensures.fits room c.move_down.ensures.same (c.in-Ok.ensures.gives tells);
      end = λ tells is.
          let some : 0 < length c.read_some.new.buf = omega (arith, length-take {A = ℕ}, length-drop {A = ℕ}) in
          c.read_some.ensures.end tells some (c.in-Ok.is ∙ is);
      grows = omega (arith, c.move_down.ensures.first, c.move_down.ensures.size);
      stays = λ is.
          let none : n ≡ 0 = cc in
          let few : s.upto + n - s.from ≤ s.upto = omega (arith, none) in
          let size : s.upto + n - s.from ≡ s.upto - s.from = omega (arith, none) in
          kept_part c.deref_mut.result.now s.bytes.items c.read_some.new.buf _ _ (vec_len s.bytes) s.from s.upto (s.upto + n - s.from)
          c.move_down.ensures.first c.deref_mut.ensures.value within s.within few
          ∙ ap (λ (k : ℕ). take k (drop s.from s.bytes.items)) size ∙ c.move_down.ensures.same;
      stays_looked_at = λ is.
          let none : n ≡ 0 = cc in
          omega (arith, none, c.move_down.ensures.all_looked_at);
      none = tt;
      failed = tt;
      exact = c.in-Ok.ensures.exact;
      counts = c.read_some.ensures.counts;
      telling = c.read_some.ensures.telling;
      longest = c.move_down.ensures.longest;
    }
