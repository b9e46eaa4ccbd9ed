use Rattle.std.proofs.Common.{◌∙◌, ◌-◌, ℕ, take, drop, refl, sym, subst, arith}
use Rattle.ps_lines.specs.Lines.{HasNoLineFeed}
use Rattle.ps_bench_watch.proofs.Feeds.{moved_down}
use Rattle.ps_bench_watch.proofs.lines.StreamLines.move_down.Goals as goal

pub invariant_of-self : goal.invariant_of-self
invariant_of-self c =
    let s = c.args.self.now in
    let none = subst (λ (k : ℕ). HasNoLineFeed (take (k - s.from) (drop s.from s.bytes.items))) c.requires.all_looked_at s.none in
    record {
      room = c.copy_within.ensures.len ∙ s.room;
      in_order = omega arith;
      held = omega arith;
      within = omega (arith, c.copy_within.ensures.len);
      none = subst HasNoLineFeed (sym (moved_down s.bytes.items c.copy_within.new.self.items s.from s.upto (omega arith) (omega arith) c.copy_within.ensures.items)) none;
      shown = s.shown;
      shown_within = omega (arith, c.copy_within.ensures.len);
    }

pub returns : goal.returns
returns c =
    let s = c.args.self.now in
    record {
      same = moved_down s.bytes.items c.copy_within.new.self.items s.from s.upto (omega arith) (omega arith) c.copy_within.ensures.items;
      first = refl;
      size = refl;
      all_looked_at = refl;
      longest = refl;
    }
