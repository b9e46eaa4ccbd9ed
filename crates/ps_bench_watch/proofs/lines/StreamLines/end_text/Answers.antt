use Rattle.std.proofs.Common.{◌≡◌, ◌≤◌, ◌-◌, ℕ, length, take, drop, refl, ap, arith, length-take, length-drop}
use Rattle.ps_bench_watch.specs.Reading.{held_of}
use Rattle.ps_bench_watch.proofs.Feeds.{ended, none_behind}
use Rattle.ps_bench_watch.proofs.lines.StreamLines.end_text.Goals as goal

pub invariant_of-self : goal.invariant_of-self
invariant_of-self c =
    let s = c.args.self.now in
    record {
      room = s.room;
      in_order = omega (arith, c.requires.all_looked_at);
      held = s.held;
      within = s.within;
      none = none_behind s.bytes.items s.upto s.looked s.held;
      shown = omega arith;
      shown_within = s.within;
    }

pub returns : goal.returns
returns c =
    let s = c.args.self.now in
    let size : length (held_of s) ≡ s.upto - s.from = omega (arith, length-take {A = ℕ}, length-drop {A = ℕ}) in
    let short : length (held_of s) ≤ s.longest = omega (arith, size) in
    let none : s.upto - s.upto ≡ 0 = omega arith in
    record {
      gives = ended s.longest (held_of s) (take (s.upto - s.upto) (drop s.upto s.bytes.items)) (s.upto - s.from) size c.requires.none short
          (ap (λ (k : ℕ). take k (drop s.upto s.bytes.items)) none) c.at_end-came.result c.at_end-came.ensures.none c.at_end-came.ensures.some;
      longest = refl;
    }
