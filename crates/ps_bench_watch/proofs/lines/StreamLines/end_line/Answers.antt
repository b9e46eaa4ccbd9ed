use Rattle.std.proofs.Common.{◌≡◌, ◌≤◌, ◌<◌, ◌+◌, ◌-◌, ℕ, List, length, take, drop, subst, arith, length-take, length-drop, refl}
use Rattle.std.specs.Str.Lines.{strip_carriage_return}
use Rattle.ps_bench_watch.proofs.Feeds.{kept_cut, long_cut, none_behind}
use Rattle.ps_bench_watch.proofs.lines.StreamLines.end_line.Goals as goal

pub invariant_of-self : goal.invariant_of-self
invariant_of-self c =
    let s = c.args.self.now in
    record {
      room = s.room;
      in_order = omega arith;
      held = omega (arith, c.requires.held);
      within = s.within;
      none = none_behind s.bytes.items (c.args.feed + 1) (c.args.feed + 1) (omega arith);
      shown = s.shown;
      shown_within = s.shown_within;
    }

pub returns-then-is_too_long : goal.returns-then-is_too_long
returns-then-is_too_long c =
    let s = c.args.self.now in
    let long : s.longest < c.args.feed - s.from = c.if-is_too_long.ensures.long refl in
    let within : s.upto ≤ length s.bytes.items = omega arith in
    record {
      gives = λ coming.
          long_cut s.longest s.bytes.items s.from c.args.feed s.upto coming c.requires.behind c.requires.held within c.requires.feed c.requires.first long;
      longest = refl;
    }

pub invariant_of-self-2 : goal.invariant_of-self-2
invariant_of-self-2 c =
    let s = c.args.self.now in
    let fits : c.stripped.result ≤ c.args.feed - s.from = omega (arith, length-take {A = ℕ}, length-drop {A = ℕ}) in
    record {
      room = s.room;
      in_order = omega arith;
      held = omega (arith, c.requires.held);
      within = s.within;
      none = none_behind s.bytes.items (c.args.feed + 1) (c.args.feed + 1) (omega arith);
      shown = omega arith;
      shown_within = omega (arith, c.requires.behind, c.requires.held, fits);
    }

pub returns : goal.returns
returns c =
    let s = c.args.self.now in
    let short : c.args.feed - s.from ≤ s.longest = c.if-is_too_long.ensures.kept refl in
    let within : s.upto ≤ length s.bytes.items = omega arith in
    let strips : take c.stripped.result (take (c.args.feed - s.from) (drop s.from s.bytes.items)) ≡ strip_carriage_return (take (c.args.feed - s.from) (drop s.from s.bytes.items)) =
    subst (λ (t : List ℕ). take c.stripped.result (take (c.args.feed - s.from) (drop s.from t)) ≡ strip_carriage_return (take (c.args.feed - s.from) (drop s.from t))) c.deref.ensures.value c.stripped.ensures.stripped in
    let fits : c.stripped.result ≤ c.args.feed - s.from = omega (arith, length-take {A = ℕ}, length-drop {A = ℕ}) in
    record {
      gives = λ coming.
          kept_cut s.longest s.bytes.items s.from c.args.feed s.upto c.stripped.result coming c.requires.behind c.requires.held within c.requires.feed c.requires.first short fits strips;
      longest = refl;
    }
