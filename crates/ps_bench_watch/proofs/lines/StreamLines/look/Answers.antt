use Rattle.std.proofs.Common.{◌≡◌, ◌≤◌, ◌<◌, ◌-◌, ℕ, List, length, take, drop, subst, arith, length-take, length-drop, refl}
use Rattle.std.proofs.lemmas.List.{take-take}
use Rattle.ps_lines.specs.Lines.{HasNoLineFeed}
use Rattle.ps_bench_watch.specs.Reading.{held_of}
use Rattle.ps_bench_watch.proofs.Feeds.{none_all, none_upto, too_long}
use Rattle.ps_bench_watch.proofs.lines.StreamLines.look.Goals as goal

pub end_line-requires-clause-first : goal.end_line-requires-clause-first
end_line-requires-clause-first c =
    let s = c.args.self.now in
    let found : HasNoLineFeed (take c.in-Some.n (take (s.upto - s.looked) (drop s.looked s.bytes.items))) =
    subst (λ (t : List ℕ). HasNoLineFeed (take c.in-Some.n (take (s.upto - s.looked) (drop s.looked t)))) c.deref.ensures.value c.in-Some.ensures.found.2 in
    let inside : c.in-Some.n ≤ s.upto - s.looked = omega (arith, c.in-Some.ensures.found.0, length-take {A = ℕ}, length-drop {A = ℕ}) in
    none_upto s.bytes.items s.from s.looked c.in-Some.n s.in_order s.none
    (subst HasNoLineFeed (take-take c.in-Some.n (s.upto - s.looked) (drop s.looked s.bytes.items) inside) found)

pub invariant_of-self : goal.invariant_of-self
invariant_of-self c =
    let s = c.args.self.now in
    record {
      room = s.room;
      in_order = omega arith;
      held = omega arith;
      within = s.within;
      none = none_all s.bytes.items s.from s.looked s.upto s.in_order s.held s.none
          (subst (λ (t : List ℕ). HasNoLineFeed (take (s.upto - s.looked) (drop s.looked t))) c.deref.ensures.value c.in-None.ensures.none);
      shown = s.shown;
      shown_within = s.shown_within;
    }

pub returns-in-Some : goal.returns-in-Some
returns-in-Some c = record {
  gives = c.end_line.ensures.gives;
  none = tt;
  same = tt;
  all_looked_at = tt;
  short = tt;
  size = tt;
  longest = c.end_line.ensures.longest;
}

pub returns-then-is_too_long : goal.returns-then-is_too_long
returns-then-is_too_long c =
    let s = c.args.self.now in
    let none : HasNoLineFeed (held_of s) =
    none_all s.bytes.items s.from s.looked s.upto s.in_order s.held s.none
    (subst (λ (t : List ℕ). HasNoLineFeed (take (s.upto - s.looked) (drop s.looked t))) c.deref.ensures.value c.in-None.ensures.none) in
    let size : length (held_of s) ≡ s.upto - s.from = omega (arith, length-take {A = ℕ}, length-drop {A = ℕ}) in
    let long : s.longest < length (held_of s) = omega (arith, size, c.if-is_too_long.ensures.long refl) in
    record {
      gives = λ coming. too_long s.longest (held_of s) coming none long;
      none = tt;
      same = tt;
      all_looked_at = tt;
      short = tt;
      size = tt;
      longest = refl;
    }

pub returns-else-is_too_long : goal.returns-else-is_too_long
returns-else-is_too_long c =
    let s = c.args.self.now in
    record {
      gives = tt;
      none = none_all s.bytes.items s.from s.looked s.upto s.in_order s.held s.none
          (subst (λ (t : List ℕ). HasNoLineFeed (take (s.upto - s.looked) (drop s.looked t))) c.deref.ensures.value c.in-None.ensures.none);
      same = refl;
      all_looked_at = refl;
      short = c.if-is_too_long.ensures.kept refl;
      size = refl;
      longest = refl;
    }
