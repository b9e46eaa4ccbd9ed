use Rattle.std.proofs.Common.{◌≡◌, drop}
use Rattle.ps_bench_never.specs.TellingAny.{first_text, sought_of}
use Rattle.ps_bench_never.proofs.telling_any.add_rule.Given as goal

-- no case was found by the attempts before these
abbrev pub invariant-loop-attempt : goal.invariant-loop-attempt
invariant-loop-attempt l = record {
  text : l.text ≡ l.initial.text;
  first : first_text (sought_of l.searched) l.rule l.r (drop l.attempt-index l.searched.attempts.now)
      ≡ first_text (sought_of l.searched) l.rule l.r l.searched.attempts.now;
}
