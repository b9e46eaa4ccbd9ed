-- What a line says that begins no rule, by the setting that its first word begins.
use Rattle.std.proofs.Common.{◌≡◌, ◌∙◌, ◌||◌, ◌∷◌, ℕ, List, Bool, true, false, Some, None, if◌then◌else◌, codes, refl, sym, ap}
use Rattle.std.specs.Str.{bytes_eq}
use Rattle.ps_model.specs.Network.{Network}
use Rattle.ps_bench_names.specs.Words.{words_in}
use Rattle.ps_bench_rules.specs.Line.{follow_said, is_setting, line_said, pace_said, rule_begins, said_by_words, said_or, setting_line, some_settings}
use Rattle.ps_bench_rules.specs.Line.Said.{paces, fixes, ties, starts, asks, breaks}
use Rattle.ps_bench_rules.specs.Saying.{leader_of, led_by}
use Rattle.ps_bench_rules.specs.Words.{conditions_said}
use Rattle.ps_bench_rules.specs.declared.flaw.Flaw.TheVariants.{R1}
use Rattle.ps_bench_rules.specs.declared.line.Leader.TheVariants.{Every, Fixed, Follows, First}
use Rattle.ps_bench_rules.specs.declared.rules.Purpose.{Purpose}

module _ (net : Network) (purpose : Purpose) (begun : Bool) where
  by_tests : (word : List ℕ) (others : List (List ℕ)) (every fixed follows first : Bool) →
      (if every || fixed || follows || first
      then (if begun then breaks R1
      else (if every then said_or paces (pace_said others)
      else (if fixed then said_or fixes (some_settings net others)
      else (if follows then said_or ties (follow_said net purpose others) else said_or starts (some_settings net others)))))
      else (if begun then said_or asks (conditions_said net (word ∷ others)) else breaks R1))
      ≡ led_by net purpose begun
      (if every then Some Every else (if fixed then Some Fixed else (if follows then Some Follows else (if first then Some First else None))))
      (word ∷ others) others
  by_tests word others true fixed follows first = refl
  by_tests word others false true follows first = refl
  by_tests word others false false true first = refl
  by_tests word others false false false true = refl
  by_tests word others false false false false = refl

  pub led_line : (line word : List ℕ) (others : List (List ℕ)) → words_in line ≡ word ∷ others → bytes_eq word (codes "never") ≡ false →
      line_said net purpose begun line ≡ led_by net purpose begun (leader_of word) (words_in line) others
  led_line line word others is other =
      ap (said_by_words net purpose begun line) is
      ∙ ap (λ (b : Bool). if b then rule_begins purpose line
      else (if is_setting word then (if begun then breaks R1 else setting_line net purpose word others)
      else (if begun then said_or asks (conditions_said net (word ∷ others)) else breaks R1))) other
      ∙ by_tests word others (bytes_eq word (codes "every")) (bytes_eq word (codes "fixed")) (bytes_eq word (codes "follows")) (bytes_eq word (codes "first"))
      ∙ ap (λ (words : List (List ℕ)). led_by net purpose begun (leader_of word) words others) (sym is)
