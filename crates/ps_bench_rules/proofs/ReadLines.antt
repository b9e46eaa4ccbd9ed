-- The lines of a rules file, one after another.
use Rattle.std.proofs.Common.{◌≡◌, ◌≢◌, ◌≤◌, ◌<◌, ◌+◌, ◌⊎◌, inl, inr, ℕ, List, [], Option, Some, None, Ok, Err, refl, ◌∙◌, ap, subst, arith}
use Rattle.std.proofs.lemmas.Grind.{common_steps}
use Rattle.ps_lines.specs.Lines as cut
use Rattle.ps_lines.specs.Reader.{Gives, GoesOn, begin_of}
use Rattle.ps_lines.specs.declared.reader.LineReader.{LineReader}
use Rattle.ps_lines.specs.declared.reader.Got.{Got}
use Rattle.ps_lines.specs.declared.reader.Got.TheVariants.{Line, LastLine, TooLong, TooLarge, End}
use Rattle.ps_model.specs.Network.{Network}
use Rattle.ps_bench_rules.specs.declared.limits.TheConstants.{MOST_RULES_LINES}
use Rattle.ps_bench_rules.specs.declared.flaw.Flaw.TheVariants.{R5}
use Rattle.ps_bench_rules.specs.declared.flaw.RulesRefusal.{RulesRefusal}
use Rattle.ps_bench_rules.specs.declared.rules.Purpose.{Purpose}
use Rattle.ps_bench_rules.specs.declared.draft.Draft.{Draft}
use Rattle.ps_bench_rules.specs.Line.{line_said}
use Rattle.ps_bench_rules.specs.Saying.{IsLineTaken, after_by}
use Rattle.ps_bench_rules.specs.File.{at, has_begun, said_after, file_ended, lines_read}

module _ (net : Network) (purpose : Purpose) where
  -- a line is read, and those after it are left
  pub line_taken : (got : Got) (d after : Draft) (number : ℕ) (lines rest : List cut.Line) (bytes : List ℕ) → Gives lines got bytes rest →
      got ≢ End → got ≢ TooLong → got ≢ TooLarge → number ≤ MOST_RULES_LINES → said_after d number (line_said net purpose (has_begun d) bytes) ≡ Ok after →
      lines_read net purpose d number lines ≡ lines_read net purpose after (number + 1) rest
  line_taken Line d after number lines rest bytes gives more short small few says = ap (lines_read net purpose d number) gives ∙ grind (arith, common_steps)
  line_taken LastLine d after number lines rest bytes gives more short small few says = ap (lines_read net purpose d number) gives ∙ grind (arith, common_steps)
  line_taken TooLong d after number lines rest bytes gives more short small few says = absurd (short refl)
  line_taken TooLarge d after number lines rest bytes gives more short small few says = absurd (small refl)
  line_taken End d after number lines rest bytes gives more short small few says = absurd (more refl)

  -- a line is refused
  pub line_refused : (got : Got) (d : Draft) (refusal : RulesRefusal) (number : ℕ) (lines rest : List cut.Line) (bytes : List ℕ) → Gives lines got bytes rest →
      got ≢ End → got ≢ TooLong → got ≢ TooLarge → number ≤ MOST_RULES_LINES → said_after d number (line_said net purpose (has_begun d) bytes) ≡ Err refusal →
      lines_read net purpose d number lines ≡ Err refusal
  line_refused Line d refusal number lines rest bytes gives more short small few says = ap (lines_read net purpose d number) gives ∙ grind (arith, common_steps)
  line_refused LastLine d refusal number lines rest bytes gives more short small few says = ap (lines_read net purpose d number) gives ∙ grind (arith, common_steps)
  line_refused TooLong d refusal number lines rest bytes gives more short small few says = absurd (short refl)
  line_refused TooLarge d refusal number lines rest bytes gives more short small few says = absurd (small refl)
  line_refused End d refusal number lines rest bytes gives more short small few says = absurd (more refl)

  -- a line is taken or refused, as a draft says of its bytes
  pub line_is_taken : (got : Got) (d behind : Draft) (number : ℕ) (bytes : List ℕ) (refusal : Option RulesRefusal) → got ≢ End → got ≢ TooLong → got ≢ TooLarge →
      number ≤ MOST_RULES_LINES → said_after d number (line_said net purpose (has_begun d) bytes) ≡ after_by refusal behind →
      IsLineTaken net purpose got number bytes d behind refusal
  line_is_taken got d behind number bytes None more short small few says = record { short = short; small = small; few = few; says = says }
  line_is_taken got d behind number bytes (Some refusal) more short small few says =
      λ lines rest gives. line_refused got d refusal number lines rest bytes gives more short small few says

  -- a line is too long, or has a byte past the largest file
  pub line_long : (got : Got) (d : Draft) (number : ℕ) (lines rest : List cut.Line) (bytes : List ℕ) → Gives lines got bytes rest →
      (got ≡ TooLong) ⊎ (got ≡ TooLarge) → lines_read net purpose d number lines ≡ Err (at R5 number)
  line_long got d number lines rest bytes gives (inl is) = ap (lines_read net purpose d number) (subst (λ (g : Got). Gives lines g bytes rest) is gives)
  line_long got d number lines rest bytes gives (inr is) = ap (lines_read net purpose d number) (subst (λ (g : Got). Gives lines g bytes rest) is gives).2

  -- a line is one too many
  pub line_too_many : (got : Got) (d : Draft) (number : ℕ) (lines rest : List cut.Line) (bytes : List ℕ) → Gives lines got bytes rest →
      got ≢ End → MOST_RULES_LINES < number → lines_read net purpose d number lines ≡ Err (at R5 number)
  line_too_many Line d number lines rest bytes gives more many = ap (lines_read net purpose d number) gives ∙ grind (arith, common_steps)
  line_too_many LastLine d number lines rest bytes gives more many = ap (lines_read net purpose d number) gives ∙ grind (arith, common_steps)
  line_too_many TooLong d number lines rest bytes gives more many = ap (lines_read net purpose d number) gives
  line_too_many TooLarge d number lines rest bytes gives more many = ap (lines_read net purpose d number) gives.2
  line_too_many End d number lines rest bytes gives more many = absurd (more refl)

  -- no line is left
  pub lines_ended : (d : Draft) (number : ℕ) (lines : List cut.Line) → lines ≡ [] → lines_read net purpose d number lines ≡ file_ended purpose d number
  lines_ended d number lines none = ap (lines_read net purpose d number) none

-- a reader is past a line that came
pub goes_past : (got : Got) (old new : LineReader) → GoesOn got old new → got ≢ End → got ≢ TooLarge → begin_of old < begin_of new
goes_past Line old new goes more small = goes
goes_past LastLine old new goes more small = goes
goes_past TooLong old new goes more small = goes
goes_past TooLarge old new goes more small = absurd (small refl)
goes_past End old new goes more small = absurd (more refl)
