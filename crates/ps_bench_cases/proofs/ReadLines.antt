-- The lines of a case file, one after another.
use Rattle.std.proofs.Common.{◌≡◌, ◌≢◌, ◌≤◌, ◌<◌, ◌+◌, ℕ, List, [], Ok, Err, refl, ◌∙◌, ap, arith}
use Rattle.std.proofs.lemmas.Grind.{common_steps}
use Rattle.ps_lines.specs.Lines as cut
use Rattle.ps_lines.specs.Reader.{Gives, GoesOn, begin_of}
use Rattle.ps_lines.specs.declared.reader.LineReader.{LineReader}
use Rattle.ps_lines.specs.declared.reader.Got.{Got}
use Rattle.ps_lines.specs.declared.reader.Got.TheVariants.{Line, LastLine, TooLong, TooLarge, End}
use Rattle.ps_model.specs.declared.channel.ImageSizes.{ImageSizes}
use Rattle.ps_model.specs.Network.{Network}
use Rattle.ps_bench_cases.specs.declared.limits.TheConstants.{MOST_CASE_LINES}
use Rattle.ps_bench_cases.specs.declared.rule.CaseRule.TheVariants.{K7}
use Rattle.ps_bench_cases.specs.declared.rule.CaseRefusal.{CaseRefusal}
use Rattle.ps_bench_cases.specs.declared.draft.Draft.{Draft}
use Rattle.ps_bench_cases.specs.Line.{line_said}
use Rattle.ps_bench_cases.specs.File.{at, unless_large, said_after, file_ended, lines_read}

module _ (net : Network) (sizes : ImageSizes) where
  -- a line is read, and those after it are left
  pub line_taken : (got : Got) (d after : Draft) (number : ℕ) (lines rest : List cut.Line) (bytes : List ℕ) → Gives lines got bytes rest →
      got ≢ End → got ≢ TooLong → got ≢ TooLarge → number ≤ MOST_CASE_LINES → unless_large net number (said_after sizes d number (line_said net bytes)) ≡ Ok after →
      lines_read net sizes d number lines ≡ lines_read net sizes after (number + 1) rest
  line_taken Line d after number lines rest bytes gives more short small few says = ap (lines_read net sizes d number) gives ∙ grind (arith, common_steps)
  line_taken LastLine d after number lines rest bytes gives more short small few says = ap (lines_read net sizes d number) gives ∙ grind (arith, common_steps)
  line_taken TooLong d after number lines rest bytes gives more short small few says = absurd (short refl)
  line_taken TooLarge d after number lines rest bytes gives more short small few says = absurd (small refl)
  line_taken End d after number lines rest bytes gives more short small few says = absurd (more refl)

  -- a line is refused
  pub line_refused : (got : Got) (d : Draft) (refusal : CaseRefusal) (number : ℕ) (lines rest : List cut.Line) (bytes : List ℕ) → Gives lines got bytes rest →
      got ≢ End → got ≢ TooLong → got ≢ TooLarge → number ≤ MOST_CASE_LINES → unless_large net number (said_after sizes d number (line_said net bytes)) ≡ Err refusal →
      lines_read net sizes d number lines ≡ Err refusal
  line_refused Line d refusal number lines rest bytes gives more short small few says = ap (lines_read net sizes d number) gives ∙ grind (arith, common_steps)
  line_refused LastLine d refusal number lines rest bytes gives more short small few says = ap (lines_read net sizes d number) gives ∙ grind (arith, common_steps)
  line_refused TooLong d refusal number lines rest bytes gives more short small few says = absurd (short refl)
  line_refused TooLarge d refusal number lines rest bytes gives more short small few says = absurd (small refl)
  line_refused End d refusal number lines rest bytes gives more short small few says = absurd (more refl)

  -- a line is too long, or has a byte past the largest file
  pub line_long : (got : Got) (d : Draft) (number : ℕ) (lines rest : List cut.Line) (bytes : List ℕ) → Gives lines got bytes rest →
      got ≢ End → got ≢ Line → got ≢ LastLine → lines_read net sizes d number lines ≡ Err (at K7 number)
  line_long Line d number lines rest bytes gives more long large = absurd (long refl)
  line_long LastLine d number lines rest bytes gives more long large = absurd (large refl)
  line_long TooLong d number lines rest bytes gives more long large = ap (lines_read net sizes d number) gives
  line_long TooLarge d number lines rest bytes gives more long large = ap (lines_read net sizes d number) gives.2
  line_long End d number lines rest bytes gives more long large = absurd (more refl)

  -- a line is one too many
  pub line_too_many : (got : Got) (d : Draft) (number : ℕ) (lines rest : List cut.Line) (bytes : List ℕ) → Gives lines got bytes rest →
      got ≢ End → MOST_CASE_LINES < number → lines_read net sizes d number lines ≡ Err (at K7 number)
  line_too_many Line d number lines rest bytes gives more many = ap (lines_read net sizes d number) gives ∙ grind (arith, common_steps)
  line_too_many LastLine d number lines rest bytes gives more many = ap (lines_read net sizes d number) gives ∙ grind (arith, common_steps)
  line_too_many TooLong d number lines rest bytes gives more many = ap (lines_read net sizes d number) gives
  line_too_many TooLarge d number lines rest bytes gives more many = ap (lines_read net sizes d number) gives.2
  line_too_many End d number lines rest bytes gives more many = absurd (more refl)

  -- no line is left
  pub lines_ended : (d : Draft) (number : ℕ) (lines : List cut.Line) → lines ≡ [] → lines_read net sizes d number lines ≡ file_ended d number
  lines_ended d number lines none = ap (lines_read net sizes d number) none

-- a reader is past a line that came
pub goes_past : (got : Got) (old new : LineReader) → GoesOn got old new → got ≢ End → got ≢ TooLarge → begin_of old < begin_of new
goes_past Line old new goes more small = goes
goes_past LastLine old new goes more small = goes
goes_past TooLong old new goes more small = goes
goes_past TooLarge old new goes more small = absurd (small refl)
goes_past End old new goes more small = absurd (more refl)
