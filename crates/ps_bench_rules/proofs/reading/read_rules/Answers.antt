use Rattle.std.proofs.Common.{◌≡◌, ◌≢◌, ◌≤◌, ◌<◌, ◌∙◌, ℕ, List, [], Option, Some, None, Result, Ok, Err, IfOk, IsTrue, IsSome, refl, subst, sym, ap, arith}
use Rattle.std.proofs.lemmas.Grind.{common_steps}
use Rattle.ps_lines.specs.Reader.{Gives, IsFresh, left, line_of, begin_of, read_of, name_of}
use Rattle.ps_lines.specs.declared.reader.Limits.{Limits}
use Rattle.ps_lines.specs.declared.reader.Got.{Got}
use Rattle.ps_lines.specs.declared.reader.Got.TheVariants.{End}
use Rattle.ps_trace.proofs.FaultLemmas.{found_either}
use Rattle.ps_bench_rules.specs.declared.limits.TheConstants.{LARGEST_RULES_FILE, LONGEST_RULES_LINE}
use Rattle.ps_bench_rules.specs.declared.flaw.RulesRefusal.{RulesRefusal}
use Rattle.ps_bench_rules.specs.declared.flaw.RulesFail.{RulesFail}
use Rattle.ps_bench_rules.specs.declared.rules.RulesFile.{RulesFile}
use Rattle.ps_bench_rules.specs.declared.draft.Draft.{Draft}
use Rattle.ps_bench_rules.specs.Line.{line_said}
use Rattle.ps_bench_rules.specs.Saying.{IsLineTaken}
use Rattle.ps_bench_rules.specs.File.{has_begun, rules_of, lines_read, no_lines, file_ended}
use Rattle.ps_bench_rules.proofs.Keeping.{Stands, ended_stands, line_has, no_lines_stand, said_stands}
use Rattle.ps_bench_rules.specs.Standing.{IsOfApplication}
use Rattle.ps_bench_rules.proofs.ReadLines.{line_taken, lines_ended, goes_past}
use Rattle.ps_bench_rules.proofs.reading.read_rules.Goals as goal
use Rattle.ps_bench_rules.proofs.reading.read_rules.Goals.{in-Ok, in-Err}

pub lines-init : goal.lines-init
lines-init g c =
    let fresh : IsFresh (record { longest = LONGEST_RULES_LINE; largest = LARGEST_RULES_FILE }) c.in_ok-lines.lines = c.in_ok-lines.ensures.fresh in
    record {
      reads = λ tells text is. fresh.reads text;
      says = λ tells text is. ap (lines_read c.args.app.now c.args.purpose no_lines 1) (sym (fresh.all_left text)) ∙ ap (λ d. lines_read c.args.app.now c.args.purpose d 1 (left c.in_ok-lines.lines text)) (sym c.new-draft.ensures);
      stands = subst (Stands c.args.app.now c.args.purpose) (sym c.new-draft.ensures) (no_lines_stand c.args.app.now c.args.purpose);
      found = λ tells some. absurd (omega (arith, fresh.nothing));
      fresh = λ none. fresh.nothing;
      few = omega arith;
      near = omega (arith, fresh.nothing);
      limited = ap (λ (limits : Limits). limits.largest) fresh.limits;
      named = c.in_ok-lines.ensures.name;
      exact = λ other. refl;
      kept = refl;
      telling = refl;
    }

pub returns-then-eq-clause-gives : goal.returns-then-eq-clause-gives
returns-then-eq-clause-gives g c = λ tells text is.
    let inv = c.lines.invariant in
    let here : g.F.Files.held c.lines.files (name_of c.lines.lines) ≡ Some text =
    ap (λ (held : List ℕ → Option (List ℕ)). held (name_of c.lines.lines)) inv.kept ∙ ap (g.F.Files.held c.args.files.now) inv.named ∙ is in
    let ft : IsTrue (g.F.Files.tells c.lines.files) = subst IsTrue (sym inv.telling) tells in
    let ends : c.in_ok-got.got ≡ End = grind (arith, common_steps) in
    let gives : Gives (left c.lines.lines text) c.in_ok-got.got (line_of c.next_line.new.self) (left c.next_line.new.self text) =
    c.in_ok-got.ensures.gives ft text here (inv.reads tells text is) in
    let none : left c.lines.lines text ≡ [] = (subst (λ (got : Got). Gives (left c.lines.lines text) got (line_of c.next_line.new.self) (left c.next_line.new.self text)) ends gives).0 in
    let whole : rules_of c.args.app.now c.args.purpose text ≡ file_ended c.args.purpose c.lines.draft c.lines.number =
    inv.says tells text is ∙ lines_ended c.args.app.now c.args.purpose c.lines.draft c.lines.number (left c.lines.lines text) none in
    elim c.match-branch-4.branch [
      | in-Ok w ↦ subst (λ (r : Result RulesFile RulesFail). IfOk r (λ file. rules_of c.args.app.now c.args.purpose text ≡ Ok file)) (sym w.result-is) (whole ∙ sym c.in_ok-file.ensures ∙ w.in-Ok.is)
      | in-Err w ↦ subst (λ (r : Result RulesFile RulesFail). IfOk r (λ file. rules_of c.args.app.now c.args.purpose text ≡ Ok file)) (sym w.result-is) tt
    ]

pub returns-then-eq-clause-stands : goal.returns-then-eq-clause-stands
returns-then-eq-clause-stands g c =
    let stand = ended_stands c.args.app.now c.args.purpose c.lines.draft c.lines.number c.lines.invariant.stands in
    elim c.match-branch-4.branch [
      | in-Ok w ↦ subst (λ (r : Result RulesFile RulesFail). IfOk r (IsOfApplication c.args.app.now)) (sym w.result-is)
          (subst (λ (r : Result RulesFile RulesRefusal). IfOk r (IsOfApplication c.args.app.now)) (sym c.in_ok-file.ensures ∙ w.in-Ok.is) stand)
      | in-Err w ↦ subst (λ (r : Result RulesFile RulesFail). IfOk r (IsOfApplication c.args.app.now)) (sym w.result-is) tt
    ]

pub take_line-requires : goal.take_line-requires
take_line-requires g c = grind (arith, common_steps)

pub returns-in-Some-clause-refuses : goal.returns-in-Some-clause-refuses
returns-in-Some-clause-refuses g c = λ tells text is refusal same.
    let inv = c.lines.invariant in
    let here : g.F.Files.held c.lines.files (name_of c.lines.lines) ≡ Some text =
    ap (λ (held : List ℕ → Option (List ℕ)). held (name_of c.lines.lines)) inv.kept ∙ ap (g.F.Files.held c.args.files.now) inv.named ∙ is in
    let ft : IsTrue (g.F.Files.tells c.lines.files) = subst IsTrue (sym inv.telling) tells in
    let which : c.in-Some.refusal ≡ refusal = cc in
    let line = c.line-line.result.now in
    let refused = subst (IsLineTaken c.args.app.now c.args.purpose c.in_ok-got.got c.lines.number line c.lines.draft c.take_line.new.draft) c.in-Some.is c.in_ok-refusal.ensures in
    let gives : Gives (left c.lines.lines text) c.in_ok-got.got line (left c.next_line.new.self text) =
    subst (λ (bytes : List ℕ). Gives (left c.lines.lines text) c.in_ok-got.got bytes (left c.next_line.new.self text)) (sym c.line-line.ensures)
    (c.in_ok-got.ensures.gives ft text here (inv.reads tells text is)) in
    inv.says tells text is ∙ refused (left c.lines.lines text) (left c.next_line.new.self text) gives ∙ ap Err which

pub returns-in-Some-clause-found : goal.returns-in-Some-clause-found
returns-in-Some-clause-found g c = λ tells read.
    found_either (begin_of c.lines.lines) (read_of c.lines.lines) (c.lines.invariant.found tells)
    (λ none. subst IsSome (ap (λ (held : List ℕ → Option (List ℕ)). held (name_of c.lines.lines)) c.lines.invariant.kept ∙ ap (g.F.Files.held c.args.files.now) c.lines.invariant.named) (c.in_ok-got.ensures.found (subst IsTrue (sym c.lines.invariant.telling) tells) none))
    c.lines.invariant.fresh

pub lines-preserved : goal.lines-preserved
lines-preserved g c =
    let inv = c.lines.invariant in
    let net = c.args.app.now in
    let purpose = c.args.purpose in
    let got = c.in_ok-got.got in
    let line = c.line-line.result.now in
    let more : got ≢ End = grind (arith, common_steps) in
    let none : c.in_ok-refusal.field-0 ≡ None = grind (arith, common_steps) in
    let taken = subst (IsLineTaken net purpose got c.lines.number line c.lines.draft c.take_line.new.draft) none c.in_ok-refusal.ensures in
    let on : begin_of c.lines.lines < begin_of c.next_line.new.self = goes_past got c.lines.lines c.next_line.new.self c.in_ok-got.ensures.goes_on more taken.small in
    record {
      reads = λ tells text is.
          let here : g.F.Files.held c.lines.files (name_of c.lines.lines) ≡ Some text =
          ap (λ (held : List ℕ → Option (List ℕ)). held (name_of c.lines.lines)) inv.kept ∙ ap (g.F.Files.held c.args.files.now) inv.named ∙ is in
          let ft : IsTrue (g.F.Files.tells c.lines.files) = subst IsTrue (sym inv.telling) tells in
          c.next_line.ensures.reads ft text here (inv.reads tells text is);
      says = λ tells text is.
          let here : g.F.Files.held c.lines.files (name_of c.lines.lines) ≡ Some text =
          ap (λ (held : List ℕ → Option (List ℕ)). held (name_of c.lines.lines)) inv.kept ∙ ap (g.F.Files.held c.args.files.now) inv.named ∙ is in
          let ft : IsTrue (g.F.Files.tells c.lines.files) = subst IsTrue (sym inv.telling) tells in
          let gives : Gives (left c.lines.lines text) got line (left c.next_line.new.self text) =
          subst (λ (bytes : List ℕ). Gives (left c.lines.lines text) got bytes (left c.next_line.new.self text)) (sym c.line-line.ensures)
          (c.in_ok-got.ensures.gives ft text here (inv.reads tells text is)) in
          inv.says tells text is
          ∙ line_taken net purpose got c.lines.draft c.take_line.new.draft c.lines.number _ _ line gives more taken.short taken.small taken.few taken.says;
      stands = subst (λ (r : Result Draft RulesRefusal). IfOk r (Stands net purpose)) taken.says
          (said_stands net purpose c.lines.draft c.lines.number (line_said net purpose (has_begun c.lines.draft) line)
          inv.stands (line_has net purpose (has_begun c.lines.draft) line));
      found = λ tells some. found_either (begin_of c.lines.lines) (read_of c.lines.lines) (inv.found tells)
          (λ none. subst IsSome (ap (λ (held : List ℕ → Option (List ℕ)). held (name_of c.lines.lines)) inv.kept ∙ ap (g.F.Files.held c.args.files.now) inv.named) (c.in_ok-got.ensures.found (subst IsTrue (sym inv.telling) tells) none))
          inv.fresh;
      fresh = λ none. absurd (omega (arith, none, on));
      few = omega (arith, taken.few);
      near = omega (arith, c.next_line.ensures.within, ap (λ (limits : Limits). limits.largest) c.next_line.ensures.limits, inv.limited);
      limited = ap (λ (limits : Limits). limits.largest) c.next_line.ensures.limits ∙ inv.limited;
      named = c.next_line.ensures.name ∙ inv.named;
      exact = λ other. c.in_ok-got.ensures.exact other ∙ inv.exact other;
      kept = c.next_line.ensures.kept ∙ inv.kept;
      telling = c.next_line.ensures.telling ∙ inv.telling;
    }

-- ---- What holds of the files at each way out.

pub returns-in_err-got-clause-counts : goal.returns-in_err-got-clause-counts
returns-in_err-got-clause-counts g c = λ other.
    subst (λ (n : ℕ). n ≤ g.F.Files.faults c.next_line.new.files other) (c.lines.invariant.exact other) (c.next_line.ensures.counts other)

pub returns-in_err-got-clause-kept : goal.returns-in_err-got-clause-kept
returns-in_err-got-clause-kept g c = c.next_line.ensures.kept ∙ c.lines.invariant.kept

pub returns-in_err-got-clause-telling : goal.returns-in_err-got-clause-telling
returns-in_err-got-clause-telling g c = c.next_line.ensures.telling ∙ c.lines.invariant.telling

pub returns-then-eq-clause-counts : goal.returns-then-eq-clause-counts
returns-then-eq-clause-counts g c = λ other.
    subst (λ (n : ℕ). n ≤ g.F.Files.faults c.next_line.new.files other) (c.lines.invariant.exact other) (c.next_line.ensures.counts other)

pub returns-then-eq-clause-kept : goal.returns-then-eq-clause-kept
returns-then-eq-clause-kept g c = c.next_line.ensures.kept ∙ c.lines.invariant.kept

pub returns-then-eq-clause-telling : goal.returns-then-eq-clause-telling
returns-then-eq-clause-telling g c = c.next_line.ensures.telling ∙ c.lines.invariant.telling

pub returns-then-eq-clause-exact : goal.returns-then-eq-clause-exact
returns-then-eq-clause-exact g c = λ _ other. c.in_ok-got.ensures.exact other ∙ c.lines.invariant.exact other

pub returns-in_err-file-clause-counts : goal.returns-in_err-file-clause-counts
returns-in_err-file-clause-counts g c = λ other.
    subst (λ (n : ℕ). n ≤ g.F.Files.faults c.next_line.new.files other) (c.lines.invariant.exact other) (c.next_line.ensures.counts other)

pub returns-in_err-file-clause-kept : goal.returns-in_err-file-clause-kept
returns-in_err-file-clause-kept g c = c.next_line.ensures.kept ∙ c.lines.invariant.kept

pub returns-in_err-file-clause-telling : goal.returns-in_err-file-clause-telling
returns-in_err-file-clause-telling g c = c.next_line.ensures.telling ∙ c.lines.invariant.telling

pub returns-in_err-file-clause-exact : goal.returns-in_err-file-clause-exact
returns-in_err-file-clause-exact g c = λ _ other. c.in_ok-got.ensures.exact other ∙ c.lines.invariant.exact other

pub returns-in_err-refusal-clause-counts : goal.returns-in_err-refusal-clause-counts
returns-in_err-refusal-clause-counts g c = λ other.
    subst (λ (n : ℕ). n ≤ g.F.Files.faults c.next_line.new.files other) (c.lines.invariant.exact other) (c.next_line.ensures.counts other)

pub returns-in_err-refusal-clause-kept : goal.returns-in_err-refusal-clause-kept
returns-in_err-refusal-clause-kept g c = c.next_line.ensures.kept ∙ c.lines.invariant.kept

pub returns-in_err-refusal-clause-telling : goal.returns-in_err-refusal-clause-telling
returns-in_err-refusal-clause-telling g c = c.next_line.ensures.telling ∙ c.lines.invariant.telling

pub returns-in_err-refusal-clause-exact : goal.returns-in_err-refusal-clause-exact
returns-in_err-refusal-clause-exact g c = λ _ other. c.in_ok-got.ensures.exact other ∙ c.lines.invariant.exact other

pub returns-in-Some-clause-counts : goal.returns-in-Some-clause-counts
returns-in-Some-clause-counts g c = λ other.
    subst (λ (n : ℕ). n ≤ g.F.Files.faults c.next_line.new.files other) (c.lines.invariant.exact other) (c.next_line.ensures.counts other)

pub returns-in-Some-clause-kept : goal.returns-in-Some-clause-kept
returns-in-Some-clause-kept g c = c.next_line.ensures.kept ∙ c.lines.invariant.kept

pub returns-in-Some-clause-telling : goal.returns-in-Some-clause-telling
returns-in-Some-clause-telling g c = c.next_line.ensures.telling ∙ c.lines.invariant.telling

pub returns-in-Some-clause-exact : goal.returns-in-Some-clause-exact
returns-in-Some-clause-exact g c = λ _ other. c.in_ok-got.ensures.exact other ∙ c.lines.invariant.exact other
