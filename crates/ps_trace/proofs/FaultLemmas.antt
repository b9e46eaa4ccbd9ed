-- The lines of a fault file.
use Rattle.std.proofs.Common.{◌≡◌, ◌≢◌, ◌≤◌, ◌<◌, ◌+◌, ◌++◌, ℕ, List, [], ◌∷◌, Option, Some, None, Ok, Err, length, zero, suc, refl, ◌∙◌, sym, ap, append_assoc, arith}
use Rattle.std.proofs.lemmas.Grind.{common_steps}
use Rattle.ps_base.specs.declared.failing.Rule.{Rule}
use Rattle.ps_base.specs.declared.failing.Rule.TheVariants.{F1, F5}
use Rattle.ps_base.specs.declared.limits.TheConstants.{MOST_FAULT_LINES}
use Rattle.ps_lines.specs.Lines as cut
use Rattle.ps_lines.specs.Reader.{Gives}
use Rattle.ps_lines.specs.declared.reader.Got.{Got}
use Rattle.ps_lines.specs.declared.reader.Got.TheVariants.{Line, LastLine, TooLong, TooLarge, End}
use Rattle.ps_base.specs.declared.failing.Refusal.{Refusal}
use Rattle.ps_trace.specs.declared.fault_file.Before.{Before}
use Rattle.ps_trace.specs.Words.{fields, number_of}
use Rattle.ps_trace.specs.Scans.{at_line}
use Rattle.ps_trace.specs.Feeds.{feeds_of}
use Rattle.ps_trace.specs.Faults.{FaultList, Targets, first_of, others_of, line_of_parts, region_of, bytes_said, target_said, faults_from, words_struck, before_next}
use Rattle.ps_trace.specs.declared.target.FaultLine.{FaultLine}
use Rattle.ps_trace.specs.Faults.Struck.{skipped, strikes, broken}

-- four words, and no more
pub target_is : {Who : Type 0} (named : List ℕ → Option Who) (scan turn : Option ℕ) (words : List (List ℕ)) → 0 < length (first_of (others_of (others_of (others_of words)))) →
    others_of (others_of (others_of (others_of words))) ≡ [] →
    target_said named scan turn words ≡ line_of_parts scan turn (named (first_of words)) (region_of (first_of (others_of words)))
    (number_of (first_of (others_of (others_of words)))) (bytes_said (first_of (others_of (others_of (others_of words)))))
target_is named scan turn [] some none = absurd (omega arith)
target_is named scan turn (a ∷ []) some none = absurd (omega arith)
target_is named scan turn (a ∷ b ∷ []) some none = absurd (omega arith)
target_is named scan turn (a ∷ b ∷ c ∷ []) some none = absurd (omega arith)
target_is named scan turn (a ∷ b ∷ c ∷ d ∷ []) some none = refl
target_is named scan turn (a ∷ b ∷ c ∷ d ∷ e ∷ words) some none = cc

module _ {Who Fault : Type 0} (t : Targets Who Fault) where
  -- a line is skipped
  pub faults_skip : (got : Got) (before : Before Who) (number feeds : ℕ) (lines rest : List cut.Line) (bytes : List ℕ) → Gives lines got bytes rest →
      feeds_of got ≡ Ok feeds → number ≤ MOST_FAULT_LINES → words_struck t before (fields bytes) ≡ skipped →
      faults_from t before number lines ≡ faults_from t before (number + feeds) rest
  faults_skip Line before number feeds lines rest bytes gives is few says = ap (faults_from t before number) gives ∙ grind (arith, common_steps)
  faults_skip LastLine before number feeds lines rest bytes gives is few says = ap (faults_from t before number) gives ∙ grind (arith, common_steps)
  faults_skip TooLong before number feeds lines rest bytes gives is few says = cc
  faults_skip TooLarge before number feeds lines rest bytes gives is few says = cc
  faults_skip End before number feeds lines rest bytes gives is few says = cc

  -- a line is a fault
  pub faults_strike : (got : Got) (before : Before Who) (number feeds : ℕ) (fault : FaultLine Who) (lines rest : List cut.Line) (bytes : List ℕ) → Gives lines got bytes rest →
      feeds_of got ≡ Ok feeds → number ≤ MOST_FAULT_LINES → words_struck t before (fields bytes) ≡ strikes fault →
      faults_from t before number lines ≡ record {
        faults = t.made number fault ∷ (faults_from t (before_next (strikes fault) before) (number + feeds) rest).faults;
        refusal = (faults_from t (before_next (strikes fault) before) (number + feeds) rest).refusal;
      }
  faults_strike Line before number feeds fault lines rest bytes gives is few says = ap (faults_from t before number) gives ∙ grind (arith, common_steps)
  faults_strike LastLine before number feeds fault lines rest bytes gives is few says = ap (faults_from t before number) gives ∙ grind (arith, common_steps)
  faults_strike TooLong before number feeds fault lines rest bytes gives is few says = cc
  faults_strike TooLarge before number feeds fault lines rest bytes gives is few says = cc
  faults_strike End before number feeds fault lines rest bytes gives is few says = cc

  -- a line is refused
  pub faults_break : (got : Got) (before : Before Who) (number feeds : ℕ) (rule : Rule) (lines rest : List cut.Line) (bytes : List ℕ) → Gives lines got bytes rest →
      feeds_of got ≡ Ok feeds → number ≤ MOST_FAULT_LINES → words_struck t before (fields bytes) ≡ broken rule →
      faults_from t before number lines ≡ record { faults = []; refusal = Some (at_line rule number) }
  faults_break Line before number feeds rule lines rest bytes gives is few says = ap (faults_from t before number) gives ∙ grind (arith, common_steps)
  faults_break LastLine before number feeds rule lines rest bytes gives is few says = ap (faults_from t before number) gives ∙ grind (arith, common_steps)
  faults_break TooLong before number feeds rule lines rest bytes gives is few says = cc
  faults_break TooLarge before number feeds rule lines rest bytes gives is few says = cc
  faults_break End before number feeds rule lines rest bytes gives is few says = cc

  -- a line is too long
  pub faults_long : (got : Got) (before : Before Who) (number : ℕ) (rule : Rule) (lines rest : List cut.Line) (bytes : List ℕ) → Gives lines got bytes rest →
      feeds_of got ≡ Err rule → got ≢ End → number ≤ MOST_FAULT_LINES → faults_from t before number lines ≡ record { faults = []; refusal = Some (at_line F1 number) }
  faults_long Line before number rule lines rest bytes gives is more few = cc
  faults_long LastLine before number rule lines rest bytes gives is more few = cc
  faults_long TooLong before number rule lines rest bytes gives is more few = ap (faults_from t before number) gives ∙ grind (arith, common_steps)
  faults_long TooLarge before number rule lines rest bytes gives is more few = ap (faults_from t before number) gives.2 ∙ grind (arith, common_steps)
  faults_long End before number rule lines rest bytes gives is more few = absurd (more refl)

  -- a line past the last one that a file may have
  pub faults_many : (got : Got) (before : Before Who) (number : ℕ) (lines rest : List cut.Line) (bytes : List ℕ) → Gives lines got bytes rest →
      got ≢ End → MOST_FAULT_LINES < number → faults_from t before number lines ≡ record { faults = []; refusal = Some (at_line F5 number) }
  faults_many Line before number lines rest bytes gives more many = ap (faults_from t before number) gives ∙ grind (arith, common_steps)
  faults_many LastLine before number lines rest bytes gives more many = ap (faults_from t before number) gives ∙ grind (arith, common_steps)
  faults_many TooLong before number lines rest bytes gives more many = ap (faults_from t before number) gives ∙ grind (arith, common_steps)
  faults_many TooLarge before number lines rest bytes gives more many = ap (faults_from t before number) gives.2 ∙ grind (arith, common_steps)
  faults_many End before number lines rest bytes gives more many = absurd (more refl)

-- equal lists of faults have equal parts
pub same_faults : {Fault : Type 0} {a b : FaultList Fault} → a ≡ b → a.faults ≡ b.faults
same_faults same = ap (λ l. l.faults) same

pub same_refusal : {Fault : Type 0} {a b : FaultList Fault} → a ≡ b → a.refusal ≡ b.refusal
same_refusal same = ap (λ l. l.refusal) same

-- after other faults
pub same_behind : {Fault : Type 0} (front : List Fault) {a b : FaultList Fault} → a ≡ b → front ++ a.faults ≡ front ++ b.faults
same_behind front same = ap (λ l. front ++ l.faults) same

pub same_before : {Fault : Type 0} {front other : List Fault} (behind : List Fault) → front ≡ other → front ++ behind ≡ other ++ behind
same_before behind same = ap (λ l. l ++ behind) same

-- one fault more stands in front of those that are left
pub one_more : {Fault : Type 0} (front new behind : List Fault) (fault made : Fault) → new ≡ front ++ fault ∷ [] → fault ≡ made → front ++ made ∷ behind ≡ new ++ behind
one_more front new behind fault made is same =
    sym (append_assoc front (made ∷ []) behind) ∙ same_before behind (ap (λ f. front ++ f ∷ []) (sym same) ∙ sym is)

-- the lines that are left are read after this one
pub read_behind : {Who Fault : Type 0} (t : Targets Who Fault) {before other : Before Who} → other ≡ before → (number : ℕ) (lines : List cut.Line) → faults_from t before number lines ≡ faults_from t other number lines
read_behind t same number lines = ap (λ b. faults_from t b number lines) (sym same)

-- a list of faults with no refusal
pub list_is : {Fault : Type 0} (list : FaultList Fault) (faults : List Fault) → list.faults ≡ faults → list.refusal ≡ None → list ≡ record { faults = faults; refusal = None }
list_is {Fault} list faults same whole =
    ap (λ (fs : List Fault). record { faults = fs; refusal = list.refusal }) same ∙ ap (λ (r : Option Refusal). record { faults = faults; refusal = r }) whole

-- a name was found with the first line, or before
pub found_either : {P : Type 0} (begin read : ℕ) → (0 < begin → P) → (read ≡ 0 → P) → (begin ≡ 0 → read ≡ 0) → P
found_either zero read was now fresh = now (fresh refl)
found_either (suc n) read was now fresh = was (omega arith)
