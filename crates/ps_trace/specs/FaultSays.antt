-- What the code says of a fault file and its lines.
use Rattle.std.specs.Prelude.{ℕ, Bool, List, Option, Some, None}
use Rattle.ps_base.specs.declared.failing.Rule.{Rule}
use Rattle.ps_base.specs.declared.limits.TheConstants.{LONGEST_FAULT_LINE}
use Rattle.ps_lines.specs.Lines.{lines_at}
use Rattle.ps_model.specs.declared.channel.Region.{Region}
use Rattle.ps_trace.specs.Faults.{FaultList, Struck, Targets, faults_from, no_fault}
use Rattle.ps_trace.specs.Faults.Struck.{skipped, strikes, broken}
use Rattle.ps_trace.specs.declared.fault_file.FaultSays.{FaultSays}
use Rattle.ps_trace.specs.declared.fault_file.TheConstants.{LARGEST_READ}
use Rattle.ps_trace.specs.declared.fault_file.FaultSays.TheVariants.{Nothing, Strikes, Broken}
use Rattle.ps_trace.specs.declared.target.FaultLine.{FaultLine}

-- any targets, by what they say of themselves, with the lengths of their regions
abbrev pub targets_by : {Who Sizes Fault : Type 0} → (List ℕ → Option Who) → (Who → Who → Bool) → (Sizes → Who → Region → ℕ) → (ℕ → FaultLine Who → Fault) → Sizes → Bool →
    Targets Who Fault
targets_by named is_same length_of made sizes one_alone =
    record { named = named; is_same = is_same; length_of = length_of sizes; made = made; one_alone = one_alone }

-- what is said by the rule that refuses a fault line, if there is one
abbrev pub judged_by : {Who : Type 0} → Option Rule → FaultLine Who → Struck Who
judged_by None line = strikes line
judged_by (Some rule) line = broken rule

-- what is said by an answer
abbrev pub struck_by : {Who : Type 0} → FaultSays Who → Struck Who
struck_by Nothing = skipped
struck_by (Strikes line) = strikes line
struck_by (Broken rule) = broken rule

-- the faults of the lines that the reader looks at: of the one that has a byte past the largest size, none is kept
abbrev pub faults_read : {Who Fault : Type 0} → Targets Who Fault → List ℕ → FaultList Fault
faults_read t text = faults_from t no_fault 1 (lines_at LARGEST_READ LONGEST_FAULT_LINE text 0)
