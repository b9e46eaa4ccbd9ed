-- What a step reads of a signal.
use Rattle.std.specs.Prelude.{ℕ, Bool, if◌then◌else◌}
use Rattle.ps_why.specs.declared.fact.Fact.{Fact}
use Rattle.ps_why.specs.declared.fact.Fact.TheVariants.{SignalIs, SignalWas}

-- the fact that a signal has a value in this scan, or had it before the scan
abbrev pub fact_of_signal : (in_this_scan : Bool) → (s : ℕ) → Bool → Fact
fact_of_signal in_this_scan s b = if in_this_scan then SignalIs s b else SignalWas s b
