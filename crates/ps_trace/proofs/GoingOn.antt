-- How far an item takes a reader.
use Rattle.std.proofs.Common.{◌≤◌, arith}
use Rattle.ps_trace.specs.Reading.{GoesOn, place_of}
use Rattle.ps_trace.specs.declared.trace.TraceReader.{TraceReader}
use Rattle.ps_trace.specs.declared.trace.Next.{Next}
use Rattle.ps_trace.specs.declared.trace.Next.TheVariants.{Scan, Restart, End}

-- also from an earlier place
pub goes_on_from : (next : Next) (old mid new : TraceReader) → place_of old ≤ place_of mid → GoesOn next mid new → GoesOn next old new
goes_on_from Scan old mid new le on = (let ahead = on.0 in omega arith, on.1)
goes_on_from Restart old mid new le on = (let ahead = on.0 in omega arith, on.1)
goes_on_from End old mid new le on = tt
