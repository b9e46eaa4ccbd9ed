-- What a line of a case does after the lines before it, and what they leave. Times are in ms within the case.
use Rattle.std.specs.Prelude.{◌≤◌, ℕ, ◌+◌, ◌-◌, ◌*◌, ◌/◌, max, Bool, ◌||◌, ◌==◌, nat_lt, if◌then◌else◌, length, Some}
use Rattle.std.specs.Prelude.{Result, Ok, Err}
use Rattle.ps_base.specs.declared.limits.TheConstants.{LARGEST_TIME}
use Rattle.ps_model.specs.declared.channel.Fault.{Fault as Strike}
use Rattle.ps_model.specs.declared.channel.ImageSizes.{ImageSizes}
use Rattle.ps_trace.specs.Faults.{is_other, is_same_channel, first_struck, region_size}
use Rattle.ps_bench_cases.specs.declared.limits.TheConstants.{MOST_CASE_FAULTS, MOST_CASE_SCANS}
use Rattle.ps_bench_cases.specs.declared.rule.CaseRule.{CaseRule}
use Rattle.ps_bench_cases.specs.declared.rule.CaseRule.TheVariants.{K4, K5, K6, K7}
use Rattle.ps_bench_cases.specs.declared.case.Act.{Act}
use Rattle.ps_bench_cases.specs.declared.case.Act.TheVariants as act
use Rattle.ps_bench_cases.specs.declared.deed.Deed.{Deed}
use Rattle.ps_bench_cases.specs.declared.deed.Deed.TheVariants.{Set, At, After, Times, For, Until, Restart, Fault, Expect}
use Rattle.ps_bench_cases.specs.declared.stand.Stand.{Stand}

-- `Stand` says how a case stands after some of its lines: when it begins in the expanded trace (`base`), from when on
-- `at` and `until`
-- count (`origin`), the time of the last scan, how many scans it has (`scans`) and the file so far (`made`), how many
-- faults, whom the
-- first one strikes, and of the faults of the next scan the last turn and the first line.

-- So many scans from the last one on, of which the last is at this time: K4 where that is before the last one, or past
-- the latest time
-- in the expanded trace.
abbrev pub scans_to : Stand → (step target count : ℕ) → Result Act CaseRule
scans_to s step target count =
    if nat_lt target s.time || nat_lt LARGEST_TIME (s.base + target) then Err K4
    else Ok (act.Scans record { from = s.time; step = step; upto = target; count = count })

-- one scan at this time
abbrev pub one_scan : Stand → ℕ → Result Act CaseRule
one_scan s target = scans_to s (target - s.time) target 1

-- how many steps it takes to come so far: one at least. A step of 0 counts as 1.
abbrev pub rounds : (step span : ℕ) → ℕ
rounds step span = max ((span + (max step 1 - 1)) / max step 1) 1

-- Scans a step apart, and one at this time. A step of 0 counts as 1.
abbrev pub scans_until : Stand → (step target : ℕ) → Result Act CaseRule
scans_until s step target = scans_to s (max step 1) target (rounds step (target - s.time))

-- a fault may not strike: before the turn of the fault before it, another channel than the first one does, or past its
-- region
abbrev pub strikes_wrongly : ImageSizes → Stand → Strike → Bool
strikes_wrongly sizes s fault =
    nat_lt fault.turn s.turn || is_other is_same_channel s.struck fault.channel
    || nat_lt (region_size sizes fault.channel fault.region) (fault.at + length fault.bytes)

-- a fault of the next scan
abbrev pub fault_settled : ImageSizes → Stand → Strike → Result Act CaseRule
fault_settled sizes s fault =
    if strikes_wrongly sizes s fault then Err K6
    else Ok (act.Fault record {
      scan = s.scans + 1;
      turn = fault.turn;
      channel = fault.channel;
      region = fault.region;
      at = fault.at;
      bytes = fault.bytes;
    })

-- what a line does that asks for this
abbrev pub deed_settled : ImageSizes → Stand → Deed → Result Act CaseRule
deed_settled sizes s Set = Ok act.Set
deed_settled sizes s (At t) = one_scan s (s.origin + t)
deed_settled sizes s (After d) = one_scan s (s.time + d)
deed_settled sizes s (Times step count) = scans_to s step (s.time + count * step) count
deed_settled sizes s (For step span) = scans_until s step (s.time + span)
deed_settled sizes s (Until step t) = scans_until s step (s.origin + t)
deed_settled sizes s Restart = Ok act.Restart
deed_settled sizes s (Fault fault) = fault_settled sizes s fault
deed_settled sizes s (Expect window checks) =
    if s.scans == 0 then Err K5 else Ok (act.Expect record { scan = s.scans; window = window; checks = checks })

-- how many scans it makes
abbrev pub scans_in : Act → ℕ
scans_in (act.Scans pace) = pace.count
scans_in _ = 0

-- how many faults it is
abbrev pub faults_in : Act → ℕ
faults_in (act.Fault fault) = 1
faults_in _ = 0

-- it makes more scans or faults than there may be
abbrev pub is_over : Stand → Act → Bool
is_over s a = nat_lt MOST_CASE_SCANS (s.made + scans_in a) || nat_lt MOST_CASE_FAULTS (s.faults + faults_in a)

-- what a line does, unless it makes too much: K7
abbrev pub unless_over : Stand → Result Act CaseRule → Result Act CaseRule
unless_over s (Err rule) = Err rule
unless_over s (Ok a) = if is_over s a then Err K7 else Ok a

-- what is left of something of the faults of the next scan, after so many scans: 0 where it was made
abbrev pub unless_made : (scans left : ℕ) → ℕ
unless_made scans left = if scans == 0 then left else 0

-- the first of the lines of the faults of the next scan
abbrev pub first_line : (waiting number : ℕ) → ℕ
first_line waiting number = if waiting == 0 then number else waiting

-- how the case stands after a line with this number that does this
abbrev pub stand_after : (number : ℕ) → Stand → Act → Stand
stand_after number s (act.Scans pace) = record {
  base = s.base;
  origin = s.origin;
  time = pace.upto;
  scans = s.scans + pace.count;
  made = s.made + pace.count;
  faults = s.faults;
  struck = s.struck;
  turn = unless_made pace.count s.turn;
  waiting = unless_made pace.count s.waiting;
}
stand_after number s (act.Fault fault) = record {
  base = s.base;
  origin = s.origin;
  time = s.time;
  scans = s.scans;
  made = s.made;
  faults = s.faults + 1;
  struck = Some (first_struck s.struck fault.channel);
  turn = fault.turn;
  waiting = first_line s.waiting number;
}
stand_after number s _ = s

-- a case keeps within the limits so far
pub record IsSmall (s : Stand) : Type 0 where
  pub scans : s.scans ≤ s.made
  pub made : s.made ≤ MOST_CASE_SCANS
  pub faults : s.faults ≤ MOST_CASE_FAULTS
