-- What a reader of a trace that comes as a stream gives, line by line.
use Rattle.std.specs.Prelude.{◌≡◌, [], ◌∷◌, ◌++◌, ℕ, List, length, if◌then◌else◌}
use Rattle.ps_base.specs.declared.failing.Refusal.{Refusal}
use Rattle.ps_lines.specs.Lines.{Line}
use Rattle.ps_model.specs.Network.{Network}
use Rattle.ps_model.specs.declared.report.Scan.{Scan}
use Rattle.ps_bench_watch.specs.Reading.{held_of, left}
use Rattle.ps_trace.specs.Header.{input_names}
use Rattle.ps_trace.specs.Scans.{header_from, number_after, said_of, scans_from}
use Rattle.ps_trace.specs.Scans.Headed.{fails}
use Rattle.ps_bench_watch.specs.Coming.{told_number}
use Rattle.ps_bench_watch.specs.Saying.{IsBroken, Says, told}
use Rattle.ps_bench_watch.specs.Streaming.{scans_in}
use Rattle.ps_bench_watch.specs.declared.feed.Fed.{Fed}
use Rattle.ps_bench_watch.specs.declared.feed.Fed.TheVariants.{Nothing, Restart, Scan as AScan, End}
use Rattle.ps_bench_watch.specs.declared.feed.Feed.{Feed}

-- how many inputs a scan has
abbrev pub inputs_of_feed : Feed → ℕ
inputs_of_feed feed = length feed.places.items

-- the time of the last scan, and 0 before the first
abbrev pub last_of : Feed → ℕ
last_of feed = feed.last

-- the bytes that were read and of which no line came
abbrev pub waiting : Feed → List ℕ
waiting feed = held_of feed.lines

-- the lines that are left, where these bytes are still to come
abbrev pub lines_left : Feed → List ℕ → List Line
lines_left feed coming = if feed.ended then [] else left feed.lines coming

-- So many lines of these were read, the header among them, and the others are left.
pub record IsBehind (net : Network) (lines : List Line) (feed : Feed) (rest : List Line) : Type 0 where
  pub done : List Line
  pub number : ℕ
  pub split : lines ≡ done ++ rest
  pub shown : feed.number ≡ told_number number
  -- whatever comes, its items are those of the lines after
  pub goes_on : (more : List Line) → scans_in (done ++ more) net ≡ scans_from feed.places.items number feed.last more

-- these lines have no header, and this is told
pub record IsHeadless (net : Network) (lines : List Line) (refusal : Refusal) : Type 0 where
  pub cause : Refusal
  pub fails_so : header_from (input_names net) 1 lines ≡ fails cause
  pub told_so : refusal ≡ told cause

-- The first of these lines came, and the rest is left.
pub record Comes (fed : Fed) (old new : Feed) (before after : Scan) (lines rest : List Line) : Type 0 where
  pub line : Line
  pub first : lines ≡ line ∷ rest
  pub says : Says fed old.places.items old.last new.last before after (said_of (length old.places.items) old.last line)
  pub shown : (number : ℕ) → old.number ≡ told_number number → new.number ≡ told_number (number_after line number)

-- The next line came, or there is none.
abbrev pub Gives : Fed → Feed → Feed → Scan → Scan → (lines rest : List Line) → Type 0
Gives Nothing old new before after lines rest = Comes Nothing old new before after lines rest
Gives Restart old new before after lines rest = Comes Restart old new before after lines rest
Gives AScan old new before after lines rest = Comes AScan old new before after lines rest
Gives End old new before after lines rest = (lines ≡ []) × (after ≡ before)

-- The first of these lines is refused, and this is told.
pub record Breaks (feed : Feed) (lines : List Line) (refusal : Refusal) : Type 0 where
  pub line : Line
  pub more : List Line
  pub first : lines ≡ line ∷ more
  pub is_broken : IsBroken (length feed.places.items) feed.last feed.number line refusal
