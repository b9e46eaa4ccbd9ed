-- What a trial draws: six words of a generator that is seeded with the trial's number, each taken modulo the number of
-- its choices.
use Rattle.std.specs.Prelude.{◌≤◌, ◌<◌, ◌+◌, ◌%◌, ◌==◌, if◌then◌else◌, ℕ, Option, Some, None, max}
use Rattle.rand_core.specs.Steps.{stream_of, steps_u64_high}
use Rattle.rand_core.specs.Stream.{Stream, next_u64}
use Rattle.rand_xoshiro.specs.SplitMix64.{splitmix_seed}
use Rattle.rand_xoshiro.specs.Xoshiro256.{of_seed, plus_plus}
use Rattle.ps_model.specs.declared.channel.Channel.{Channel}
use Rattle.ps_model.specs.declared.channel.Channel.TheVariants.{A, B}
use Rattle.ps_model.specs.declared.channel.ImageSizes.{ImageSizes}
use Rattle.ps_model.specs.declared.channel.Region.{Region}
use Rattle.ps_model.specs.declared.channel.Region.TheVariants.{Code, Cells}
use Rattle.ps_bench_trials.specs.declared.drawing.Room.{Room}
use Rattle.ps_bench_trials.specs.declared.drawing.Trial.{Trial}

-- what xoshiro256++ gives that is seeded with a number
abbrev pub words_of : (number : ℕ) → Stream
words_of number = stream_of (steps_u64_high plus_plus) (of_seed (splitmix_seed 32 number))

-- a number below a count, by a word: the word modulo the count; 0 where the count is 0
abbrev pub below : (word count : ℕ) → ℕ
below word count = word % max count 1

-- the channel that a word draws
abbrev pub channel_by : (word : ℕ) → Channel
channel_by word = if (word % 2) == 0 then A else B

-- the channel that is struck: this one, or the one that a word draws
abbrev pub channel_in : (only : Option Channel) → (word : ℕ) → Channel
channel_in (Some channel) word = channel
channel_in None word = channel_by word

-- the region that a word draws
abbrev pub region_by : (word : ℕ) → Region
region_by word = if (word % 2) == 0 then Code else Cells

-- the length of a region of a channel
abbrev pub room_in : ImageSizes → Channel → Region → ℕ
room_in sizes A Code = sizes.a_code
room_in sizes A Cells = sizes.a_cells
room_in sizes B Code = sizes.b_code
room_in sizes B Cells = sizes.b_cells

-- the bits that a word draws: of code one to eight that are turned, of cells any byte
abbrev pub bits_by : Region → (word : ℕ) → ℕ
bits_by Code word = below word 255 + 1
bits_by Cells word = below word 256

-- the trial that six words draw
abbrev pub drawn : Room → (channel region at bits scan turn : ℕ) → Trial
drawn room channel region at bits scan turn = record {
  channel = channel_in room.channel channel;
  region = region_by region;
  at = below at (room_in room.sizes (channel_in room.channel channel) (region_by region));
  bits = bits_by (region_by region) bits;
  scan = below scan room.scans + 1;
  turn = turn % (room.budget + 1);
}

-- the first six words of a stream draw a trial, in the order channel, region, place, bits, scan and turn
abbrev pub trial_by : Room → Stream → Trial
trial_by room s =
    let s1 = (next_u64 s).1 in
    let s2 = (next_u64 s1).1 in
    let s3 = (next_u64 s2).1 in
    let s4 = (next_u64 s3).1 in
    let s5 = (next_u64 s4).1 in
    drawn room (next_u64 s).0 (next_u64 s1).0 (next_u64 s2).0 (next_u64 s3).0 (next_u64 s4).0 (next_u64 s5).0

-- the trial of a number
abbrev pub trial_of : Room → (number : ℕ) → Trial
trial_of room number = trial_by room (words_of number)

-- What a trial may be: its place is in its region, if that is not empty, some bits of code are turned, its scan is one
-- of the run, if that has any, and its turn is at most one more than the turns of a scan of either channel.
pub record AreInRange (room : Room) (t : Trial) : Type 0 where
  pub at : t.at < max (room_in room.sizes t.channel t.region) 1
  pub scan : (1 ≤ t.scan) × (t.scan ≤ max room.scans 1)
  pub turn : t.turn ≤ room.budget
