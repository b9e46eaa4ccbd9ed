-- What `cover` is asked, what it writes by that, and how it stops.
use Rattle.std.specs.Prelude.{◌≡◌, ◌⊎◌, ℕ, Bool, true, false, IsTrue, List, [], ◌∷◌, ◌++◌, Option, Some, None}
use Rattle.std.specs.Prelude.{Any, map, nat_lt, if◌then◌else◌}
use Rattle.std.specs.List.{list_any}
use Rattle.ps_cover.specs.Applying.{ScanStep}
use Rattle.ps_base.specs.declared.failing.Place.{Place}
use Rattle.ps_bench_frame.specs.Opening.{IsOfApp, Source, source}
use Rattle.ps_bench_frame.specs.Stopping.{StopsAtApp, Took, TookNothing, TookSome}
use Rattle.ps_bench_frame.specs.declared.ending.Status.{Status}
use Rattle.ps_bench_frame.specs.declared.ending.Status.TheVariants.{Done, Failed, Usage}
use Rattle.ps_bench_frame.specs.declared.ending.Stop.{Stop}
use Rattle.ps_bench_frame.specs.declared.ending.Stop.TheVariants.{Unwritten, NoMemory}
use Rattle.ps_cover.specs.Excluding.{AreRows}
use Rattle.ps_cover.specs.declared.excluding.Row.{Row}
use Rattle.ps_cover.specs.declared.tallying.Sort.{Sort}
use Rattle.ps_cover.specs.declared.tallying.Sort.TheVariants.{States, Ways, Values, Decisions}
use Rattle.ps_cover.specs.Seen.{Known, known_by, part_of}
use Rattle.ps_cover.specs.Text.{coverage_text}
use Rattle.ps_cover.specs.declared.format.Format.{Format}
use Rattle.ps_cover.specs.declared.format.Format.TheVariants.{Text, Json}
use Rattle.ps_bench_cover.specs.Ideas.{ideas_text}
use Rattle.ps_model.specs.Network.{Network}
use Rattle.ps_model.specs.declared.channel.ImageSizes.{ImageSizes}
use Rattle.ps_bench_cover.specs.Standing.{places_of}
use Rattle.ps_parser.specs.Tree.{SourceTree}
use Rattle.ps_bench_frame.specs.Sourcing.{IsSourceOf}
use Rattle.ps_bench_trace.specs.Playing.{LacksCase}
use Rattle.ps_bench_cover.specs.Adding.{AreScansAll, StopsAmong}
use Rattle.ps_bench_cover.specs.declared.accounting.Asked.{Asked}

-- What is wanted of an application: the words in the place of traces, how it is written, the least of each percentage,
-- if one is asked for, and whether ideas are told.
pub record Wanted : Type 0 where
  pub traces : List (List ℕ)
  pub format : Format
  pub least : Option ℕ
  pub ideas : Bool

-- of a call
abbrev pub wanted_by : Asked → Wanted
wanted_by asked = record {
  traces = map (λ word. word.now) asked.traces.now;
  format = asked.format;
  least = asked.least;
  ideas = asked.ideas;
}

-- the places of operands are those in the source of the application of this name
abbrev pub ArePlacesOf : Source → (app : List ℕ) → List Place → Type 0
ArePlacesOf from app places = (tree : SourceTree) × IsSourceOf from.held app tree × (places ≡ places_of from.net tree)

-- What is known is what the traces of these words show, each from its first state on; and as excluded counts exactly
-- what is excluded, which no run of its block alone shows.
abbrev pub IsKnown : Source → (app : List ℕ) → (words : List (List ℕ)) → Known → Type 0
IsKnown from app words known =
    IsTrue from.tells → (traces : List (List ScanStep)) × AreScansAll from words traces
    × (rows : List Row) × AreRows from.net rows
    × (places : List Place) × ArePlacesOf from app places
    × (known ≡ known_by from.net rows places traces)

-- a part is less, of one of the four sorts
abbrev pub is_less : Known → (least : ℕ) → Bool
is_less x least = list_any (λ (sort : Sort). nat_lt (part_of x sort) least) (States ∷ Ways ∷ Values ∷ Decisions ∷ [])

-- Failed where a least percentage is asked for and one of the four is less, and else Done
abbrev pub status_of : (least : Option ℕ) → Known → Status
status_of None x = Done
status_of (Some least) x = if is_less x least then Failed else Done

-- ideas for ways that were never taken, where they are asked for; none in JSON
abbrev pub ideas_asked : Bool → Format → Known → List ℕ
ideas_asked true Text x = ideas_text x
ideas_asked true Json x = []
ideas_asked false format x = []

-- all that is told
abbrev pub cover_text : Wanted → Known → List ℕ
cover_text wanted x = coverage_text x wanted.format ++ ideas_asked wanted.ideas wanted.format x

-- What `cover` answers of an application: what is told of what the traces show was written; or a word means a line that
-- is in no case, and nothing was written.
abbrev pub Answered : Source → (app : List ℕ) → Wanted → (tells : Bool) → (before after : List ℕ) → Status → Type 0
Answered from app wanted tells before after status =
    ((known : Known) × IsKnown from app wanted.traces known × (status ≡ status_of wanted.least known)
    × Took (cover_text wanted known) tells before after)
    ⊎ ((status ≡ Usage) × Any (LacksCase from) wanted.traces × TookNothing tells before after)

-- How it stops with its application: at one of its traces, before anything was written; in what is told of them; or for
-- running out of memory, and nothing was written.
abbrev pub StopsIn : Source → (app : List ℕ) → Wanted → (tells : Bool) → (before after : List ℕ) → Stop → Type 0
StopsIn from app wanted tells before after stop =
    StopsAmong from wanted.traces stop tells before after
    ⊎ ((known : Known) × IsKnown from app wanted.traces known × (stop ≡ Unwritten)
    × TookSome (cover_text wanted known) tells before after)
    ⊎ ((stop ≡ NoMemory) × TookNothing tells before after)

-- What `cover` answers of the application of this name.
abbrev pub AnswersCover : (app : List ℕ) → Wanted → (reading : Bool) (held : List ℕ → Option (List ℕ)) →
    (tells : Bool) → (before after : List ℕ) → Status → Type 0
AnswersCover app wanted reading held tells before after status =
    (net : Network) × (sizes : ImageSizes) × IsOfApp (source net sizes reading held) app
    × Answered (source net sizes reading held) app wanted tells before after status

-- How `cover` stops before all is done: without the application of this name, or with it.
abbrev pub StopsCover : (app : List ℕ) → Wanted → (reading : Bool) (held : List ℕ → Option (List ℕ)) →
    (tells : Bool) → (before after : List ℕ) → Stop → Type 0
StopsCover app wanted reading held tells before after stop =
    StopsAtApp reading held app stop tells before after
    ⊎ ((net : Network) × (sizes : ImageSizes) × IsOfApp (source net sizes reading held) app
    × StopsIn (source net sizes reading held) app wanted tells before after stop)
