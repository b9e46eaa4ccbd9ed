-- What `sum` writes of files of counts, and how it stops.
use Rattle.std.specs.Prelude.{◌≡◌, ◌⊎◌, ℕ, ◌+◌, Bool, IsTrue, List, [], ◌∷◌, Option, Some, Result, Ok, Err, sum}
use Rattle.ps_bench_frame.specs.Ending.{IsUnread}
use Rattle.ps_bench_frame.specs.Refusing.{sum_refused_line}
use Rattle.ps_bench_frame.specs.Stopping.{Took, TookNothing, TookSome}
use Rattle.ps_bench_frame.specs.declared.ending.InputStop.TheVariants.{SumRefused}
use Rattle.ps_bench_frame.specs.declared.ending.Status.{Status}
use Rattle.ps_bench_frame.specs.declared.ending.Status.TheVariants.{Done, Usage}
use Rattle.ps_bench_frame.specs.declared.ending.Stop.{Stop}
use Rattle.ps_bench_frame.specs.declared.ending.Stop.TheVariants.{Input, Unwritten, NoMemory}
use Rattle.ps_model.specs.Meaning.{Item}
use Rattle.ps_model.specs.Network.{Network}
use Rattle.ps_bench_trials.specs.Files.{IsRefused, IsSum}
use Rattle.ps_bench_trials.specs.Sums.{text_of}
use Rattle.ps_bench_trials.specs.Totals.{totals_text}
use Rattle.ps_bench_trials.specs.declared.refusal.SumRefusal.{SumRefusal}
use Rattle.ps_bench_trials.specs.declared.summing.Totals.{Totals}
use Rattle.ps_bench_campaign.specs.Campaigns.{campaign}
use Rattle.ps_bench_trials.specs.declared.drawing.Room.{Room}
use Rattle.ps_world.specs.Worlds.{Machines}

-- What `sum` answers of these files: the text of what they tell together was written; or no file is named.
abbrev pub AnswersSum : (names : List (List ℕ)) → (reading : Bool) (held : List ℕ → Option (List ℕ)) →
    (tells : Bool) → (before after : List ℕ) → Status → Type 0
AnswersSum names reading held tells before after status =
    ((total : Totals) × (IsTrue reading → IsSum held names total) × (status ≡ Done)
    × Took (text_of total) tells before after)
    ⊎ ((names ≡ []) × (status ≡ Usage) × TookNothing tells before after)

-- a call stops at this refusal: its line was written, or a beginning of it
abbrev pub RefusedBy : SumRefusal → (tells : Bool) → (before after : List ℕ) → Stop → Type 0
RefusedBy refusal tells before after stop =
    ((stop ≡ Input (SumRefused refusal)) × Took (sum_refused_line refusal) tells before after)
    ⊎ (((stop ≡ Unwritten) ⊎ (stop ≡ NoMemory)) × TookSome (sum_refused_line refusal) tells before after)

-- How `sum` stops: at a file that is refused; in what it writes; or, before anything was written, where a file cannot be
-- read or memory runs out.
abbrev pub StopsSum : (names : List (List ℕ)) → (reading : Bool) (held : List ℕ → Option (List ℕ)) →
    (tells : Bool) → (before after : List ℕ) → Stop → Type 0
StopsSum names reading held tells before after stop =
    ((refusal : SumRefusal) × (IsTrue reading → IsRefused held names refusal)
    × RefusedBy refusal tells before after stop)
    ⊎ ((total : Totals) × (IsTrue reading → IsSum held names total) × (stop ≡ Unwritten)
    × TookSome (text_of total) tells before after)
    ⊎ ((IsUnread stop ⊎ (stop ≡ NoMemory)) × TookNothing tells before after)

-- what `sum` answers of files, or how it stops
abbrev pub AnswersNames : (names : List (List ℕ)) → (reading : Bool) (held : List ℕ → Option (List ℕ)) →
    (tells : Bool) → (before after : List ℕ) → Result Status Stop → Type 0
AnswersNames names reading held tells before after (Ok status) = AnswersSum names reading held tells before after status
AnswersNames names reading held tells before after (Err stop) = StopsSum names reading held tells before after stop

-- The texts of these names are what campaigns over one trace wrote of so many trials each, the first from this number on
-- and each other one from where the one before it ends.
abbrev pub ArePartsFrom : (held : List ℕ → Option (List ℕ)) → (told : (from count : ℕ) → List ℕ) → (from : ℕ) →
    (names : List (List ℕ)) → (counts : List ℕ) → Type 0
ArePartsFrom held told from [] [] = Unit {0}
ArePartsFrom held told from (name ∷ names) (count ∷ counts) =
    (held name ≡ Some (told from count)) × ArePartsFrom held told (from + count) names counts
ArePartsFrom held told from [] (count ∷ counts) = ⊥
ArePartsFrom held told from (name ∷ names) [] = ⊥

-- what a campaign writes of so many trials from a number on, without its faults
abbrev pub part_text : Network → Machines → List Item → Room → (app trace : List ℕ) → (from count : ℕ) → List ℕ
part_text net m items room app trace from count = totals_text app trace (campaign net m items room from count)

-- Where files are what campaigns wrote of parts of the trials, the text of their sum is what one campaign writes of all.
abbrev pub PartsSumUp : Type 0
PartsSumUp =
    (net : Network) (m : Machines) (items : List Item) (room : Room) (app trace : List ℕ)
    (held : List ℕ → Option (List ℕ)) (from count : ℕ) (counts : List ℕ) (name : List ℕ) (names : List (List ℕ)) →
    ArePartsFrom held (part_text net m items room app trace) from (name ∷ names) (count ∷ counts) →
    (total : Totals) × IsSum held (name ∷ names) total
    × (text_of total ≡ part_text net m items room app trace from (count + sum counts))
