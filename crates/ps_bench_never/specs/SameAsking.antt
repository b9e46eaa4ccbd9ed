-- What `same` writes of two applications and a rules file, and how it stops.
use Rattle.std.specs.Prelude.{◌≡◌, ◌⊎◌, ℕ, Bool, IsTrue, List, ◌∷◌, Option, unwrap_or, Result, Ok, Err}
use Rattle.ps_pairs.specs.Arranging.{IsArranged}
use Rattle.ps_bench_frame.specs.Opening.{IsOfApp, source}
use Rattle.ps_bench_frame.specs.Stopping.{StopsAtApp, Took, TookNothing, TookSome}
use Rattle.ps_bench_frame.specs.declared.ending.Input.TheVariants.{Other, Rules}
use Rattle.ps_bench_frame.specs.declared.ending.InputStop.TheVariants.{OtherRefused, Unlike, Unread}
use Rattle.ps_bench_frame.specs.declared.ending.Status.{Status}
use Rattle.ps_bench_frame.specs.declared.ending.Status.TheVariants.{Usage}
use Rattle.ps_bench_frame.specs.declared.ending.Stop.{Stop}
use Rattle.ps_bench_frame.specs.declared.ending.Stop.TheVariants.{App, Cases, Input, NoMemory, UnreadApp, UnreadCases, Unwritten}
use Rattle.ps_bench_never.specs.declared.comparing.OtherApp.{OtherApp}
use Rattle.ps_bench_never.specs.Asking.{StopsFor, at_least_one, status_by}
use Rattle.ps_model.specs.Network.{Network}
use Rattle.ps_model.specs.declared.channel.ImageSizes.{ImageSizes}
use Rattle.ps_names.specs.Stands.{Stands}
use Rattle.ps_parser.specs.Tree.{SourceTree}
use Rattle.ps_bench_never.specs.SameAnswering.{IsFound, names_of}
use Rattle.ps_bench_never.specs.Likeness.{AreLike}
use Rattle.ps_reach.specs.Comparing.{Two}
use Rattle.ps_bench_never.specs.declared.same_answering.SameFail.{SameFail}
use Rattle.ps_bench_never.specs.declared.same_answering.SameFail.TheVariants.{AnyTimes, Fault, ManyFree, Memory, Refused}
use Rattle.ps_bench_never.specs.declared.same_answering.Told.{Told}
use Rattle.ps_bench_frame.specs.Sourcing.{IsSourceOf}

-- the two applications of these names, of whose pairs of states so many may be held, 1 for 0
abbrev pub two : (net other : Network) → (app other_app : List ℕ) → (states : ℕ) → Two
two net other app other_app states =
    record { net = net; file = app; other = other; other_file = other_app; most = at_least_one states }

-- the files that `same` reads
abbrev pub files_of : (app other : List ℕ) → (rules : Option (List ℕ)) → List (List ℕ)
files_of app other rules = app ∷ other ∷ names_of rules

-- What was found was written, and whether no output differs is the status; without an answer nothing was written, or the
-- line of the refusal of the rules.
abbrev pub EndsBy : Result Told SameFail → (tells : Bool) → (before after : List ℕ) → Result Status Stop → Type 0
EndsBy (Ok told) tells before after ended =
    ((ended ≡ Ok (status_by told.are_same)) × Took told.text tells before after)
    ⊎ ((ended ≡ Err Unwritten) × TookSome told.text tells before after)
EndsBy (Err (Refused refusal)) tells before after ended =
    (stop : Stop) × (ended ≡ Err stop) × StopsFor refusal tells before after stop
EndsBy (Err Fault) tells before after ended = (ended ≡ Err (Input (Unread Rules))) × TookNothing tells before after
EndsBy (Err AnyTimes) tells before after ended = (ended ≡ Ok Usage) × TookNothing tells before after
EndsBy (Err ManyFree) tells before after ended = (ended ≡ Ok Usage) × TookNothing tells before after
EndsBy (Err Memory) tells before after ended = (ended ≡ Err NoMemory) × TookNothing tells before after

-- How a call ends that has both applications: they have not the same inputs and outputs, and nothing was written; or by
-- what is found of them.
abbrev pub EndsOf : Two → (rules : Option (List ℕ)) → (reading : Bool) (held : List ℕ → Option (List ℕ)) → (tells : Bool) →
    (before after : List ℕ) → Result Status Stop → Type 0
EndsOf t rules reading held tells before after ended =
    ((ended ≡ Err (Input Unlike)) × (¬ AreLike t.net t.other) × TookNothing tells before after)
    ⊎ ((found : Result Told SameFail) × AreLike t.net t.other × IsFound t reading held rules found
    × EndsBy found tells before after ended)

-- a stop at an application, which is that of the other one
abbrev pub at_other : Stop → Stop
at_other (App refusal) = Input (OtherRefused refusal)
at_other UnreadApp = Input (Unread Other)
at_other (Cases place refusal) = Cases place refusal
at_other (UnreadCases place) = UnreadCases place
at_other (Input why) = Input why
at_other Unwritten = Unwritten
at_other NoMemory = NoMemory

-- how a call stops that gets no other application of this name
abbrev pub StopsAtOther : (reading : Bool) (held : List ℕ → Option (List ℕ)) → (name : List ℕ) → Stop → (tells : Bool) →
    (before after : List ℕ) → Type 0
StopsAtOther reading held name stop tells before after =
    (at : Stop) × (stop ≡ at_other at) × StopsAtApp reading held name at tells before after

-- the application of this name is that, where it is known
abbrev pub IsApp : (reading : Bool) (held : List ℕ → Option (List ℕ)) → (name : List ℕ) → Network → Type 0
IsApp reading held name net = (sizes : ImageSizes) × IsOfApp (source net sizes reading held) name

-- what stands for the source in the order of the first application, and where nothing does the application as it is
abbrev pub IsInOrder : (first : Network) → SourceTree → (own second : Network) → Type 0
IsInOrder first tree own second = (found : Option Network) × IsArranged first tree found × (second ≡ unwrap_or found own)

-- what the code compares with the first application
abbrev pub second_of : OtherApp → Network
second_of other = unwrap_or other.ordered other.sourced.opened.app

-- What is compared with the first application: the one of this name, with its inputs and outputs in the order of the
-- first.
pub record IsOther (reading : Bool) (held : List ℕ → Option (List ℕ)) (name : List ℕ) (first second : Network) : Type 0 where
  pub own : Network
  pub tree : SourceTree
  pub app : IsApp reading held name own
  pub source : IsTrue reading → IsSourceOf held name tree
  pub stands : Stands tree own
  pub ordered : IsInOrder first tree own second

-- How a call ends that has the first application: it gets no other one, or it has both.
abbrev pub EndsWith : (first : Network) → (app other : List ℕ) → (rules : Option (List ℕ)) → (states : ℕ) → (reading : Bool)
    (held : List ℕ → Option (List ℕ)) → (tells : Bool) → (before after : List ℕ) → Result Status Stop → Type 0
EndsWith first app other rules states reading held tells before after (Ok status) =
    (second : Network) × IsOther reading held other first second
    × EndsOf (two first second app other states) rules reading held tells before after (Ok status)
EndsWith first app other rules states reading held tells before after (Err stop) =
    StopsAtOther reading held other stop tells before after
    ⊎ ((second : Network) × IsOther reading held other first second
    × EndsOf (two first second app other states) rules reading held tells before after (Err stop))

-- What `same` answers of the applications of these names.
abbrev pub AnswersSame : (app other : List ℕ) → (rules : Option (List ℕ)) → (states : ℕ) → (reading : Bool)
    (held : List ℕ → Option (List ℕ)) → (tells : Bool) → (before after : List ℕ) → Status → Type 0
AnswersSame app other rules states reading held tells before after status =
    (first : Network) × IsApp reading held app first
    × EndsWith first app other rules states reading held tells before after (Ok status)

-- How `same` stops before all is done: without the first application, or with it.
abbrev pub StopsSame : (app other : List ℕ) → (rules : Option (List ℕ)) → (states : ℕ) → (reading : Bool)
    (held : List ℕ → Option (List ℕ)) → (tells : Bool) → (before after : List ℕ) → Stop → Type 0
StopsSame app other rules states reading held tells before after stop =
    StopsAtApp reading held app stop tells before after
    ⊎ ((first : Network) × IsApp reading held app first
    × EndsWith first app other rules states reading held tells before after (Err stop))
