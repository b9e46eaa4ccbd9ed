-- A scan that is found in what is held, and in what a word means.
use Rattle.std.proofs.Common.{◌≡◌, ◌∙◌, ℕ, Bool, IsTrue, List, Option, Some, None, Result, Ok, Err, inl, inr, refl, subst, sym}
use Rattle.std.specs.Prelude.{IfErr, IfOk, OnOk}
use Rattle.ps_bench_frame.specs.Opening.{Source}
use Rattle.ps_bench_frame.specs.Stopping.{Took, TookSome}
use Rattle.ps_bench_frame.specs.declared.ending.Status.{Status}
use Rattle.ps_bench_frame.specs.declared.ending.Status.TheVariants.{Done}
use Rattle.ps_bench_frame.specs.declared.ending.Stop.{Stop}
use Rattle.ps_bench_frame.specs.declared.ending.Stop.TheVariants.{Unwritten}
use Rattle.ps_model.proofs.Runs.{has_one_meaning}
use Rattle.ps_model.specs.Meaning.{Meaning}
use Rattle.ps_model.specs.Network.{Network}
use Rattle.ps_model.specs.Scanning.{State}
use Rattle.ps_model.specs.Sound.{IsSound}
use Rattle.ps_model.specs.declared.channel.Fault.{Fault}
use Rattle.ps_bench_why.specs.Looking.{IsLast, IsLook}
use Rattle.ps_bench_why.specs.Scanned as scanned
use Rattle.ps_bench_why.specs.Scanned.{Scanned, last_upto}
use Rattle.ps_bench_why.specs.declared.walker.Walker.{Walker}
use Rattle.ps_trace.specs.Scans.{Scans, scans_of}
use Rattle.ps_bench_trace.specs.Playing.{IsPlay}
use Rattle.ps_bench_why.specs.declared.walker.LastScan.{LastScan}
use Rattle.ps_parser.specs.Tree.{SourceTree}
use Rattle.ps_bench_frame.specs.Sourcing.{IsSourceOf}
use Rattle.ps_bench_names.specs.Names.{name_of}
use Rattle.ps_bench_names.specs.declared.name.Name.{Name}
use Rattle.ps_bench_why.specs.Asking.{AnswersIn, IsFoundAt, IsTold, Wanted}
use Rattle.ps_bench_why.specs.Reasoned.{IsReasoned, question_of}
use Rattle.ps_bench_why.specs.Walked.{WalksHeld, WalksWord}

-- what holds where a call was done
pub of_done : {A E P : Type 0} (r : Result A E) (v : A) → r ≡ Ok v → OnOk r P → P
of_done (Ok w) v is holds = holds
of_done (Err stop) v is holds = cc

-- what is kept is so of the scan that is found in the trace that is held
pub held_walked : (net : Network) → IsSound net → (held : Option (List ℕ)) (text : List ℕ) (left : Scans) (time : ℕ) (w : Walker) →
    held ≡ Some text → left ≡ scans_of text net →
    ((states : List State) → Meaning net left.items states → IsLast net (last_upto time (scanned.scans_of left.items states)) w) →
    WalksHeld net held time w
held_walked net sound held text left time w is same last =
    let scans = scans_of text net in
    let one = has_one_meaning net sound scans.items in
    let lasts = subst (λ (s : Scans). (states : List State) → Meaning net s.items states →
    IsLast net (last_upto time (scanned.scans_of s.items states)) w) same last in (
      text,
      is,
      last_upto time (scanned.scans_of scans.items one.meaning),
      (one.meaning, one.means, refl),
      lasts one.meaning one.means,
    )

-- what is held where a word stands is what the word means
pub word_walked : (from : Source) (word : List ℕ) (faults : List Fault) (held : Option (List ℕ)) (time : ℕ) (w : Walker) →
    ((trace : List ℕ) → held ≡ Some trace → IsPlay from word trace faults) → WalksHeld from.net held time w → WalksWord from word time w
word_walked from word faults held time w means (trace, is, found, at, last) = (found, (trace, faults, means trace is, at), last)

-- what is told of the scan that is found is told of the scan that a time picks
pub told_found : (from : Source) (app : List ℕ) (wanted : Wanted) (tree : SourceTree) (name : Name) (w : Walker) (times : LastScan) (text : List ℕ) →
    name_of from.net wanted.name ≡ Some name → (IsTrue from.tells → WalksWord from wanted.trace wanted.time w) →
    (IsTrue from.tells → IsSourceOf from.held app tree) → w.last ≡ Some times →
    ((s : Scanned) → IsLook from.net s w → w.last ≡ Some times → IsReasoned from.net tree s (question_of from.net name) wanted.format text) →
    IsTold from app wanted text
told_found from app wanted tree name w times text named walks source last reasoned =
    (name, named, λ tells. there (walks tells) (source tells))
  where
    there : WalksWord from wanted.trace wanted.time w → IsSourceOf from.held app tree →
        (s : Scanned) × IsFoundAt from wanted.trace wanted.time (Some s)
        × (t : SourceTree) × IsSourceOf from.held app t × IsReasoned from.net t s (question_of from.net name) wanted.format text
    there (None, at, none) of = absurd (let same = sym none ∙ last in cc)
    there (Some s, at, look) of = (s, at, tree, of, reasoned s look last)

-- the same by a network that is the one of the source
pub told_by : (net : Network) (from : Source) (app : List ℕ) (wanted : Wanted) (tree : SourceTree) (name : Name) (w : Walker) (times : LastScan) (text : List ℕ) →
    from.net ≡ net → name_of net wanted.name ≡ Some name → (IsTrue from.tells → WalksWord from wanted.trace wanted.time w) →
    (IsTrue from.tells → IsSourceOf from.held app tree) → w.last ≡ Some times →
    ((s : Scanned) → IsLook net s w → w.last ≡ Some times → IsReasoned net tree s (question_of net name) wanted.format text) →
    IsTold from app wanted text
told_by net from app wanted tree name w times text same named walks source last reasoned =
    told_found from app wanted tree name w times text (subst (λ (n : Network). name_of n wanted.name ≡ Some name) (sym same) named) walks source last
    (subst (λ (n : Network). (s : Scanned) → IsLook n s w → w.last ≡ Some times → IsReasoned n tree s (question_of n name) wanted.format text)
    (sym same) reasoned)

-- what came of writing a text that tells of the scan that is found
pub written : (from : Source) (app : List ℕ) (wanted : Wanted) (text : List ℕ) (tells : Bool) (before after : List ℕ) (ended : Result Status Stop) →
    IsTold from app wanted text → IfOk ended (λ status. (status ≡ Done) × Took text tells before after) →
    IfErr ended (λ stop. (stop ≡ Unwritten) × TookSome text tells before after) → AnswersIn from app wanted tells before after ended
written from app wanted text tells before after (Ok status) told all some = inl (text, told, all.0, all.1)
written from app wanted text tells before after (Err stop) told all some = inr (inl (text, told, some.0, some.1))
