-- Of the cases of files that tell what they hold all is known.
use Rattle.std.proofs.Common.{◌≡◌, ◌++◌, ℕ, suc, Bool, IsTrue, List, [], ◌∷◌, Result, Ok, IfOk, inl, inr, sym, subst}
use Rattle.std.specs.List.{AllByRecursion}
use Rattle.ps_accepted.specs.Source.{Resolves}
use Rattle.ps_bench_cases.proofs.LegibleFiles.{cases_legible}
use Rattle.ps_bench_cases.specs.Alone.{alone}
use Rattle.ps_bench_cases.specs.File.{cases_of as file_of}
use Rattle.ps_bench_cases.specs.Legible.{IsLegible}
use Rattle.ps_bench_cases.specs.declared.case.Case.{Case}
use Rattle.ps_bench_cases.specs.declared.case.CaseFile.{CaseFile}
use Rattle.ps_bench_cases.specs.declared.rule.CaseRefusal.{CaseRefusal}
use Rattle.ps_bench_frame.specs.Opening.{IsOfApp, Source}
use Rattle.ps_bench_report.proofs.Alone.{cases_legible_alone}
use Rattle.ps_bench_report.proofs.InputNames.{all_both, header_short, inputs_seen}
use Rattle.ps_bench_report.specs.Covered.{IsCoverageOf, IsMeant}
use Rattle.ps_bench_report.specs.Digests.{AreDigests}
use Rattle.ps_bench_report.specs.Known.{IsKnown, IsReadBack}
use Rattle.ps_bench_report.specs.Sections.{HasDiagram, HasSection, HaveFileSections, HaveSections, cases_of}
use Rattle.ps_bench_report.specs.declared.page.Piece.{Piece}
use Rattle.ps_bench_test.specs.Outcome.{Ran}
use Rattle.ps_bench_test.specs.Testing.{AreRan, AreRanFiles, FileRan}
use Rattle.ps_model.specs.Network.{Network}
use Rattle.ps_model.specs.Scanning.{State}
use Rattle.ps_model.specs.declared.channel.ImageSizes.{ImageSizes}
use Rattle.ps_parser.specs.Tree.{SourceTree}

-- ---- The trace of each case is read as it was written.

ran_back : (net : Network) (app name : List ℕ) (file : CaseFile) (cs : List Case) (rs : List Ran) →
    AllByRecursion (λ (c : Case). IsLegible net (alone file c)) cs → AreRan net app name file cs rs → AllByRecursion IsReadBack rs
ran_back net app name file [] [] legible ran = tt
ran_back net app name file [] (r ∷ rs) legible ran = absurd ran
ran_back net app name file (c ∷ cs) [] legible ran = absurd ran
ran_back net app name file (c ∷ cs) (r ∷ rs) legible ran = (
  subst (λ (n : Network). IsLegible n (alone r.file r.case)) (sym ran.0.net_is)
      (subst (λ (f : CaseFile). IsLegible net (alone f r.case)) (sym ran.0.file_is)
      (subst (λ (d : Case). IsLegible net (alone file d)) (sym ran.0.case_is) legible.0)),
  ran_back net app name file cs rs legible.1 ran.1,
)

file_back : (net : Network) (sizes : ImageSizes) (app text name said : List ℕ) (file : CaseFile) (rs : List Ran) → Resolves text net →
    file_of net sizes said ≡ Ok file → AreRan net app name file file.cases rs → AllByRecursion IsReadBack rs
file_back net sizes app text name said file rs resolves is ran =
    let legible : IfOk (file_of net sizes said) (IsLegible net) = cases_legible net sizes said (inputs_seen text net resolves) (header_short text net resolves) in
    ran_back net app name file file.cases rs (cases_legible_alone net file (subst (λ (r : Result CaseFile CaseRefusal). IfOk r (IsLegible net)) is legible)) ran

module _ (from : Source) (app : List ℕ) (tells : IsTrue from.tells) where
  files_back : (text : List ℕ) → Resolves text from.net → (names digests : List (List ℕ)) (fs : List FileRan) → AreDigests from names digests →
      AreRanFiles from app names fs → AllByRecursion IsReadBack (cases_of fs)
  files_back text resolves [] digests [] named ran = tt
  files_back text resolves [] digests (f ∷ fs) named ran = absurd ran
  files_back text resolves (name ∷ names) digests [] named ran = absurd ran
  files_back text resolves (name ∷ names) [] (f ∷ fs) named ran = absurd named
  files_back text resolves (name ∷ names) (digest ∷ digests) (f ∷ fs) named ran =
      let held = named.0 tells in
      all_both IsReadBack f.ran (cases_of fs)
      (file_back from.net from.sizes app text name held.0 f.file f.ran resolves (ran.0.of_text tells held.0 held.1) ran.0.ran)
      (files_back text resolves names digests fs named.1 ran.1)

pub all_back : (from : Source) (app : List ℕ) (names digests : List (List ℕ)) (fs : List FileRan) → IsOfApp from app → AreDigests from names digests →
    AreRanFiles from app names fs → IsTrue from.tells → AllByRecursion IsReadBack (cases_of fs)
all_back from app names digests fs of named ran tells =
    let is = of tells in
    files_back from app tells is.0 is.2.0 names digests fs named ran

-- ---- So what is told of cases whose traces are read so is told of all.

module _ (tells : Bool) where
  back_if : (r : Ran) → (IsTrue tells → IsReadBack r) → IsKnown tells r → IsReadBack r
  back_if r back (inl told) = back told
  back_if r back (inr is) = is

  diagram_known : (place : ℕ) (r : Ran) (before after : List Piece) → (IsTrue tells → IsReadBack r) → HasDiagram IsReadBack place r before after → HasDiagram (IsKnown tells) place r before after
  diagram_known place r before after back (inl drawn) =
      inl (record { recording = drawn.recording; is_of = λ known. drawn.is_of (back_if r back known); shows = drawn.shows })
  diagram_known place r before after back (inr none) = inr ((λ known. none.0 (back_if r back known)), none.1)

  section_known : (place : ℕ) (r : Ran) (before after : List Piece) → (IsTrue tells → IsReadBack r) → HasSection IsReadBack place r before after → HasSection (IsKnown tells) place r before after
  section_known place r before after back section =
      record { drawn = section.drawn; diagram = diagram_known place r _ section.drawn back section.diagram; is = section.is }

  sections_known : (place : ℕ) (rs : List Ran) (before after : List Piece) → (IsTrue tells → AllByRecursion IsReadBack rs) → HaveSections IsReadBack place rs before after →
      HaveSections (IsKnown tells) place rs before after
  sections_known place [] before after back sections = sections
  sections_known place (r ∷ rs) before after back sections = (
    sections.0,
    section_known place r before sections.0 (λ told. (back told).0) sections.1,
    sections_known place rs sections.0 after (λ told. (back told).1) sections.2,
  )

  back_first : (rs ss : List Ran) → AllByRecursion IsReadBack (rs ++ ss) → AllByRecursion IsReadBack rs
  back_first [] ss all = tt
  back_first (r ∷ rs) ss all = (all.0, back_first rs ss all.1)

  back_rest : (rs ss : List Ran) → AllByRecursion IsReadBack (rs ++ ss) → AllByRecursion IsReadBack ss
  back_rest [] ss all = all
  back_rest (r ∷ rs) ss all = back_rest rs ss all.1

  pub files_known : (place : ℕ) (fs : List FileRan) (before after : List Piece) → (IsTrue tells → AllByRecursion IsReadBack (cases_of fs)) →
      HaveFileSections IsReadBack place fs before after → HaveFileSections (IsKnown tells) place fs before after
  files_known place [] before after back sections = sections
  files_known place (f ∷ fs) before after back sections = (
    sections.0,
    sections_known place f.ran before sections.0 (λ told. back_first f.ran (cases_of fs) (back told)) sections.1,
    files_known (suc place) fs sections.0 after (λ told. back_rest f.ran (cases_of fs) (back told)) sections.2,
  )

  meant_known : (states : Ran → List State) (rs : List Ran) → (IsTrue tells → AllByRecursion IsReadBack rs) → AllByRecursion (IsMeant (IsKnown tells) states) rs →
      AllByRecursion (IsMeant IsReadBack states) rs
  meant_known states [] back meant = tt
  meant_known states (r ∷ rs) back meant = (
    record { is_known = back_if r (λ told. (back told).0) meant.0.is_known; means = meant.0.means },
    meant_known states rs (λ told. (back told).1) meant.1,
  )

  pub coverage_known : (net : Network) (tree : SourceTree) (rs : List Ran) (text : List ℕ) → (IsTrue tells → AllByRecursion IsReadBack rs) →
      IsCoverageOf IsReadBack net tree rs text → IsCoverageOf (IsKnown tells) net tree rs text
  coverage_known net tree rs text back (rows, are, said) = (rows, are, λ states meant. said states (meant_known states rs back meant))
