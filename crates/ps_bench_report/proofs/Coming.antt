-- What comes of a call with an application.
use Rattle.std.proofs.Common.{◌≡◌, ◌≤◌, ◌∙◌, ◌++◌, ◌∷◌, [], ℕ, zero, Bool, IsTrue, List, Any, Option, Some, Result, Ok, Err, inl, inr, refl, ap, subst, arith}
use Rattle.std.proofs.lemmas.Result.{IfErr-weaker}
use Rattle.std.specs.Prelude.{IfErr, IfOk}
use Rattle.ps_bench_cover.specs.Leaving.{Leaves, LeavesOutput, Stays, sides}
use Rattle.ps_bench_frame.proofs.Stopped.{rose_since}
use Rattle.ps_bench_frame.specs.Ending.{IsUnread}
use Rattle.ps_bench_frame.specs.Opening.{IsOfApp, Source, source}
use Rattle.ps_bench_frame.specs.declared.ending.Status.{Status}
use Rattle.ps_bench_frame.specs.declared.ending.Stop.{Stop}
use Rattle.ps_bench_report.specs.declared.page.Piece.{Piece}
use Rattle.ps_model.specs.Network.{Network}
use Rattle.ps_model.specs.declared.channel.ImageSizes.{ImageSizes}
use Rattle.ps_outside.specs.Outside.{Rose}
use Rattle.ps_bench_frame.specs.Sourcing.{IsSourceOf}
use Rattle.ps_bench_trials.specs.Naming.{digest_text}
use Rattle.ps_parser.specs.Tree.{SourceTree}
use Rattle.ps_bench_report.specs.Asking.{AnswersReport, Ends, IsReport, StopsReport, Wanted}
use Rattle.ps_bench_report.specs.Contents.{back_pieces, cases_front, front_pieces, results_front, title_text}
use Rattle.ps_bench_report.specs.Digests.{file_rows}
use Rattle.ps_bench_report.specs.Results.{cases_rows, files_rows}
use Rattle.ps_bench_report.specs.Running.{BeginsPages, EndsPage, MakesPage, ShowsFiles, Subject}
use Rattle.ps_bench_report.specs.Writing.{written}
use Rattle.ps_bench_report.specs.declared.running.Pages.{Pages}
use Rattle.ps_bench_report.specs.Sections.{HaveFileSections, cases_of}
use Rattle.ps_bench_test.proofs.Stopped.{any_behind}
use Rattle.ps_bench_test.specs.Testing.{AreRanFiles, FileRan, tally_of, tally_of_files}
use Rattle.ps_bench_test.specs.Outcome.{none_told}
use Rattle.ps_bench_test.specs.Report.{foot_text}
use Rattle.ps_bench_test.specs.declared.outcome.Tally.{Tally}
use Rattle.ps_bench_words.specs.declared.asking.Format.TheVariants.{Text}
use Rattle.ps_bench_report.proofs.Reading.{le_two}
use Rattle.ps_bench_report.proofs.Covering.{told_of}
use Rattle.ps_bench_report.proofs.Knowing.{all_back, coverage_known, files_known}
use Rattle.ps_bench_report.specs.Known.{IsReadBack}
use Rattle.ps_bench_report.proofs.Shown.{rows_of_cases, tally_of_cases}

-- what was answered of an application, and why the call stopped, by how it ended
pub answered : (net : Network) (sizes : ImageSizes) (wanted : Wanted) (reading : Bool)
    (held : List ℕ → Option (List ℕ)) (tells : Bool) (before after : List ℕ) (ended : Result Status Stop) →
    IsOfApp (source net sizes reading held) wanted.app → Ends (source net sizes reading held) wanted tells before after ended →
    IfOk ended (AnswersReport wanted reading held tells before after)
answered net sizes wanted reading held tells before after (Ok status) of ends = (net, sizes, of, ends)
answered net sizes wanted reading held tells before after (Err stop) of ends = tt

pub stopped : (net : Network) (sizes : ImageSizes) (wanted : Wanted) (reading : Bool)
    (held : List ℕ → Option (List ℕ)) (tells : Bool) (before after : List ℕ) (ended : Result Status Stop) →
    IsOfApp (source net sizes reading held) wanted.app → Ends (source net sizes reading held) wanted tells before after ended →
    IfErr ended (StopsReport wanted reading held tells before after)
stopped net sizes wanted reading held tells before after (Ok status) of ends = tt
stopped net sizes wanted reading held tells before after (Err stop) of ends = inr (net, sizes, of, ends)

-- what is so after a call that changes none of it was so before
pub moved : (P : Source → Bool → List ℕ → Type 0) (net : Network) (sizes : ImageSizes) (r r' : Bool)
    (h h' : List ℕ → Option (List ℕ)) (t t' : Bool) (b b' : List ℕ) → r' ≡ r → h' ≡ h → t' ≡ t → b' ≡ b →
    P (source net sizes r' h') t' b' → P (source net sizes r h) t b
moved P net sizes r r' h h' t t' b b' r_is h_is t_is b_is holds =
    subst (λ (x : Bool). P (source net sizes x h) t b) r_is
    (subst (λ (x : List ℕ → Option (List ℕ)). P (source net sizes r' x) t b) h_is
    (subst (λ (x : Bool). P (source net sizes r' h') x b) t_is
    (subst (λ (x : List ℕ). P (source net sizes r' h') t' x) b_is holds)))

module _ (from : Source) (wanted : Wanted) (tree : SourceTree) (text : List ℕ)
    (of : IsOfApp from wanted.app) (held : IsTrue from.tells → from.held wanted.app ≡ Some text) (of_source : IsTrue from.tells → IsSourceOf from.held wanted.app tree)
    (begun pages : Pages) (begins : BeginsPages from.net wanted.title wanted.app text begun)
    (fs : List FileRan) (ran : AreRanFiles from wanted.app wanted.names fs) (shows : ShowsFiles from 0 wanted.names fs begun pages) where
  abbrev of_app : Subject
  of_app = record { net = from.net; tree = tree; name = wanted.app; source = text }

  -- the rows of the files that were run, and the parts of their cases, stand in the report
  report_is : (page : List ℕ) → MakesPage of_app pages page → IsReport from wanted page
  report_is page makes =
      let front = front_pieces (title_text wanted.title wanted.app) wanted.app (digest_text text) in
      let rows = file_rows wanted.names shows.digests in
      let back = all_back from wanted.app wanted.names shows.digests fs of shows.named ran in
      let in_front = shows.in_front makes.front in
      let in_rows = shows.in_rows makes.rows in
      let in_parts = shows.in_parts makes.sections in
      let front_is : pages.front.pieces ++ results_front ≡ front ++ rows ++ results_front =
      ap (λ (t : List Piece). t ++ results_front) (in_front.1 ∙ ap (λ (t : List Piece). t ++ rows) (begins.front in_front.0)) in
      let rows_are : pages.rows.pieces ≡ files_rows fs =
      in_rows.1 ∙ ap (λ (t : List Piece). t ++ cases_rows (cases_of fs)) begins.rows ∙ rows_of_cases fs in
      let total : foot_text Text pages.tally ≡ foot_text Text (tally_of_files none_told fs) =
      ap (foot_text Text) (shows.tally ∙ ap (λ (t : Tally). tally_of t (cases_of fs)) begins.tally ∙ tally_of_cases none_told fs) in
      record {
        files = fs;
        ran = ran;
        digests = shows.digests;
        named = shows.named;
        sections = pages.sections.pieces;
        drawn = files_known from.tells 0 fs [] pages.sections.pieces back
            (subst (λ (t : List Piece). HaveFileSections IsReadBack 0 fs t pages.sections.pieces) begins.sections in_parts.1);
        source = text;
        held = held;
        tree = tree;
        of_source = of_source;
        told = makes.told;
        are = makes.are;
        coverage = coverage_known from.tells from.net tree (cases_of fs) makes.told.coverage back
            (told_of from.net tree (cases_of fs) begun.cover pages.cover makes.told.coverage begins.whole begins.unseen shows.covers makes.coverage);
        is = makes.is ∙ (λ i. written (front_is i ++ rows_are i ++ cases_front (total i) ++ pages.sections.pieces ++ back_pieces makes.told));
      }

  -- a call ends by the page in which they stand
  pub reported : (tells : Bool) (before after : List ℕ) (ended : Result Status Stop) → EndsPage of_app pages tells before after ended →
      Ends from wanted tells before after ended
  reported tells before after (Ok status) (done, page, makes, took) = (done, page, report_is page makes, took)
  reported tells before after (Err stop) (inl short) = inl short
  reported tells before after (Err stop) (inr (page, makes, stops)) = inr (inr (page, report_is page makes, stops))

-- ---- What a call leaves.

-- the first of several files could not be read
pub unread_first : (reads reads' : List ℕ → ℕ) (app : List ℕ) (names : List (List ℕ)) → Rose (reads app) (reads' app) →
    Any (λ (name : List ℕ). Rose (reads name) (reads' name)) (app ∷ names)
unread_first reads reads' app names rose = (zero, app, omega arith, refl, rose)

-- one of those after the first, by a count that rose before too
pub unread_behind : (reads mid reads' : List ℕ → ℕ) (app : List ℕ) (names : List (List ℕ)) → ((name : List ℕ) → reads name ≤ mid name) →
    Any (λ (name : List ℕ). Rose (mid name) (reads' name)) names → Any (λ (name : List ℕ). Rose (reads name) (reads' name)) (app ∷ names)
unread_behind reads mid reads' app names on some =
    any_behind (λ (name : List ℕ). Rose (reads name) (reads' name)) (λ (name : List ℕ). Rose (mid name) (reads' name))
    (λ name. rose_since (reads name) (mid name) (reads' name) (on name)) app names some

-- one of several
any_since : (reads mid reads' : List ℕ → ℕ) (names : List (List ℕ)) → ((name : List ℕ) → reads name ≤ mid name) →
    Any (λ (name : List ℕ). Rose (mid name) (reads' name)) names → Any (λ (name : List ℕ). Rose (reads name) (reads' name)) names
any_since reads mid reads' names on some =
    (some.0, some.1, some.2, some.3, rose_since (reads some.1) (mid some.1) (reads' some.1) (on some.1) some.4)

pub unread_since : (reads mid reads' : List ℕ → ℕ) (names : List (List ℕ)) (ended : Result Status Stop) →
    ((name : List ℕ) → reads name ≤ mid name) →
    IfErr ended (λ stop. IsUnread stop → Any (λ (name : List ℕ). Rose (mid name) (reads' name)) names) →
    IfErr ended (λ stop. IsUnread stop → Any (λ (name : List ℕ). Rose (reads name) (reads' name)) names)
unread_since reads mid reads' names ended on unread =
    IfErr-weaker ended (λ stop. IsUnread stop → Any (λ (name : List ℕ). Rose (mid name) (reads' name)) names)
    (λ stop. IsUnread stop → Any (λ (name : List ℕ). Rose (reads name) (reads' name)) names)
    (λ stop some is. any_since reads mid reads' names on (some is)) unread

-- a call that reads no file, after others
pub written_behind : {X : Type 0} (R : Type 0) (r r' : Bool) (h h' : List ℕ → Option (List ℕ)) (f f' : List ℕ → ℕ) (t t' t'' : Bool) (w w' w'' : ℕ)
    (ended : Result X Stop) → Stays (sides r h f t w) (sides r' h' f' t' w') → LeavesOutput t' t'' w' w'' ended →
    Leaves R (sides r h f t w) (sides r' h' f' t'' w'') ended
written_behind R r r' h h' f f' t t' t'' w w' w'' ended before leaves = record {
  stays = record {
    reading = before.reading;
    kept = before.kept;
    reads = before.reads;
    telling = leaves.telling ∙ before.telling;
    writes = le_two w w' w'' before.writes leaves.writes;
  };
  unread = IfErr-weaker ended (λ stop. ¬ IsUnread stop) (λ stop. IsUnread stop → R) (λ stop read is. absurd (read is)) leaves.read;
  unwritten = λ is. rose_since w w' w'' before.writes (leaves.unwritten is);
}
