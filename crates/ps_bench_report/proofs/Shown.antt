-- Cases that are shown, after others, and the text of the pages in which they are.
use Rattle.std.proofs.Common.{◌≡◌, ◌∙◌, ◌+◌, ℕ, suc, IsTrue, List, [], ◌∷◌, ◌++◌, length, refl, ap, subst, sym, append_assoc, arith}
use Rattle.std.proofs.lemmas.Grind.{flat_map-append}
use Rattle.std.proofs.lemmas.List.{append-nil}
use Rattle.ps_bench_report.specs.CaseRows.{case_row}
use Rattle.ps_bench_frame.specs.Opening.{Source}
use Rattle.ps_cover.specs.declared.cover.Cover.{Cover}
use Rattle.ps_model.specs.Network.{Network}
use Rattle.ps_bench_report.proofs.Adding.{adds_behind}
use Rattle.ps_bench_report.proofs.Covering.{covered_behind, none_covered}
use Rattle.ps_bench_report.specs.Covered.{CoversCases}
use Rattle.ps_bench_report.specs.Digests.{AreDigests, IsDigest, file_rows}
use Rattle.ps_bench_report.specs.Files.{file_row}
use Rattle.ps_bench_report.specs.Known.{IsReadBack}
use Rattle.ps_bench_report.specs.Paged.{Adds, OnWhole, Paged}
use Rattle.ps_bench_report.specs.Results.{cases_rows, files_rows}
use Rattle.ps_bench_report.specs.Running.{ShowsCases, ShowsFiles}
use Rattle.ps_bench_report.specs.Sections.{HasSection, HaveFileSections, HaveSections, cases_of}
use Rattle.ps_bench_report.specs.Writing.{piece_text, written}
use Rattle.ps_bench_report.specs.declared.page.Piece.{Piece}
use Rattle.ps_bench_report.specs.declared.running.Pages.{Pages}
use Rattle.ps_bench_test.specs.Testing.{FileRan, tally_of, tally_of_files}
use Rattle.ps_bench_test.specs.Outcome.{Ran, counted, passes}
use Rattle.ps_bench_test.specs.declared.outcome.Tally.{Tally}

-- parts after others
sections_behind : (place : ℕ) (rs ss : List Ran) (before middle after : List Piece) →
    HaveSections IsReadBack place rs before middle → HaveSections IsReadBack place ss middle after → HaveSections IsReadBack place (rs ++ ss) before after
sections_behind place [] ss before middle after first second =
    subst (λ (x : List Piece). HaveSections IsReadBack place ss x after) first second
sections_behind place (r ∷ rs) ss before middle after first second =
    (first.0, first.1, sections_behind place rs ss first.0 middle after first.2 second)

-- no case
pub none_shown : (net : Network) (place : ℕ) (pages : Pages) → ShowsCases net place [] pages pages
none_shown net place pages = record {
  in_front = refl;
  in_rows = λ whole. (whole, sym (append-nil pages.rows.pieces));
  in_parts = λ whole. (whole, refl);
  tally = refl;
  covers = none_covered net pages.cover;
}

-- one case
pub one_shown : (place : ℕ) (r : Ran) (old : Pages) (rows sections : Paged) (cover : Cover) → Adds old.rows rows (case_row r) →
    OnWhole old.sections sections (HasSection IsReadBack place r) → CoversCases r.net (r ∷ []) old.cover cover →
    (tally : Tally) → tally ≡ counted old.tally (passes r.outcome) →
    ShowsCases r.net place (r ∷ []) old (record { front = old.front; rows = rows; sections = sections; tally = tally; cover = cover })
one_shown place r old rows sections cover row part covers tally counts = record {
  in_front = refl;
  in_rows = λ whole.
      let is = row whole in
      (is.0, is.1 ∙ ap (λ (t : List Piece). old.rows.pieces ++ t) (sym (append-nil (case_row r))));
  in_parts = λ whole.
      let is = part whole in
      (is.0, (sections.pieces, is.1, refl));
  tally = counts;
  covers = covers;
}

-- rows and parts after others
rows_behind : (rs ss : List Ran) (old mid new : Paged) → Adds old mid (cases_rows rs) → Adds mid new (cases_rows ss) →
    Adds old new (cases_rows (rs ++ ss))
rows_behind rs ss old mid new first second =
    subst (λ (p : List Piece). Adds old new p) (sym (flat_map-append case_row rs ss))
    (adds_behind old mid new (cases_rows rs) (cases_rows ss) first second)

parts_behind : (place : ℕ) (rs ss : List Ran) (old mid new : Paged) → OnWhole old mid (HaveSections IsReadBack place rs) → OnWhole mid new (HaveSections IsReadBack place ss) →
    OnWhole old new (HaveSections IsReadBack place (rs ++ ss))
parts_behind place rs ss old mid new first second = λ whole.
    let two = second whole in
    let one = first two.0 in
    (one.0, sections_behind place rs ss old.pieces mid.pieces new.pieces one.1 two.1)

-- those of files after others
file_sections_behind : (place next : ℕ) (fs gs : List FileRan) (before middle after : List Piece) → next ≡ place + length fs →
    HaveFileSections IsReadBack place fs before middle → HaveFileSections IsReadBack next gs middle after → HaveFileSections IsReadBack place (fs ++ gs) before after
file_sections_behind place next [] gs before middle after is first second =
    let same : next ≡ place = omega (arith, is) in
    subst (λ (n : ℕ). HaveFileSections IsReadBack n gs before after) same (subst (λ (x : List Piece). HaveFileSections IsReadBack next gs x after) first second)
file_sections_behind place next (f ∷ fs) gs before middle after is first second =
    (first.0, first.1, file_sections_behind (suc place) next fs gs first.0 middle after (omega (arith, is)) first.2 second)

files_behind : (place next : ℕ) (fs gs : List FileRan) (old mid new : Paged) → next ≡ place + length fs → OnWhole old mid (HaveFileSections IsReadBack place fs) →
    OnWhole mid new (HaveFileSections IsReadBack next gs) → OnWhole old new (HaveFileSections IsReadBack place (fs ++ gs))
files_behind place next fs gs old mid new is first second = λ whole.
    let two = second whole in
    let one = first two.0 in
    (one.0, file_sections_behind place next fs gs old.pieces mid.pieces new.pieces is one.1 two.1)

tally_behind : (t : Tally) (rs ss : List Ran) → tally_of t (rs ++ ss) ≡ tally_of (tally_of t rs) ss
tally_behind t [] ss = refl
tally_behind t (r ∷ rs) ss = tally_behind (counted t (passes r.outcome)) rs ss

-- cases after others
pub shown_behind : (net : Network) (place : ℕ) (rs ss : List Ran) (old mid new : Pages) → ShowsCases net place rs old mid → ShowsCases net place ss mid new →
    ShowsCases net place (rs ++ ss) old new
shown_behind net place rs ss old mid new first second = record {
  in_front = second.in_front ∙ first.in_front;
  in_rows = rows_behind rs ss old.rows mid.rows new.rows first.in_rows second.in_rows;
  in_parts = parts_behind place rs ss old.sections mid.sections new.sections first.in_parts second.in_parts;
  tally = second.tally ∙ ap (λ (t : Tally). tally_of t ss) first.tally ∙ sym (tally_behind old.tally rs ss);
  covers = covered_behind net rs ss old.cover mid.cover new.cover first.covers second.covers;
}

-- what files are named by, after others
digests_behind : (from : Source) (ns ms ds es : List (List ℕ)) → AreDigests from ns ds → AreDigests from ms es → AreDigests from (ns ++ ms) (ds ++ es)
digests_behind from [] ms [] es first second = second
digests_behind from [] ms (d ∷ ds) es first second = absurd first
digests_behind from (n ∷ ns) ms [] es first second = absurd first
digests_behind from (n ∷ ns) ms (d ∷ ds) es first second = (first.0, digests_behind from ns ms ds es first.1 second)

file_rows_behind : (from : Source) (ns ms ds es : List (List ℕ)) → AreDigests from ns ds → file_rows (ns ++ ms) (ds ++ es) ≡ file_rows ns ds ++ file_rows ms es
file_rows_behind from [] ms [] es first = refl
file_rows_behind from [] ms (d ∷ ds) es first = absurd first
file_rows_behind from (n ∷ ns) ms [] es first = absurd first
file_rows_behind from (n ∷ ns) ms (d ∷ ds) es first =
    ap (λ (t : List Piece). file_row n d ++ t) (file_rows_behind from ns ms ds es first.1)
    ∙ sym (append_assoc (file_row n d) (file_rows ns ds) (file_rows ms es))

-- no file
pub none_filed : (from : Source) (place : ℕ) (pages : Pages) → ShowsFiles from place [] [] pages pages
none_filed from place pages = record {
  digests = [];
  named = tt;
  in_front = λ whole. (whole, sym (append-nil pages.front.pieces));
  in_rows = λ whole. (whole, sym (append-nil pages.rows.pieces));
  in_parts = λ whole. (whole, refl);
  tally = refl;
  covers = none_covered from.net pages.cover;
}

-- one file, after whose row its cases are shown
pub one_filed : (from : Source) (place : ℕ) (name : List ℕ) (f : FileRan) (digest : List ℕ) (old : Pages) (front : Paged) (new : Pages) →
    IsDigest from name digest → Adds old.front front (file_row name digest) →
    ShowsCases from.net place f.ran (record { front = front; rows = old.rows; sections = old.sections; tally = old.tally; cover = old.cover }) new →
    ShowsFiles from place (name ∷ []) (f ∷ []) old new
one_filed from place name f digest old front new named row shows = record {
  digests = digest ∷ [];
  named = (named, tt);
  in_front = λ whole.
      let is = row (subst (λ (p : Paged). IsTrue p.whole) shows.in_front whole) in
      (is.0, ap (λ (p : Paged). p.pieces) shows.in_front ∙ is.1 ∙ ap (λ (t : List Piece). old.front.pieces ++ t) (sym (append-nil (file_row name digest))));
  in_rows = subst (λ (rs : List Ran). Adds old.rows new.rows (cases_rows rs)) (sym (append-nil f.ran)) shows.in_rows;
  in_parts = λ whole. let is = shows.in_parts whole in (is.0, (new.sections.pieces, is.1, refl));
  tally = subst (λ (rs : List Ran). new.tally ≡ tally_of old.tally rs) (sym (append-nil f.ran)) shows.tally;
  covers = subst (λ (rs : List Ran). CoversCases from.net rs old.cover new.cover) (sym (append-nil f.ran)) shows.covers;
}

-- files after others
pub filed_behind : (from : Source) (place next : ℕ) (ns ms : List (List ℕ)) (fs gs : List FileRan) (old mid new : Pages) → next ≡ place + length fs → ShowsFiles from place ns fs old mid →
    ShowsFiles from next ms gs mid new → ShowsFiles from place (ns ++ ms) (fs ++ gs) old new
filed_behind from place next ns ms fs gs old mid new is first second =
    let same : cases_of (fs ++ gs) ≡ cases_of fs ++ cases_of gs = flat_map-append (λ (f : FileRan). f.ran) fs gs in
    record {
      digests = first.digests ++ second.digests;
      named = digests_behind from ns ms first.digests second.digests first.named second.named;
      in_front = subst (λ (p : List Piece). Adds old.front new.front p) (sym (file_rows_behind from ns ms first.digests second.digests first.named))
          (adds_behind old.front mid.front new.front (file_rows ns first.digests) (file_rows ms second.digests) first.in_front second.in_front);
      in_rows = subst (λ (rs : List Ran). Adds old.rows new.rows (cases_rows rs)) (sym same)
          (rows_behind (cases_of fs) (cases_of gs) old.rows mid.rows new.rows first.in_rows second.in_rows);
      in_parts = files_behind place next fs gs old.sections mid.sections new.sections is first.in_parts second.in_parts;
      tally = second.tally ∙ ap (λ (t : Tally). tally_of t (cases_of gs)) first.tally ∙ sym (tally_behind old.tally (cases_of fs) (cases_of gs))
          ∙ ap (tally_of old.tally) (sym same);
      covers = subst (λ (rs : List Ran). CoversCases from.net rs old.cover new.cover) (sym same)
          (covered_behind from.net (cases_of fs) (cases_of gs) old.cover mid.cover new.cover first.covers second.covers);
    }

-- the rows of files are those of their cases
pub rows_of_cases : (fs : List FileRan) → cases_rows (cases_of fs) ≡ files_rows fs
rows_of_cases [] = refl
rows_of_cases (f ∷ fs) =
    flat_map-append case_row f.ran (cases_of fs) ∙ ap (λ (t : List Piece). cases_rows f.ran ++ t) (rows_of_cases fs)

-- the total of files is that of their cases
pub tally_of_cases : (t : Tally) (fs : List FileRan) → tally_of t (cases_of fs) ≡ tally_of_files t fs
tally_of_cases t [] = refl
tally_of_cases t (f ∷ fs) = tally_behind t f.ran (cases_of fs) ∙ tally_of_cases (tally_of t f.ran) fs

-- pieces after others, in a text
pub text_behind : (ps qs : List Piece) (text text' : List ℕ) → text ≡ written ps → text' ≡ text ++ written qs →
    text' ≡ written (ps ++ qs)
text_behind ps qs text text' first second =
    second ∙ ap (λ (t : List ℕ). t ++ written qs) first ∙ sym (flat_map-append piece_text ps qs)

-- the same pages, one after another
pub pages_behind : (p q r s t : List Piece) → (((p ++ q) ++ r) ++ s) ++ t ≡ p ++ q ++ r ++ s ++ t
pages_behind p q r s t = simp append_assoc
