-- Cases and files that were run, one more after others.
use Rattle.std.proofs.Common.{◌≡◌, ℕ, Bool, true, false, List, [], ◌∷◌, ◌++◌, refl, ap, sym, ◌∙◌, append_assoc, length, arith, nat_eq, ◌&&◌, ◌+◌, ◌<◌, take, get_or, Bor}
use Rattle.std.specs.List.{list_all}
use Rattle.std.proofs.lemmas.Bool.Decides.{nat_tests}
use Rattle.std.proofs.lemmas.List.{append-nil, map-append, take_more}
use Rattle.ps_bench_words.specs.Seen.{seen}
use Rattle.ps_bench_words.specs.declared.asking.Format.{Format}
use Rattle.ps_bench_cases.specs.declared.case.Case.{Case}
use Rattle.ps_bench_cases.specs.declared.case.CaseFile.{CaseFile}
use Rattle.ps_model.specs.Network.{Network}
use Rattle.ps_bench_test.specs.Outcome.{Ran, passes}
use Rattle.ps_bench_test.specs.Report.{case_text}
use Rattle.ps_bench_test.specs.Outcome.{counted, none_told}
use Rattle.ps_bench_frame.specs.Opening.{Source}
use Rattle.ps_bench_test.specs.Testing.{AreRan, AreRanFiles, FileRan, all_passed, IsRan, IsRanFile, cases_text, file_text, files_text, tally_of, tally_of_files}
use Rattle.ps_bench_test.specs.declared.outcome.Tally.{Tally}

pub are_more : (net : Network) (word name : List ℕ) (file : CaseFile) (cs : List Case) (c : Case) (rs : List Ran) (r : Ran) →
    AreRan net word name file cs rs → IsRan net word name file c r → AreRan net word name file (cs ++ c ∷ []) (rs ++ r ∷ [])
are_more net word name file [] c [] r done this = (this, tt)
are_more net word name file [] c (q ∷ rs) r done this = absurd done
are_more net word name file (d ∷ cs) c [] r done this = absurd done
are_more net word name file (d ∷ cs) c (q ∷ rs) r done this = (done.0, are_more net word name file cs c rs r done.1 this)

pub tally_more : (t : Tally) (rs : List Ran) (r : Ran) → tally_of t (rs ++ r ∷ []) ≡ counted (tally_of t rs) (passes r.outcome)
tally_more t [] r = refl
tally_more t (q ∷ rs) r = tally_more (counted t (passes q.outcome)) rs r

pub cases_more : (format : Format) (t : Tally) (rs : List Ran) (r : Ran) →
    cases_text format t (rs ++ r ∷ []) ≡ cases_text format t rs ++ case_text format (tally_of t rs) r
cases_more format t [] r = append-nil (case_text format t r)
cases_more format t (q ∷ rs) r =
    ap (λ (x : List ℕ). case_text format t q ++ x) (cases_more format (counted t (passes q.outcome)) rs r)
    ∙ sym (append_assoc (case_text format t q) (cases_text format (counted t (passes q.outcome)) rs) (case_text format (tally_of (counted t (passes q.outcome)) rs) r))

pub are_more_files : (from : Source) (word : List ℕ) (ns : List (List ℕ)) (n : List ℕ) (fs : List FileRan) (f : FileRan) →
    AreRanFiles from word ns fs → IsRanFile from word n f → AreRanFiles from word (ns ++ n ∷ []) (fs ++ f ∷ [])
are_more_files from word [] n [] f done this = (this, tt)
are_more_files from word [] n (g ∷ fs) f done this = absurd done
are_more_files from word (m ∷ ns) n [] f done this = absurd done
are_more_files from word (m ∷ ns) n (g ∷ fs) f done this = (done.0, are_more_files from word ns n fs f done.1 this)

pub tally_more_files : (t : Tally) (fs : List FileRan) (f : FileRan) →
    tally_of_files t (fs ++ f ∷ []) ≡ tally_of (tally_of_files t fs) f.ran
tally_more_files t [] f = refl
tally_more_files t (g ∷ fs) f = tally_more_files (tally_of t g.ran) fs f

pub files_more : (format : Format) (t : Tally) (fs : List FileRan) (f : FileRan) →
    files_text format t (fs ++ f ∷ []) ≡ files_text format t fs ++ file_text format (tally_of_files t fs) f
files_more format t [] f = append-nil (file_text format t f)
files_more format t (g ∷ fs) f =
    ap (λ (x : List ℕ). file_text format t g ++ x) (files_more format (tally_of t g.ran) fs f)
    ∙ sym (append_assoc (file_text format t g) (files_text format (tally_of t g.ran) fs) (file_text format (tally_of_files (tally_of t g.ran) fs) f))

-- a conjunction in another order
swapped : (a b c : Bool) → (a && (b && c)) ≡ ((b && a) && c)
swapped true true c = refl
swapped true false c = refl
swapped false true c = refl
swapped false false c = refl

-- one more case leaves no failed one exactly where it passed, and none had failed
pub none_failed_by : (t : Tally) (passed : Bool) → nat_eq (counted t passed).failed 0 ≡ (passed && nat_eq t.failed 0)
none_failed_by t true = refl
none_failed_by t false = grind (arith, nat_tests)

pub none_failed : (t : Tally) (rs : List Ran) →
    nat_eq (tally_of t rs).failed 0 ≡ (list_all (λ (r : Ran). passes r.outcome) rs && nat_eq t.failed 0)
none_failed t [] = refl
none_failed t (q ∷ rs) =
    none_failed (counted t (passes q.outcome)) rs
    ∙ ap (λ b. list_all (λ (r : Ran). passes r.outcome) rs && b) (none_failed_by t (passes q.outcome))
    ∙ swapped (list_all (λ (r : Ran). passes r.outcome) rs) (passes q.outcome) (nat_eq t.failed 0)

pub none_failed_files : (t : Tally) (fs : List FileRan) →
    nat_eq (tally_of_files t fs).failed 0 ≡ (all_passed fs && nat_eq t.failed 0)
none_failed_files t [] = refl
none_failed_files t (g ∷ fs) =
    none_failed_files (tally_of t g.ran) fs
    ∙ ap (λ b. all_passed fs && b) (none_failed t g.ran)
    ∙ swapped (all_passed fs) (list_all (λ (r : Ran). passes r.outcome) g.ran) (nat_eq t.failed 0)

-- a conjunction with what holds
with_true : (a : Bool) → (a && true) ≡ a
with_true true = refl
with_true false = refl

-- none of the cases that were told failed exactly where all passed
pub none_failed_told : (t : Tally) (fs : List FileRan) → t ≡ tally_of_files none_told fs → nat_eq t.failed 0 ≡ all_passed fs
none_failed_told t fs is =
    ap (λ (u : Tally). nat_eq u.failed 0) is ∙ none_failed_files none_told fs ∙ with_true (all_passed fs)

-- what is told after one more case
pub told_more : (format : Format) (before t : Tally) (rs : List Ran) (r : Ran) (old mid new : List ℕ) →
    t ≡ tally_of before rs → mid ≡ old ++ cases_text format before rs → new ≡ mid ++ case_text format t r →
    new ≡ old ++ cases_text format before (rs ++ r ∷ [])
told_more format before t rs r old mid new first second third =
    third ∙ ap (λ (x : List ℕ). x ++ case_text format t r) second
    ∙ append_assoc old (cases_text format before rs) (case_text format t r)
    ∙ ap (λ (u : Tally). old ++ (cases_text format before rs ++ case_text format u r)) first
    ∙ ap (λ (x : List ℕ). old ++ x) (sym (cases_more format before rs r))

-- what is told after one more file
pub told_more_files : (format : Format) (before t : Tally) (fs : List FileRan) (f : FileRan) (old mid new : List ℕ) →
    t ≡ tally_of_files before fs → mid ≡ old ++ files_text format before fs → new ≡ mid ++ file_text format t f →
    new ≡ old ++ files_text format before (fs ++ f ∷ [])
told_more_files format before t fs f old mid new first second third =
    third ∙ ap (λ (x : List ℕ). x ++ file_text format t f) second
    ∙ append_assoc old (files_text format before fs) (file_text format t f)
    ∙ ap (λ (u : Tally). old ++ (files_text format before fs ++ file_text format u f)) first
    ∙ ap (λ (x : List ℕ). old ++ x) (sym (files_more format before fs f))

-- one more case of a list
pub item_more : {X : Type 0} (xs : List X) (i : ℕ) (x : X) → i < length xs → x ≡ get_or xs i x →
    take (i + 1) xs ≡ take i xs ++ x ∷ []
item_more {X} xs i x below is = take_more xs i x below ∙ ap (λ (y : X). take i xs ++ y ∷ []) (sym is)

-- one more word
pub seen_more : (ns : List (Bor (List ℕ))) (i : ℕ) (d : Bor (List ℕ)) → i < length ns →
    seen (take (i + 1) ns) ≡ seen (take i ns) ++ (get_or ns i d).now ∷ []
seen_more ns i d below =
    ap seen (take_more ns i d below) ∙ map-append (λ (w : Bor (List ℕ)). w.now) (take i ns) (get_or ns i d ∷ [])
