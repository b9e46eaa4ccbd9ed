-- What an output took where a call stops in a longer text.
use Rattle.std.proofs.Common.{◌≡◌, ◌⊎◌, inl, inr, ◌++◌, ◌+◌, ◌<◌, ℕ, Bool, List, [], ◌∷◌, Bor, Any, suc, Result, Err, IfErr, IsTrue, take, drop, length, get_or, refl, sym, ap, subst, ◌∙◌, append_assoc, arith}
use Rattle.std.proofs.lemmas.List.{append-nil, drop_more, get_or-map, length-map, map-append, take-append-drop}
use Rattle.ps_bench_frame.specs.Opening.{Source}
use Rattle.ps_bench_frame.specs.Stopping.{StopsAtCases, StopsIn, TookSome}
use Rattle.ps_bench_frame.specs.declared.ending.Stop.{Stop}
use Rattle.ps_bench_frame.specs.declared.ending.Stop.TheVariants.{App, Cases, UnreadApp, UnreadCases, Unwritten, NoMemory, Input}
use Rattle.ps_bench_words.specs.Seen.{seen}
use Rattle.ps_bench_words.specs.declared.asking.Format.{Format}
use Rattle.ps_bench_cases.specs.declared.case.Case.{Case}
use Rattle.ps_bench_cases.specs.declared.case.CaseFile.{CaseFile}
use Rattle.ps_bench_cases.specs.declared.rule.CaseRefusal.{CaseRefusal}
use Rattle.ps_bench_cases.specs.Writing.{TookBeginning, Wrote}
use Rattle.ps_bench_cases.specs.declared.expanding.ExpandFail.{ExpandFail}
use Rattle.ps_bench_cases.specs.declared.expanding.ExpandFail.TheVariants.{Memory as NotThere, Fault as NotWritten}
use Rattle.ps_model.specs.Network.{Network}
use Rattle.ps_bench_test.specs.Outcome.{Ran}
use Rattle.ps_bench_test.specs.Report.{case_text, refused_text}
use Rattle.ps_bench_test.specs.Outcome.{none_told}
use Rattle.ps_bench_test.specs.Stopping.{StopsAmong, StopsInFile}
use Rattle.ps_bench_test.specs.Testing.{AreRan, IsRan, cases_text, file_text, files_text, tally_of, tally_of_files}
use Rattle.ps_bench_test.specs.declared.outcome.Tally.{Tally}
use Rattle.ps_bench_test.proofs.Running.{are_more, cases_more, item_more}

-- what holds of an error holds of a result that is one
pub err_is : {A E : Type 0} (P : E → Type 0) (r : Result A E) (e : E) → r ≡ Err e → P e → IfErr r P
err_is P r e is holds = subst (λ s. IfErr s P) (sym is) holds

-- ---- Beginnings of a text.

-- of a text with more after it
longer : (a b : List ℕ) (tells : Bool) (before after : List ℕ) → TookSome a tells before after → TookSome (a ++ b) tells before after
longer a b tells before after some = λ told.
    let it = some told in
    (it.0, it.1 ++ b, it.2, sym (append_assoc it.0 it.1 b) ∙ ap (λ (t : List ℕ). t ++ b) it.3)

pub stops_longer : (a b : List ℕ) (stop : Stop) (tells : Bool) (before after : List ℕ) → StopsIn a stop tells before after → StopsIn (a ++ b) stop tells before after
stops_longer a b Unwritten tells before after some = longer a b tells before after some
stops_longer a b NoMemory tells before after some = longer a b tells before after some
stops_longer a b (App refusal) tells before after some = some
stops_longer a b (Cases place refusal) tells before after some = some
stops_longer a b UnreadApp tells before after some = some
stops_longer a b (Input why) tells before after some = some
stops_longer a b (UnreadCases place) tells before after some = some

-- of a text after another one that was taken
behind : (a b : List ℕ) (tells : Bool) (before mid after : List ℕ) → (IsTrue tells → mid ≡ before ++ a) → TookSome b tells mid after → TookSome (a ++ b) tells before after
behind a b tells before mid after took some = λ told.
    let it = some told in
    (a ++ it.0, it.1, it.2 ∙ ap (λ (t : List ℕ). t ++ it.0) (took told) ∙ append_assoc before a it.0, append_assoc a it.0 it.1 ∙ ap (λ (t : List ℕ). a ++ t) it.3)

pub stops_behind : (a b : List ℕ) (stop : Stop) (tells : Bool) (before mid after : List ℕ) → (IsTrue tells → mid ≡ before ++ a) → StopsIn b stop tells mid after → StopsIn (a ++ b) stop tells before after
stops_behind a b Unwritten tells before mid after took some = behind a b tells before mid after took some
stops_behind a b NoMemory tells before mid after took some = behind a b tells before mid after took some
stops_behind a b (App refusal) tells before mid after took some = some
stops_behind a b (Cases place refusal) tells before mid after took some = some
stops_behind a b UnreadApp tells before mid after took some = some
stops_behind a b (Input why) tells before mid after took some = some
stops_behind a b (UnreadCases place) tells before mid after took some = some

-- where nothing was taken
pub took_nothing : (text : List ℕ) (tells : Bool) (before after : List ℕ) → after ≡ before → TookSome text tells before after
took_nothing text tells before after same = λ told. ([], text, same ∙ sym (append-nil before), refl)

-- where all of it was taken
pub took_all : (text : List ℕ) (tells : Bool) (before after : List ℕ) → (IsTrue tells → after ≡ before ++ text) → TookSome text tells before after
took_all text tells before after took = λ told. (text, [], took told, append-nil text)

-- a call that stops in a text took a beginning of it
pub stops_some : (text : List ℕ) (stop : Stop) (tells : Bool) (before after : List ℕ) → StopsIn text stop tells before after → TookSome text tells before after
stops_some text Unwritten tells before after some = some
stops_some text NoMemory tells before after some = some
stops_some text (App refusal) tells before after some = absurd some
stops_some text (Cases place refusal) tells before after some = absurd some
stops_some text UnreadApp tells before after some = absurd some
stops_some text (Input why) tells before after some = absurd some
stops_some text (UnreadCases place) tells before after some = absurd some

-- a text that was not written to its end
pub wrote_part : {S : Type 0} (tells : S → Bool) (taken : S → List ℕ) (faults : S → ℕ) (text : List ℕ) (old new : S) (fail : ExpandFail) → Wrote tells taken faults text old new (Err fail) →
    IsTrue (tells old) → TookBeginning (taken old) text (taken new)
wrote_part tells taken faults text old new NotThere wrote = wrote.bytes
wrote_part tells taken faults text old new NotWritten wrote = wrote.bytes

-- ---- What an output had taken before, where it tells.

pub some_from : (text : List ℕ) (tells : Bool) (before mid after : List ℕ) → (IsTrue tells → mid ≡ before) → TookSome text tells mid after → TookSome text tells before after
some_from text tells before mid after same some = λ told. let it = some told in (it.0, it.1, it.2 ∙ ap (λ (t : List ℕ). t ++ it.0) (same told), it.3)

stops_from : (text : List ℕ) (stop : Stop) (tells : Bool) (before mid after : List ℕ) → (IsTrue tells → mid ≡ before) → StopsIn text stop tells mid after → StopsIn text stop tells before after
stops_from text Unwritten tells before mid after same some = some_from text tells before mid after same some
stops_from text NoMemory tells before mid after same some = some_from text tells before mid after same some
stops_from text (App refusal) tells before mid after same some = some
stops_from text (Cases place refusal) tells before mid after same some = some
stops_from text UnreadApp tells before mid after same some = some
stops_from text (Input why) tells before mid after same some = some
stops_from text (UnreadCases place) tells before mid after same some = some

at_cases_from : (from : Source) (name : List ℕ) (told : CaseRefusal → List ℕ) (stop : Stop) (tells : Bool) (before mid after : List ℕ) → (IsTrue tells → mid ≡ before) →
    StopsAtCases from name told stop tells mid after → StopsAtCases from name told stop tells before after
at_cases_from from name told Unwritten tells before mid after same some = (some.0, some.1, some_from (told some.0) tells before mid after same some.2)
at_cases_from from name told NoMemory tells before mid after same some = λ t. some t ∙ same t
at_cases_from from name told (App refusal) tells before mid after same some = some
at_cases_from from name told (Cases place refusal) tells before mid after same some = (some.0, λ t. some.1 t ∙ ap (λ (old : List ℕ). old ++ told refusal) (same t))
at_cases_from from name told UnreadApp tells before mid after same some = some
at_cases_from from name told (Input why) tells before mid after same some = some
at_cases_from from name told (UnreadCases place) tells before mid after same some = λ t. some t ∙ same t

pub in_file_from : (from : Source) (word : List ℕ) (format : Format) (t : Tally) (name : List ℕ) (stop : Stop) (tells : Bool) (before mid after : List ℕ) → (IsTrue tells → mid ≡ before) →
    StopsInFile from word format t name stop tells mid after → StopsInFile from word format t name stop tells before after
in_file_from from word format t name stop tells before mid after same (inl at) = inl (at_cases_from from name (refused_text format name) stop tells before mid after same at)
in_file_from from word format t name stop tells before mid after same (inr some) =
    inr (some.0, some.1, (some.2.0, some.2.1, some.2.2, stops_from (file_text format t (record { name = name; file = some.0; ran = some.2.1 })) stop tells before mid after same some.2.3))

pub among_from : (from : Source) (word : List ℕ) (format : Format) (names : List (List ℕ)) (stop : Stop) (tells : Bool) (before mid after : List ℕ) → (IsTrue tells → mid ≡ before) →
    StopsAmong from word format names stop tells mid after → StopsAmong from word format names stop tells before after
among_from from word format names stop tells before mid after same some =
    let told = files_text format none_told some.4 in (
      some.0,
      some.1,
      some.2,
      some.3,
      some.4,
      some.5,
      in_file_from from word format (tally_of_files none_told some.4) some.2 stop tells (before ++ told) (mid ++ told) after (λ t. ap (λ (old : List ℕ). old ++ told) (same t)) some.6,
    )

-- ---- Cases of a file.

-- one case more was run, and told in part, or not run
pub stops_more : (net : Network) (word name : List ℕ) (file : CaseFile) (cases : List Case) (place : ℕ) (c : Case) (format : Format) (first t : Tally) (rs : List Ran)
    (stop : Stop) (tells : Bool) (before mid after : List ℕ) → place < length cases → c ≡ get_or cases place c → AreRan net word name file (take place cases) rs → t ≡ tally_of first rs →
    (IsTrue tells → mid ≡ before ++ cases_text format first rs) →
    (StopsIn [] stop tells mid after ⊎ ((r : Ran) × IsRan net word name file c r × StopsIn (case_text format t r) stop tells mid after)) →
    (ran : ℕ) × (qs : List Ran) × AreRan net word name file (take ran cases) qs × StopsIn (cases_text format first qs) stop tells before after
stops_more net word name file cases place c format first t rs stop tells before mid after within is are tally took (inl none) =
    (place, rs, are, subst (λ (text : List ℕ). StopsIn text stop tells before after) (append-nil (cases_text format first rs)) (stops_behind (cases_text format first rs) [] stop tells before mid after took none))
stops_more net word name file cases place c format first t rs stop tells before mid after within is are tally took (inr (r, ran, some)) = (
  place + 1,
  rs ++ r ∷ [],
  subst (λ (cs : List Case). AreRan net word name file cs (rs ++ r ∷ [])) (sym (item_more cases place c within is)) (are_more net word name file (take place cases) c rs r are ran),
  subst (λ (text : List ℕ). StopsIn text stop tells before after) (sym (cases_more format first rs r))
      (stops_behind (cases_text format first rs) (case_text format (tally_of first rs) r) stop tells before mid after took
      (subst (λ (u : Tally). StopsIn (case_text format u r) stop tells mid after) tally some)),
)

-- ---- Words.

-- a word among words
pub seen_at : (ns : List (Bor (List ℕ))) (i : ℕ) (d : Bor (List ℕ)) → i < length ns → seen ns ≡ seen (take i ns) ++ (get_or ns i d).now ∷ seen (drop (i + 1) ns)
seen_at ns i d within =
    ap seen (sym (take-append-drop i ns)) ∙ map-append (λ (w : Bor (List ℕ)). w.now) (take i ns) (drop i ns)
    ∙ ap (λ (ws : List (Bor (List ℕ))). seen (take i ns) ++ seen ws) (drop_more ns i d within)

-- what holds of a word holds of some word
pub word_any : (P : List ℕ → Type 0) (ns : List (Bor (List ℕ))) (i : ℕ) (d : Bor (List ℕ)) → i < length ns → P (get_or ns i d).now → Any P (seen ns)
word_any P ns i d within holds =
    let word = (get_or ns i d).now in
    (i, word, omega (arith, within, length-map ns (λ (w : Bor (List ℕ)). w.now)), get_or-map (λ (w : Bor (List ℕ)). w.now) ns i d word within, holds)

-- and of some word of more words
pub any_behind : (P Q : List ℕ → Type 0) → ((x : List ℕ) → Q x → P x) → (x : List ℕ) (xs : List (List ℕ)) → Any Q xs → Any P (x ∷ xs)
any_behind P Q weaker x xs some = (suc some.0, some.1, omega (arith, some.2), some.3, weaker some.1 some.4)
