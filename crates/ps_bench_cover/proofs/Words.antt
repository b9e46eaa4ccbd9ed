-- Words, one after another.
use Rattle.std.proofs.Common.{◌≡◌, ◌<◌, ◌+◌, ◌∙◌, ◌++◌, ℕ, IsTrue, List, [], ◌∷◌, Any, Bor, Some, length, map, take, get_or, slice_get, refl, sym, ap, subst, arith}
use Rattle.std.proofs.lemmas.List.{get_or-map, length-map, map-append, take-map, take_more}
use Rattle.std.proofs.lemmas.Option.{slice_get-get_or}
use Rattle.ps_cover.specs.Applying.{ScanStep}
use Rattle.ps_bench_frame.specs.Ending.{IsUnread, stop_at, stop_status}
use Rattle.ps_bench_frame.specs.Opening.{Source}
use Rattle.ps_bench_frame.specs.declared.ending.InputStop.TheVariants.{Refused, RulesRefused, LogRefused, SumRefused, OtherRefused, Unlike, Unread}
use Rattle.ps_bench_frame.specs.declared.ending.Stop.{Stop}
use Rattle.ps_bench_frame.specs.declared.ending.Stop.TheVariants.{App, Cases, UnreadApp, UnreadCases, Input, Unwritten, NoMemory}
use Rattle.ps_bench_cover.specs.Adding.{AreScansAll, AreScansAt}
use Rattle.ps_bench_cover.specs.Coming.{IsWhyAmong}
use Rattle.ps_bench_trace.specs.Coming.{IsWhyAtWord}
use Rattle.ps_bench_frame.proofs.Leaving.{first_of, stops_behind}
use Rattle.ps_bench_frame.specs.Leaving.{StopsReading}
use Rattle.ps_bench_frame.specs.Meant.{file_meant}
use Rattle.ps_bench_frame.specs.Seen.{CallSeen, NameRose, Quiet}

-- the bytes of words that are borrowed
abbrev pub words_in : List (Bor (List ℕ)) → List (List ℕ)
words_in ns = map (λ (w : Bor (List ℕ)). w.now) ns

-- the scans of one word more
pub all_more : (from : Source) (ws : List (List ℕ)) (w : List ℕ) (ts : List (List ScanStep)) (t : List ScanStep) →
    AreScansAll from ws ts → AreScansAt from w t → AreScansAll from (ws ++ w ∷ []) (ts ++ t ∷ [])
all_more from [] w [] t done this = (this, tt)
all_more from [] w (u ∷ ts) t done this = absurd done
all_more from (v ∷ ws) w [] t done this = absurd done
all_more from (v ∷ ws) w (u ∷ ts) t done this = (done.0, all_more from ws w ts t done.1 this)

-- one more word
pub words_more : (ns : List (Bor (List ℕ))) (i : ℕ) (d : Bor (List ℕ)) → i < length ns →
    words_in (take (i + 1) ns) ≡ words_in (take i ns) ++ (get_or ns i d).now ∷ []
words_more ns i d below =
    ap words_in (take_more ns i d below) ∙ map-append (λ (w : Bor (List ℕ)). w.now) (take i ns) (get_or ns i d ∷ [])

-- the words before one
pub words_before : (ns : List (Bor (List ℕ))) (i : ℕ) → words_in (take i ns) ≡ take i (words_in ns)
words_before ns i = sym (take-map (λ (w : Bor (List ℕ)). w.now) i ns)

-- a word by its place
pub word_at : (ns : List (Bor (List ℕ))) (i : ℕ) (d : Bor (List ℕ)) → i < length ns → slice_get (words_in ns) i ≡ Some (get_or ns i d).now
word_at ns i d below =
    let within : i < length (words_in ns) = omega (arith, below, length-map ns (λ (w : Bor (List ℕ)). w.now)) in
    slice_get-get_or (words_in ns) i (get_or ns i d).now within
    ∙ ap Some (get_or-map (λ (w : Bor (List ℕ)). w.now) ns i d (get_or ns i d).now below)

-- what holds of a word, and of what is made of it, holds of some word
pub word_any : {Y : Type 0} (f : List ℕ → Y) (P : Y → Type 0) (ns : List (Bor (List ℕ))) (i : ℕ) (d : Bor (List ℕ)) → i < length ns →
    P (f (get_or ns i d).now) → Any P (map (λ (w : Bor (List ℕ)). f w.now) ns)
word_any f P ns i d within holds =
    let y = f (get_or ns i d).now in
    (i, y, omega (arith, within, length-map ns (λ (w : Bor (List ℕ)). f w.now)), get_or-map (λ (w : Bor (List ℕ)). f w.now) ns i d y within, holds)

-- a place changes no status
status_at : (place : ℕ) (stop : Stop) → stop_status (stop_at place stop) ≡ stop_status stop
status_at place (App refusal) = refl
status_at place (Cases other refusal) = refl
status_at place UnreadApp = refl
status_at place (UnreadCases other) = refl
status_at place (Input (Refused input refusal)) = refl
status_at place (Input (RulesRefused refusal)) = refl
status_at place (Input (LogRefused refusal)) = refl
status_at place (Input (SumRefused refusal)) = refl
status_at place (Input (OtherRefused refusal)) = refl
status_at place (Input Unlike) = refl
status_at place (Input (Unread input)) = refl
status_at place Unwritten = refl
status_at place NoMemory = refl

pub unread_at : (place : ℕ) (stop : Stop) → IsUnread (stop_at place stop) → IsUnread stop
unread_at place stop is = sym (status_at place stop) ∙ is

pub unwritten_at : (place : ℕ) (stop : Stop) → stop_at place stop ≡ Unwritten → stop ≡ Unwritten
unwritten_at place (App refusal) is = cc
unwritten_at place (Cases other refusal) is = cc
unwritten_at place UnreadApp is = cc
unwritten_at place (UnreadCases other) is = cc
unwritten_at place (Input why) is = cc
unwritten_at place Unwritten is = refl
unwritten_at place NoMemory is = cc

-- a call stops at a word, after others
pub among : (from : Source) (ns : List (Bor (List ℕ))) (i : ℕ) (d : Bor (List ℕ)) → i < length ns → (place : ℕ) (why stop : Stop) → place ≡ i →
    (IsTrue from.tells → (traces : List (List ScanStep)) × AreScansAll from (words_in (take i ns)) traces) → stop ≡ stop_at place why →
    IsWhyAtWord from (get_or ns i d).now why → IsWhyAmong from (words_in ns) stop
among from ns i d below place why stop here done is at = record {
  place = place;
  word = (get_or ns i d).now;
  named = ap (slice_get (words_in ns)) here ∙ word_at ns i d below;
  done = λ reading.
      let all = done reading in
      (all.0, subst (λ (ws : List (List ℕ)). AreScansAll from ws all.0) (words_before ns i ∙ ap (λ n. take n (words_in ns)) (sym here)) all.1);
  why = why;
  at = at;
  is = is;
}

-- why a call stops at a word, of several files
pub stops_at : (ns : List (Bor (List ℕ))) (i : ℕ) (d : Bor (List ℕ)) → i < length ns → (place : ℕ) (why stop : Stop) (a b c : CallSeen) →
    Quiet a b → stop ≡ stop_at place why → StopsReading (file_meant (get_or ns i d).now ∷ []) b c why →
    StopsReading (map (λ (w : Bor (List ℕ)). file_meant w.now) ns) a c stop
stops_at ns i d below place why stop a b c quiet is stops =
    let behind = stops_behind (file_meant (get_or ns i d).now ∷ []) a b c why quiet stops in
    subst (λ (s : Stop). StopsReading (map (λ (w : Bor (List ℕ)). file_meant w.now) ns) a c s) (sym is) (record {
      unread = λ unread.
          word_any file_meant (NameRose a c) ns i d below
          (first_of (file_meant (get_or ns i d).now) [] (behind.unread (unread_at place why unread)));
      no_write = λ unwritten. behind.no_write (unwritten_at place why unwritten);
    })
