-- What a line that came of a stream says.
use Rattle.std.proofs.Common.{◌≡◌, ◌⊎◌, ◌+◌, ◌++◌, ◌∷◌, [], ℕ, List, Bool, true, false, length, take, inl, inr, refl, sym, ◌∙◌, ap, subst, append_assoc, arith}
use Rattle.std.proofs.Math.Seq.{take-length}
use Rattle.std.proofs.lemmas.List.{take-append-le}
use Rattle.std.specs.Prelude.{if◌then◌else◌}
use Rattle.ps_base.specs.declared.failing.Refusal.{Refusal}
use Rattle.ps_base.specs.declared.failing.Rule.{Rule}
use Rattle.ps_lines.specs.Lines as cut
use Rattle.ps_lines.specs.Lines.Line.{Kept, KeptLast, Long}
use Rattle.ps_bench_watch.specs.Reading as stream
use Rattle.ps_bench_watch.specs.declared.coming.Came.{Came}
use Rattle.ps_bench_watch.specs.declared.coming.Came.TheVariants.{Line, LastLine, TooLong, End}
use Rattle.ps_trace.specs.Header.{Header}
use Rattle.ps_trace.specs.Header.Header.{no_header, places, wrong}
use Rattle.ps_trace.specs.Scans.{at_line, header_from, header_of, number_after, onto_headed, said_of, scans_from, scans_behind}
use Rattle.ps_trace.specs.Scans.Headed.{begins, fails}
use Rattle.ps_trace.specs.Trace.{Said, line_said}
use Rattle.ps_trace.specs.Words.{fields}
use Rattle.ps_bench_watch.specs.Came.{IsLine, header_came, is_last, line_came}
use Rattle.ps_bench_watch.specs.Feeding.{Breaks, Gives, IsBehind, IsHeadless, lines_left}
use Rattle.ps_bench_watch.specs.Saying.{IsBroken, Says}
use Rattle.ps_bench_watch.specs.Coming.{behind, told_number}
use Rattle.std.specs.Prelude.{Result, Ok, Err, IfOk, OnOk}
use Rattle.ps_trace.specs.declared.trace.TraceStop.{TraceStop}
use Rattle.ps_bench_watch.specs.declared.feed.Fed.{Fed}
use Rattle.ps_bench_watch.specs.declared.feed.Fed.TheVariants.{Nothing, Restart, Scan as AScan, End as NoLine}
use Rattle.ps_model.specs.declared.report.Scan.{Scan}
use Rattle.ps_base.specs.declared.failing.Rule.TheVariants.{T8}
use Rattle.ps_bench_watch.specs.Streaming.{fed_lines}
use Rattle.ps_bench_watch.specs.declared.feed.Feed.{Feed}
use Rattle.ps_base.specs.declared.limits.TheConstants.{LONGEST_TRACE_LINE}
use Rattle.ps_model.specs.Network.{Network}
use Rattle.ps_bench_watch.specs.Streams.{stream_lines}
use Rattle.ps_bench_watch.specs.declared.lines.StreamLines.{StreamLines}
use Rattle.ps_trace.specs.Header.{input_names}

-- a line that is kept says what its words do
pub said_came : (came : Came) → IsLine came → (names last : ℕ) (bytes : List ℕ) → said_of names last (line_came came bytes) ≡ line_said names last (fields bytes)
said_came Line line names last bytes = refl
said_came LastLine line names last bytes = refl
said_came TooLong line names last bytes = absurd line
said_came End line names last bytes = absurd line

-- a line that is not too long is kept, unless it is the end
pub line_unless_end : (came : Came) → (came ≡ Line) ⊎ (came ≡ LastLine) ⊎ (came ≡ End) → ¬ (came ≡ End) → IsLine came
line_unless_end Line one more = tt
line_unless_end LastLine one more = tt
line_unless_end TooLong (inl is) more = cc
line_unless_end TooLong (inr (inl is)) more = cc
line_unless_end TooLong (inr (inr is)) more = cc
line_unless_end End one more = absurd (more refl)

-- what a line says to a reader with so many places for values
pub said_line : (names last : ℕ) (values : List Bool) (bytes bytes' : List ℕ) (said : Said) → length values ≡ names → bytes ≡ bytes' →
    line_said (length values) last (fields bytes) ≡ said → line_said names last (fields bytes') ≡ said
said_line names last values bytes bytes' said size same says =
    ap (λ (n : ℕ). line_said n last (fields bytes')) (sym size) ∙ ap (λ (b : List ℕ). line_said (length values) last (fields b)) (sym same) ∙ says

-- what is written over all values is what stands there
pub written : (size : ℕ) (values behind : List Bool) → length values ≡ size → take size (values ++ behind) ≡ values
written size values behind is =
    ap (λ (n : ℕ). take n (values ++ behind)) (sym is) ∙ take-append-le (length values) values behind (omega arith) ∙ take-length values

-- the line that came stands first, and after the last one there is none
pub line_first : (came : Came) → IsLine came → (lines rest : List cut.Line) (bytes : List ℕ) → stream.Gives lines came bytes rest →
    lines ≡ line_came came bytes ∷ (if is_last came then [] else rest)
line_first Line line lines rest bytes gives = gives
line_first LastLine line lines rest bytes gives = gives.0
line_first TooLong line lines rest bytes gives = absurd line
line_first End line lines rest bytes gives = absurd line

-- the same, where no line stands after the last one
pub line_and_rest : (came : Came) → IsLine came → (lines rest : List cut.Line) (bytes : List ℕ) → stream.Gives lines came bytes rest → lines ≡ line_came came bytes ∷ rest
line_and_rest Line line lines rest bytes gives = gives
line_and_rest LastLine line lines rest bytes gives = gives.0 ∙ ap (λ (l : List cut.Line). KeptLast bytes ∷ l) (sym gives.1)
line_and_rest TooLong line lines rest bytes gives = absurd line
line_and_rest End line lines rest bytes gives = absurd line

-- after the last line nothing is left
pub rest_if_last : (came : Came) → IsLine came → (lines rest : List cut.Line) (bytes : List ℕ) → stream.Gives lines came bytes rest → (if is_last came then [] else rest) ≡ rest
rest_if_last Line line lines rest bytes gives = refl
rest_if_last LastLine line lines rest bytes gives = sym gives.1
rest_if_last TooLong line lines rest bytes gives = absurd line
rest_if_last End line lines rest bytes gives = absurd line

-- ---- The header.

-- So many lines were read, and each of them is skipped: the header is that of the others.
pub record Skipped (names : List (List ℕ)) (all rest : List cut.Line) (number : ℕ) : Type 0 where
  pub done : List cut.Line
  pub next : ℕ
  pub split : all ≡ done ++ rest
  pub shown : number ≡ told_number next
  pub goes_on : (more : List cut.Line) → header_from names 1 (done ++ more) ≡ header_from names next more

pub skipped_first : (names : List (List ℕ)) (all : List cut.Line) → Skipped names all all 1
skipped_first names all = record { done = []; next = 1; split = refl; shown = refl; goes_on = λ more. refl }

-- what a kept line says as a header
header_kept : (names : List (List ℕ)) (came : Came) → IsLine came → (bytes : List ℕ) → header_came names came bytes ≡ header_of names (line_came came bytes)
header_kept names Line line bytes = refl
header_kept names LastLine line bytes = refl
header_kept names TooLong line bytes = absurd line
header_kept names End line bytes = absurd line

-- what is wrong is neither skipped nor a header
wrong_no_header : {rule : Rule} → wrong rule ≡ no_header → ⊥
wrong_no_header is = cc

wrong_no_places : {rule : Rule} {found : List ℕ} → wrong rule ≡ places found → ⊥
wrong_no_places is = cc

-- only of a line that is kept nothing or a header is said
kept_if_skipped : (names : List (List ℕ)) (came : Came) (bytes : List ℕ) → header_came names came bytes ≡ no_header → IsLine came
kept_if_skipped names Line bytes is = tt
kept_if_skipped names LastLine bytes is = tt
kept_if_skipped names TooLong bytes is = wrong_no_header is
kept_if_skipped names End bytes is = wrong_no_header is

kept_if_header : (names : List (List ℕ)) (came : Came) (bytes found : List ℕ) → header_came names came bytes ≡ places found → IsLine came
kept_if_header names Line bytes found is = tt
kept_if_header names LastLine bytes found is = tt
kept_if_header names TooLong bytes found is = wrong_no_places is
kept_if_header names End bytes found is = wrong_no_places is

module _ (names : List (List ℕ)) (all lines rest : List cut.Line) (number number' : ℕ) (came : Came) (bytes : List ℕ)
    (so_far : Skipped names all lines number) (gives : stream.Gives lines came bytes rest) where
  -- one more line, and those after it
  one_more : (more : List cut.Line) → header_from names 1 ((so_far.done ++ line_came came bytes ∷ []) ++ more) ≡ header_from names so_far.next (line_came came bytes ∷ more)
  one_more more =
      ap (header_from names 1) (append_assoc so_far.done (line_came came bytes ∷ []) more) ∙ so_far.goes_on (line_came came bytes ∷ more)

  split_more : IsLine came → all ≡ (so_far.done ++ line_came came bytes ∷ []) ++ rest
  split_more line =
      so_far.split ∙ ap (λ (l : List cut.Line). so_far.done ++ l) (line_and_rest came line lines rest bytes gives)
      ∙ sym (append_assoc so_far.done (line_came came bytes ∷ []) rest)

  -- one more line is skipped
  pub skipped_on : header_came names came bytes ≡ no_header →
      ((n : ℕ) (b : List ℕ) → number ≡ told_number n → number' ≡ told_number (number_after (line_came came b) n)) → Skipped names all rest number'
  skipped_on is counts =
      let line = kept_if_skipped names came bytes is in
      let said = sym (header_kept names came line bytes) ∙ is in
      let after : ℕ = number_after (line_came came bytes) so_far.next in
      record {
        done = so_far.done ++ line_came came bytes ∷ [];
        next = after;
        split = split_more line;
        shown = counts so_far.next bytes so_far.shown;
        goes_on = λ more. one_more more
            ∙ ap (λ (h : Header). onto_headed h so_far.next after more (header_from names after more)) said;
      }

  -- the header stands there
  pub header_stands : (found : List ℕ) → header_came names came bytes ≡ places found →
      (more : List cut.Line) → header_from names 1 ((so_far.done ++ line_came came bytes ∷ []) ++ more) ≡ begins found (number_after (line_came came bytes) so_far.next) more
  header_stands found is more =
      let line = kept_if_header names came bytes found is in
      let said = sym (header_kept names came line bytes) ∙ is in
      let after : ℕ = number_after (line_came came bytes) so_far.next in
      one_more more ∙ ap (λ (h : Header). onto_headed h so_far.next after more (header_from names after more)) said

  pub split_behind : (found : List ℕ) → header_came names came bytes ≡ places found → all ≡ (so_far.done ++ line_came came bytes ∷ []) ++ rest
  split_behind found is = split_more (kept_if_header names came bytes found is)

-- a line, or the end, is refused in place of a header
pub header_fails : (names : List (List ℕ)) (all lines rest : List cut.Line) (number : ℕ) (came : Came) (bytes : List ℕ) (so_far : Skipped names all lines number) →
    stream.Gives lines came bytes rest → (rule : Rule) → header_came names came bytes ≡ wrong rule → header_from names 1 all ≡ fails (at_line rule so_far.next)
header_fails names all lines rest number Line bytes so_far gives rule is =
    ap (header_from names 1) (so_far.split ∙ ap (λ (l : List cut.Line). so_far.done ++ l) gives) ∙ so_far.goes_on (Kept bytes ∷ rest)
    ∙ ap (λ (h : Header). onto_headed h so_far.next (so_far.next + 1) rest (header_from names (so_far.next + 1) rest)) is
header_fails names all lines rest number LastLine bytes so_far gives rule is =
    ap (header_from names 1) (so_far.split ∙ ap (λ (l : List cut.Line). so_far.done ++ l) gives.0) ∙ so_far.goes_on (KeptLast bytes ∷ [])
    ∙ ap (λ (h : Header). onto_headed h so_far.next so_far.next [] (header_from names so_far.next [])) is
header_fails names all lines rest number TooLong bytes so_far gives rule is =
    ap (header_from names 1) (so_far.split ∙ ap (λ (l : List cut.Line). so_far.done ++ l) gives.1) ∙ so_far.goes_on (Long ∷ gives.0)
    ∙ ap (λ (h : Header). onto_headed h so_far.next so_far.next gives.0 (header_from names so_far.next gives.0)) is
header_fails names all lines rest number End bytes so_far gives rule is =
    ap (header_from names 1) (so_far.split ∙ ap (λ (l : List cut.Line). so_far.done ++ l) gives.0) ∙ so_far.goes_on []
    ∙ ap (λ (r : Rule). fails (at_line r so_far.next)) (same_rule is)
  where
    same_rule : {r s : Rule} → wrong r ≡ wrong s → r ≡ s
    same_rule is = cc

-- a reader that is fresh has read nothing of a stream
pub skipped_none : (names : List (List ℕ)) (lines : StreamLines) (coming : List ℕ) → stream.longest_of lines ≡ LONGEST_TRACE_LINE → stream.held_of lines ≡ [] →
    Skipped names (fed_lines coming) (stream.left lines coming) 1
skipped_none names lines coming longest fresh =
    let same : fed_lines coming ≡ stream.left lines coming =
    sym (ap (λ (k : ℕ). stream_lines k (stream.held_of lines ++ coming)) longest ∙ ap (λ (h : List ℕ). stream_lines LONGEST_TRACE_LINE (h ++ coming)) fresh) in
    subst (λ (rest : List cut.Line). Skipped names (fed_lines coming) rest 1) same (skipped_first names (fed_lines coming))

-- a feed that begins after the header
pub behind_header : (net : Network) (all lines rest : List cut.Line) (number number' : ℕ) (came : Came) (bytes : List ℕ) (so_far : Skipped (input_names net) all lines number) →
    stream.Gives lines came bytes rest → (found : List ℕ) → header_came (input_names net) came bytes ≡ places found →
    ((n : ℕ) (b : List ℕ) → number ≡ told_number n → number' ≡ told_number (number_after (line_came came b) n)) →
    (ended : Bool) → ended ≡ is_last came → (feed : Feed) → feed.places.items ≡ found → feed.last ≡ 0 → feed.number ≡ number' →
    IsBehind net all feed (if ended then [] else rest)
behind_header net all lines rest number number' came bytes so_far gives found is counts ended last feed on first shown =
    let line = kept_if_header (input_names net) came bytes found is in
    let after : ℕ = number_after (line_came came bytes) so_far.next in
    let left : (if ended then [] else rest) ≡ rest = ap (λ (b : Bool). if b then [] else rest) last ∙ rest_if_last came line lines rest bytes gives in
    record {
      done = so_far.done ++ line_came came bytes ∷ [];
      number = after;
      split = split_behind (input_names net) all lines rest number number' came bytes so_far gives found is
          ∙ ap (λ (l : List cut.Line). (so_far.done ++ line_came came bytes ∷ []) ++ l) (sym left);
      shown = shown ∙ counts so_far.next bytes so_far.shown;
      goes_on = λ more. ap scans_behind (header_stands (input_names net) all lines rest number number' came bytes so_far gives found is more)
          ∙ sym (ap (λ (f : List ℕ). scans_from f after feed.last more) on ∙ ap (λ (t : ℕ). scans_from found after t more) first);
    }

-- the refusal that is told in place of a header
pub headless : (net : Network) (all lines rest : List cut.Line) (number : ℕ) (came : Came) (bytes : List ℕ) → Skipped (input_names net) all lines number →
    stream.Gives lines came bytes rest → (rule : Rule) → header_came (input_names net) came bytes ≡ wrong rule → (refusal : Refusal) → refusal ≡ at_line rule number →
    IsHeadless net all refusal
headless net all lines rest number came bytes so_far gives rule is refusal told_so = record {
  cause = at_line rule so_far.next;
  fails_so = header_fails (input_names net) all lines rest number came bytes so_far gives rule is;
  told_so = told_so ∙ ap (at_line rule) so_far.shown;
}

-- ---- The lines after the header.

-- what is left to a feed whose last line has not come, and to one whose last line has
pub left_open : (feed : Feed) (coming : List ℕ) → feed.ended ≡ false → lines_left feed coming ≡ stream.left feed.lines coming
left_open feed coming is = ap (λ (b : Bool). if b then [] else stream.left feed.lines coming) is

pub left_ended : (feed : Feed) (coming : List ℕ) → feed.ended ≡ true → lines_left feed coming ≡ []
left_ended feed coming is = ap (λ (b : Bool). if b then [] else stream.left feed.lines coming) is

-- a line was read, and what is left behind it
pub line_behind : (came : Came) → IsLine came → (old new : Feed) (coming coming' : List ℕ) (lines : StreamLines) → old.ended ≡ false →
    stream.Gives (stream.left old.lines coming) came (stream.line_of lines) (stream.left lines coming') → new.lines ≡ lines → new.ended ≡ is_last came →
    lines_left old coming ≡ line_came came (stream.line_of lines) ∷ lines_left new coming'
line_behind came line old new coming coming' lines unended gives same last =
    left_open old coming unended ∙ line_first came line (stream.left old.lines coming) (stream.left lines coming') (stream.line_of lines) gives
    ∙ ap (λ (b : Bool). line_came came (stream.line_of lines) ∷ (if b then [] else stream.left lines coming')) (sym last)
    ∙ ap (λ (l : StreamLines). line_came came (stream.line_of lines) ∷ (if new.ended then [] else stream.left l coming')) (sym same)

-- what a line gives
pub gives_line : (fed : Fed) (old new : Feed) (before after : Scan) (lines rest : List cut.Line) (line : cut.Line) → lines ≡ line ∷ rest →
    Says fed old.places.items old.last new.last before after (said_of (length old.places.items) old.last line) →
    ((number : ℕ) → old.number ≡ told_number number → new.number ≡ told_number (number_after line number)) → Gives fed old new before after lines rest
gives_line Nothing old new before after lines rest line first says shown = record { line = line; first = first; says = says; shown = shown }
gives_line Restart old new before after lines rest line first says shown = record { line = line; first = first; says = says; shown = shown }
gives_line AScan old new before after lines rest line first says shown = record { line = line; first = first; says = says; shown = shown }
gives_line NoLine old new before after lines rest line first says shown = absurd says

-- a line that is too long is refused
pub long_breaks : (feed : Feed) (lines more : List cut.Line) (refusal : Refusal) → lines ≡ Long ∷ more → refusal ≡ at_line T8 feed.number → Breaks feed lines refusal
long_breaks feed lines more refusal first told_so = record {
  line = Long;
  more = more;
  first = first;
  is_broken = record { rule = T8; broken = refl; told_so = told_so };
}

-- the number after what came is that of the line after it
pub counts_line : (number number' : ℕ) (came : Came) → ((n : ℕ) → number ≡ told_number n → number' ≡ told_number (behind came n)) →
    (n : ℕ) (bytes : List ℕ) → number ≡ told_number n → number' ≡ told_number (number_after (line_came came bytes) n)
counts_line number number' Line counts n bytes is = counts n is
counts_line number number' LastLine counts n bytes is = counts n is
counts_line number number' TooLong counts n bytes is = counts n is
counts_line number number' End counts n bytes is = counts n is

-- what was read of a line is what it gives
pub came_gives : (r : Result Fed TraceStop) (old new : Feed) (before after : Scan) (coming coming' : List ℕ) (came : Came) (l : StreamLines) → IsLine came → old.ended ≡ false →
    stream.Gives (stream.left old.lines coming) came (stream.line_of l) (stream.left l coming') → new.lines ≡ l → OnOk r (new.ended ≡ is_last came) →
    IfOk r (λ fed. Says fed old.places.items old.last new.last before after (said_of (length old.places.items) old.last (line_came came (stream.line_of l)))) →
    OnOk r ((number : ℕ) → old.number ≡ told_number number → new.number ≡ told_number (number_after (line_came came (stream.line_of l)) number)) →
    IfOk r (λ fed. Gives fed old new before after (lines_left old coming) (lines_left new coming'))
came_gives (Ok fed) old new before after coming coming' came l line unended gives same last says shown =
    gives_line fed old new before after (lines_left old coming) (lines_left new coming') (line_came came (stream.line_of l))
    (line_behind came line old new coming coming' l unended gives same last) says shown
came_gives (Err stop) old new before after coming coming' came l line unended gives same last says shown = tt

-- a line that is refused
pub came_breaks : (old : Feed) (coming coming' : List ℕ) (came : Came) (l : StreamLines) → IsLine came → old.ended ≡ false →
    stream.Gives (stream.left old.lines coming) came (stream.line_of l) (stream.left l coming') → (refusal : Refusal) →
    IsBroken (length old.places.items) old.last old.number (line_came came (stream.line_of l)) refusal → Breaks old (lines_left old coming) refusal
came_breaks old coming coming' came l line unended gives refusal broken = record {
  line = line_came came (stream.line_of l);
  more = stream.left l coming';
  first = left_open old coming unended ∙ line_and_rest came line (stream.left old.lines coming) (stream.left l coming') (stream.line_of l) gives;
  is_broken = broken;
}
