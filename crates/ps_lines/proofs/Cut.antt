-- Where the lines of a text are cut.
use Rattle.std.proofs.Common.{◌≡◌, ◌≤◌, ◌<◌, ◌+◌, ◌-◌, ℕ, List, [], ◌∷◌, ◌++◌, Bool, true, false, nat_lt, length, take, drop, get_or, refl, sym, ◌∙◌, ap, arith, length-take, length-drop, subst}
use Rattle.std.proofs.lemmas.Grind.{common_steps}
use Rattle.std.proofs.Math.Seq.{take-add}
use Rattle.std.proofs.lemmas.List.{take_all, drop_all, drop-take, drop-drop, take-append-drop, drop_more, take-take, get_or-take, get_or-drop, length-take-le}
use Rattle.std.proofs.lemmas.Bool.{lt-ltb, le-ltb}
use Rattle.std.proofs.lemmas.List.Folds.{list_any-append}
use Rattle.std.specs.Prelude.{◌==◌, if◌then◌else◌}
use Rattle.ps_lines.specs.Lines.{RawLine, Line, raw_lines, onto_first, bytes_of, HasNoLineFeed, lines_at, lines_from, kept_of}
use Rattle.ps_lines.specs.Lines.Line.{Kept, KeptLast, Long, Large}
use Rattle.std.specs.Str.Lines.{strip_carriage_return}
use Rattle.ps_lines.specs.Lines.RawLine.{Ended, Last}
use Rattle.ps_lines.specs.Reader.{Follows}

-- a line that a line feed ends
pub raw_lines-ended : (line rest : List ℕ) → HasNoLineFeed line → raw_lines (line ++ 10 ∷ rest) ≡ Ended line ∷ raw_lines rest
raw_lines-ended [] rest none = refl
raw_lines-ended (b ∷ line) rest none = let ih : HasNoLineFeed line → raw_lines (line ++ 10 ∷ rest) ≡ Ended line ∷ raw_lines rest = raw_lines-ended line rest in grind (arith, common_steps)

-- a line that the text's end ends
pub raw_lines-last : (b : ℕ) (line : List ℕ) → HasNoLineFeed (b ∷ line) → raw_lines (b ∷ line) ≡ Last (b ∷ line) ∷ []
raw_lines-last b [] none = grind (arith, common_steps)
raw_lines-last b (a ∷ line) none = let ih : HasNoLineFeed (a ∷ line) → raw_lines (a ∷ line) ≡ Last (a ∷ line) ∷ [] = raw_lines-last a line in grind (arith, common_steps)

-- how many bytes the first line takes
abbrev pub first_bytes : List RawLine → ℕ
first_bytes [] = 0
first_bytes (line ∷ lines) = bytes_of line

first_bytes-onto_first : (b : ℕ) (lines : List RawLine) → first_bytes (onto_first b lines) ≡ first_bytes lines + 1
first_bytes-onto_first b [] = refl
first_bytes-onto_first b (Ended line ∷ lines) = omega arith
first_bytes-onto_first b (Last line ∷ lines) = omega arith

-- the first line has at least the bytes before its line feed
pub first_bytes-from : (line rest : List ℕ) → HasNoLineFeed line → length line ≤ first_bytes (raw_lines (line ++ rest))
first_bytes-from [] rest none = omega arith
first_bytes-from (b ∷ line) rest none =
    let ih : HasNoLineFeed line → length line ≤ first_bytes (raw_lines (line ++ rest)) = first_bytes-from line rest in
    let more = first_bytes-onto_first b (raw_lines (line ++ rest)) in
    grind (arith, common_steps)

-- two parts of a text that stand side by side
take-side : (text : List ℕ) (at m n : ℕ) → take (m + n) (drop at text) ≡ take m (drop at text) ++ take n (drop (at + m) text)
take-side text at m n = take-add m n (drop at text) ∙ ap (λ (t : List ℕ). take m (drop at text) ++ take n t) (drop-drop m at text)

-- the front of what is held, and what is after it
held_front : {longest : ℕ} {text : List ℕ} {read : ℕ} {held : List ℕ} {count : ℕ} {line : List ℕ} (m : ℕ) → Follows longest text read held count line → m ≤ length held →
    take m held ≡ take m (drop (read - length held) text)
held_front {longest} {text} {read} {held} m follows fits = ap (take m) follows.piece ∙ take-take m (length held) (drop (read - length held) text) fits

held_back : {longest : ℕ} {text : List ℕ} {read : ℕ} {held : List ℕ} {count : ℕ} {line : List ℕ} (m : ℕ) → Follows longest text read held count line → m ≤ length held →
    drop m held ≡ take (length held - m) (drop (read - length held + m) text)
held_back {longest} {text} {read} {held} m follows fits =
    let whole : length held ≡ m + (length held - m) = omega arith in
    ap (drop m) follows.piece ∙ ap (λ n. drop m (take n (drop (read - length held) text))) whole
    ∙ drop-take m (length held - m) (drop (read - length held) text) ∙ ap (take (length held - m)) (drop-drop m (read - length held) text)

-- the line so far with a part of what is held
line_and_more : {longest : ℕ} {text : List ℕ} {read : ℕ} {held : List ℕ} {count : ℕ} {line : List ℕ} (m : ℕ) → Follows longest text read held count line → count + length held ≤ read → m ≤ length held →
    take (count + m) (drop (read - length held - count) text) ≡ take count (drop (read - length held - count) text) ++ take m held
line_and_more {longest} {text} {read} {held} {count} m follows fits within =
    let place : read - length held - count + count ≡ read - length held = omega arith in
    take-side text (read - length held - count) count m
    ∙ ap (λ (n : ℕ). take count (drop (read - length held - count) text) ++ take m (drop n text)) place
    ∙ ap (λ (t : List ℕ). take count (drop (read - length held - count) text) ++ t) (sym (held_front m follows within))

-- neither of two parts has a line feed
none_in_both : (xs ys : List ℕ) → HasNoLineFeed xs → HasNoLineFeed ys → HasNoLineFeed (xs ++ ys)
none_in_both xs ys first second = let both = list_any-append (λ b. b == 10) xs ys in grind (arith, common_steps)

-- a part of what is held was looked at, and is of the line
pub line_goes_on : {longest : ℕ} {text : List ℕ} {read : ℕ} {held : List ℕ} {count : ℕ} {line : List ℕ} (m : ℕ) (after : List ℕ) → Follows longest text read held count line →
    count + length held ≤ read → m ≤ length held → HasNoLineFeed (take m held) → (count + m ≤ longest → take (count + m) after ≡ take count line ++ take m held) →
    Follows longest text read (drop m held) (count + m) after
line_goes_on {longest} {text} {read} {held} {count} {line} m after follows fits within none keeps =
    let size = length-drop m held in
    let place : read - length (drop m held) ≡ read - length held + m = omega arith in
    let same_line : read - length (drop m held) - (count + m) ≡ read - length held - count = omega arith in
    let whole = line_and_more m follows fits within in
    record {
      within = follows.within;
      piece = held_back m follows within ∙ sym (ap (λ (n : ℕ). take n (drop (read - length held + m) text)) size)
          ∙ sym (ap (λ (n : ℕ). take (length (drop m held)) (drop n text)) place);
      kept = λ short. keeps short ∙ ap (λ (t : List ℕ). t ++ take m held) (follows.kept (omega (arith, short))) ∙ sym whole
          ∙ sym (ap (λ (n : ℕ). take (count + m) (drop n text)) same_line);
      one_line = subst (λ (n : ℕ). HasNoLineFeed (take (count + m) (drop n text))) (sym same_line)
          (subst HasNoLineFeed (sym whole) (none_in_both (take count (drop (read - length held - count) text)) (take m held) follows.one_line none));
    }

-- the line was ended by what is held up to a place, and the next one begins after it
pub line_over : {longest : ℕ} {text : List ℕ} {read : ℕ} {held : List ℕ} {count : ℕ} {line : List ℕ} (m : ℕ) (after : List ℕ) → Follows longest text read held count line →
    length held ≤ read → m ≤ length held → Follows longest text read (drop m held) 0 after
line_over {longest} {text} {read} {held} m after follows fits within =
    let size = length-drop m held in
    let place : read - length (drop m held) ≡ read - length held + m = omega arith in
    record {
      within = follows.within;
      piece = held_back m follows within ∙ sym (ap (λ (n : ℕ). take n (drop (read - length held + m) text)) size)
          ∙ sym (ap (λ (n : ℕ). take (length (drop m held)) (drop n text)) place);
      kept = λ short. refl;
      one_line = refl;
    }

-- a text from an offset on, cut after the line feed at a place
cut_at : (text : List ℕ) (at k : ℕ) → at + k < length text → get_or text (at + k) 0 ≡ 10 → drop at text ≡ take k (drop at text) ++ 10 ∷ drop (at + (k + 1)) text
cut_at text at k fits feed =
    let whole = take-append-drop k (drop at text) in
    let behind = drop-drop k at text in
    let next = drop_more text (at + k) 0 fits in
    let place : at + k + 1 ≡ at + (k + 1) = omega arith in
    sym whole ∙ ap (λ (t : List ℕ). take k (drop at text) ++ t) (behind ∙ next ∙ ap (λ (b : ℕ). b ∷ drop (at + k + 1) text) feed ∙ ap (λ (n : ℕ). 10 ∷ drop n text) place)

-- the byte at a place of what is held
byte_held : {longest : ℕ} {text : List ℕ} {read : ℕ} {held : List ℕ} {count : ℕ} {line : List ℕ} (n : ℕ) → Follows longest text read held count line → n < length held →
    get_or held n 0 ≡ get_or text (read - length held + n) 0
byte_held {longest} {text} {read} {held} n follows within =
    ap (λ (t : List ℕ). get_or t n 0) follows.piece ∙ get_or-take (length held) (drop (read - length held) text) n 0 within ∙ get_or-drop (read - length held) text n 0

-- the lines from the reader's line on, where it ends at a line feed that is held
pub raw_lines-held : {longest : ℕ} {text : List ℕ} {read : ℕ} {held : List ℕ} {count : ℕ} {line : List ℕ} (n : ℕ) → Follows longest text read held count line →
    count + length held ≤ read → n < length held → get_or held n 0 ≡ 10 → HasNoLineFeed (take n held) →
    raw_lines (drop (read - length held - count) text)
    ≡ Ended (take (count + n) (drop (read - length held - count) text)) ∷ raw_lines (drop (read - length held - count + (count + n + 1)) text)
raw_lines-held {longest} {text} {read} {held} {count} n follows fits within feed none =
    let begin : ℕ = read - length held - count in
    let place : begin + (count + n) ≡ read - length held + n = omega arith in
    let inside : begin + (count + n) < length text = omega (arith, follows.within) in
    let ten : get_or text (begin + (count + n)) 0 ≡ 10 = ap (λ (k : ℕ). get_or text k 0) place ∙ sym (byte_held n follows within) ∙ feed in
    let le : n ≤ length held = omega arith in
    let whole = line_and_more n follows fits le in
    let clean : HasNoLineFeed (take (count + n) (drop begin text)) =
    subst HasNoLineFeed (sym whole) (none_in_both (take count (drop begin text)) (take n held) follows.one_line none) in
    ap raw_lines (cut_at text begin (count + n) inside ten) ∙ raw_lines-ended (take (count + n) (drop begin text)) (drop (begin + (count + n + 1)) text) clean

-- what is held after a part of it was looked at
pub held_of-moved : (piece : List ℕ) (from upto m : ℕ) → from + m ≤ upto →
    take (upto - (from + m)) (drop (from + m) piece) ≡ drop m (take (upto - from) (drop from piece))
held_of-moved piece from upto m fits =
    let whole : upto - from ≡ m + (upto - (from + m)) = omega arith in
    sym (ap (λ (n : ℕ). drop m (take n (drop from piece))) whole ∙ drop-take m (upto - (from + m)) (drop from piece) ∙ ap (take (upto - (from + m))) (drop-drop m from piece))

-- what is kept of the line with a part of what is held
pub kept_more : {longest : ℕ} {text : List ℕ} {read : ℕ} {held : List ℕ} {count : ℕ} {line : List ℕ} (n : ℕ) (after : List ℕ) → Follows longest text read held count line →
    count + length held ≤ read → n ≤ length held → count + n ≤ longest → take (count + n) after ≡ take count line ++ take n held →
    take (count + n) after ≡ take (count + n) (drop (read - length held - count) text)
kept_more {longest} {text} {read} {held} {count} n after follows fits within short keeps =
    keeps ∙ ap (λ (t : List ℕ). t ++ take n held) (follows.kept (omega arith)) ∙ sym (line_and_more n follows fits within)

-- what comes of a line that ends at a line feed that is held, and what is left
pub lines_at-held : {text : List ℕ} {read : ℕ} {held : List ℕ} {count : ℕ} {line : List ℕ} (largest longest n : ℕ) → Follows longest text read held count line →
    count + length held ≤ read → n < length held → get_or held n 0 ≡ 10 → HasNoLineFeed (take n held) →
    lines_at largest longest text (read - length held - count)
    ≡ (if nat_lt largest (read - length held - count + (count + n + 1)) then Large
    else if nat_lt longest (count + n) then Long else Kept (strip_carriage_return (take (count + n) (drop (read - length held - count) text))))
    ∷ lines_at largest longest text (read - length held - count + (count + n + 1))
lines_at-held {text} {read} {held} {count} largest longest n follows fits within feed none =
    let begin : ℕ = read - length held - count in
    let size : length (take (count + n) (drop begin text)) ≡ count + n = omega (arith, length-take (count + n) (drop begin text), length-drop begin text, follows.within) in
    ap (lines_from largest longest begin) (raw_lines-held n follows fits within feed none)
    ∙ ap (λ (k : ℕ). (if nat_lt largest (begin + (k + 1)) then Large
    else if nat_lt longest k then Long else Kept (strip_carriage_return (take (count + n) (drop begin text))))
    ∷ lines_from largest longest (begin + (k + 1)) (raw_lines (drop (begin + (count + n + 1)) text))) size

-- `line_over` and `line_goes_on`, with what is held afterwards as the code writes it
pub line_over_now : {longest : ℕ} {text : List ℕ} {read : ℕ} {held : List ℕ} {count : ℕ} {line now after : List ℕ} (m : ℕ) → Follows longest text read held count line →
    now ≡ drop m held → length held ≤ read → m ≤ length held → Follows longest text read now 0 after
line_over_now {longest} {text} {read} {held} {count} {line} {now} {after} m follows same fits within =
    subst (λ (h : List ℕ). Follows longest text read h 0 after) (sym same) (line_over m after follows fits within)

pub line_goes_on_now : {longest : ℕ} {text : List ℕ} {read : ℕ} {held : List ℕ} {count grown : ℕ} {line now after : List ℕ} (m : ℕ) → Follows longest text read held count line →
    now ≡ drop m held → grown ≡ count + m → count + length held ≤ read → m ≤ length held → HasNoLineFeed (take m held) →
    (count + m ≤ longest → take (count + m) after ≡ take count line ++ take m held) → Follows longest text read now grown after
line_goes_on_now {longest} {text} {read} {held} {count} {grown} {line} {now} {after} m follows same more fits within none keeps =
    subst (λ (h : List ℕ). Follows longest text read h grown after) (sym same)
    (subst (λ (k : ℕ). Follows longest text read (drop m held) k after) (sym more) (line_goes_on m after follows fits within none keeps))

-- the three cases of `lines_at-held`
pub lines_at-large : {text : List ℕ} {read : ℕ} {held : List ℕ} {count : ℕ} {line : List ℕ} (largest longest n : ℕ) → Follows longest text read held count line →
    count + length held ≤ read → n < length held → get_or held n 0 ≡ 10 → HasNoLineFeed (take n held) → largest < read - length held - count + (count + n + 1) →
    (more : List Line) × (lines_at largest longest text (read - length held - count) ≡ Large ∷ more)
lines_at-large {text} {read} {held} {count} largest longest n follows fits within feed none past = (
  lines_at largest longest text (read - length held - count + (count + n + 1)),
  lines_at-held largest longest n follows fits within feed none
      ∙ ap (λ (b : Bool). (if b then Large
      else if nat_lt longest (count + n) then Long else Kept (strip_carriage_return (take (count + n) (drop (read - length held - count) text))))
      ∷ lines_at largest longest text (read - length held - count + (count + n + 1))) (lt-ltb largest (read - length held - count + (count + n + 1)) past),
)

-- which line comes, by the tests
long_line : (a b : Bool) (kept : Line) → a ≡ false → b ≡ true → (if a then Large else if b then Long else kept) ≡ Long
long_line a b kept small over = rw (small, over) refl

short_line : (a b : Bool) (kept : Line) → a ≡ false → b ≡ false → (if a then Large else if b then Long else kept) ≡ kept
short_line a b kept small fits = rw (small, fits) refl

pub lines_at-long : {text : List ℕ} {read : ℕ} {held : List ℕ} {count next : ℕ} {line : List ℕ} (largest longest n : ℕ) → Follows longest text read held count line →
    count + length held ≤ read → n < length held → get_or held n 0 ≡ 10 → HasNoLineFeed (take n held) → read - length held - count + (count + n + 1) ≤ largest →
    longest < count + n → next ≡ read - length held - count + (count + n + 1) →
    lines_at largest longest text (read - length held - count) ≡ Long ∷ lines_at largest longest text next
lines_at-long {text} {read} {held} {count} {next} largest longest n follows fits within feed none near long there =
    let behind : ℕ = read - length held - count + (count + n + 1) in
    lines_at-held largest longest n follows fits within feed none
    ∙ ap (λ (l : Line). l ∷ lines_at largest longest text behind)
    (long_line (nat_lt largest behind) (nat_lt longest (count + n)) _ (le-ltb largest behind near) (lt-ltb longest (count + n) long))
    ∙ sym (ap (λ (k : ℕ). Long ∷ lines_at largest longest text k) there)

pub lines_at-kept : {text : List ℕ} {read : ℕ} {held : List ℕ} {count next : ℕ} {line bytes : List ℕ} (largest longest n : ℕ) → Follows longest text read held count line →
    count + length held ≤ read → n < length held → get_or held n 0 ≡ 10 → HasNoLineFeed (take n held) → read - length held - count + (count + n + 1) ≤ largest →
    count + n ≤ longest → next ≡ read - length held - count + (count + n + 1) → bytes ≡ strip_carriage_return (take (count + n) (drop (read - length held - count) text)) →
    lines_at largest longest text (read - length held - count) ≡ Kept bytes ∷ lines_at largest longest text next
lines_at-kept {text} {read} {held} {count} {next} {line} {bytes} largest longest n follows fits within feed none near short there stripped =
    let behind : ℕ = read - length held - count + (count + n + 1) in
    lines_at-held largest longest n follows fits within feed none
    ∙ ap (λ (l : Line). l ∷ lines_at largest longest text behind)
    (short_line (nat_lt largest behind) (nat_lt longest (count + n)) _ (le-ltb largest behind near) (le-ltb longest (count + n) short))
    ∙ sym (ap (λ (t : List ℕ). Kept t ∷ lines_at largest longest text behind) stripped)
    ∙ sym (ap (λ (k : ℕ). Kept bytes ∷ lines_at largest longest text k) there)

-- what `keep` does, in the words of what is held
pub keeps_from : (line was part after held : List ℕ) (count n : ℕ) → (count + length part ≤ length was → take (count + length part) after ≡ take count was ++ part) →
    was ≡ line → part ≡ take n held → n ≤ length held → count + n ≤ length was → take (count + n) after ≡ take count line ++ take n held
keeps_from line was part after held count n keeps same part_is within fits =
    let size : length part ≡ n = ap length part_is ∙ length-take-le n held within in
    let fits' : count + length part ≤ length was = omega arith in
    ap (λ (k : ℕ). take (count + k) after) (sym size) ∙ keeps fits' ∙ ap (λ (t : List ℕ). take count t ++ part) same ∙ ap (λ (t : List ℕ). take count line ++ t) part_is

pub part_held : (piece was : List ℕ) (from upto n k : ℕ) → was ≡ piece → k ≡ n → n ≤ upto - from → take k (drop from was) ≡ take n (take (upto - from) (drop from piece))
part_held piece was from upto n k same size fits =
    ap (λ (m : ℕ). take m (drop from was)) size ∙ ap (λ (t : List ℕ). take n (drop from t)) same ∙ sym (take-take n (upto - from) (drop from piece) fits)

-- the first line is too large where it goes past the largest text
large_first : (largest longest at : ℕ) (lines : List RawLine) → at ≤ largest → largest < at + first_bytes lines →
    (more : List Line) × (lines_from largest longest at lines ≡ Large ∷ more)
large_first largest longest at [] begun past = absurd (omega arith)
large_first largest longest at (line ∷ lines) begun past = (
  lines_from largest longest (at + bytes_of line) lines,
  ap (λ (b : Bool). (if b then Large else kept_of longest line) ∷ lines_from largest longest (at + bytes_of line) lines) (lt-ltb largest (at + bytes_of line) past),
)

pub lines_at-past : {text : List ℕ} {read : ℕ} {held : List ℕ} {count : ℕ} {line : List ℕ} (largest longest : ℕ) → Follows longest text read held count line →
    count + length held ≤ read → HasNoLineFeed held → read - length held - count ≤ largest → largest < read →
    (more : List Line) × (lines_at largest longest text (read - length held - count) ≡ Large ∷ more)
lines_at-past {text} {read} {held} {count} largest longest follows fits none begun past =
    let begin : ℕ = read - length held - count in
    let m : ℕ = length held in
    let le : m ≤ length held = omega arith in
    let all : take m held ≡ held = take_all m held le in
    let seen : List ℕ = take (count + m) (drop begin text) in
    let clean : HasNoLineFeed seen = subst HasNoLineFeed (sym (line_and_more m follows fits le)) (none_in_both (take count (drop begin text)) (take m held) follows.one_line (subst HasNoLineFeed (sym all) none)) in
    let size : length seen ≡ count + m = omega (arith, length-take (count + m) (drop begin text), length-drop begin text, follows.within) in
    let whole : seen ++ drop (count + m) (drop begin text) ≡ drop begin text = take-append-drop (count + m) (drop begin text) in
    let first : length seen ≤ first_bytes (raw_lines (drop begin text)) = subst (λ (t : List ℕ). length seen ≤ first_bytes (raw_lines t)) whole (first_bytes-from seen (drop (count + m) (drop begin text)) clean) in
    large_first largest longest begin (raw_lines (drop begin text)) begun (omega arith)

-- no line begins at the text's end
pub lines_at-end : (largest longest : ℕ) (text : List ℕ) (at : ℕ) → length text ≤ at → lines_at largest longest text at ≡ []
lines_at-end largest longest text at past = ap (λ (t : List ℕ). lines_from largest longest at (raw_lines t)) (drop_all at text past)

raw_lines-all : (t : List ℕ) → 0 < length t → HasNoLineFeed t → raw_lines t ≡ Last t ∷ []
raw_lines-all [] some none = absurd (omega arith)
raw_lines-all (b ∷ t) some none = raw_lines-last b t none

-- the last line, which no line feed ends
lines_at-last : {text : List ℕ} {read : ℕ} {held : List ℕ} {count : ℕ} {line : List ℕ} (largest longest : ℕ) → Follows longest text read held count line →
    count + length held ≤ read → length held ≡ 0 → length text ≤ read → 0 < count → read ≤ largest →
    lines_at largest longest text (read - length held - count)
    ≡ (if nat_lt longest count then Long else KeptLast (take count (drop (read - length held - count) text))) ∷ []
lines_at-last {text} {read} {held} {count} largest longest follows fits empty ends some near =
    let begin : ℕ = read - length held - count in
    let rest : List ℕ = drop begin text in
    let size : length rest ≡ count = omega (arith, length-drop begin text, follows.within) in
    let all : take count rest ≡ rest = take_all count rest (omega arith) in
    let clean : HasNoLineFeed rest = subst HasNoLineFeed all follows.one_line in
    let small : nat_lt largest (begin + length rest) ≡ false = le-ltb largest (begin + length rest) (omega arith) in
    ap (lines_from largest longest begin) (raw_lines-all rest (omega arith) clean)
    ∙ ap (λ (b : Bool). (if b then Large else if nat_lt longest (length rest) then Long else KeptLast rest) ∷ []) small
    ∙ ap (λ (k : ℕ). (if nat_lt longest k then Long else KeptLast rest) ∷ []) size
    ∙ ap (λ (t : List ℕ). (if nat_lt longest count then Long else KeptLast t) ∷ []) (sym all)

pub lines_at-last_long : {text : List ℕ} {read : ℕ} {held : List ℕ} {count next : ℕ} {line : List ℕ} (largest longest : ℕ) → Follows longest text read held count line →
    count + length held ≤ read → length held ≡ 0 → length text ≤ read → read ≤ largest → longest < count → length text ≤ next →
    lines_at largest longest text (read - length held - count) ≡ Long ∷ lines_at largest longest text next
lines_at-last_long {text} {read} {held} {count} {next} largest longest follows fits empty ends near long past =
    lines_at-last largest longest follows fits empty ends (omega arith) near
    ∙ ap (λ (b : Bool). (if b then Long else KeptLast (take count (drop (read - length held - count) text))) ∷ []) (lt-ltb longest count long)
    ∙ sym (ap (λ (ls : List Line). Long ∷ ls) (lines_at-end largest longest text next past))

pub lines_at-last_kept : {text : List ℕ} {read : ℕ} {held : List ℕ} {count next : ℕ} {line bytes : List ℕ} (largest longest : ℕ) → Follows longest text read held count line →
    count + length held ≤ read → length held ≡ 0 → length text ≤ read → 0 < count → read ≤ largest → count ≤ longest → length text ≤ next →
    bytes ≡ take count (drop (read - length held - count) text) →
    lines_at largest longest text (read - length held - count) ≡ KeptLast bytes ∷ lines_at largest longest text next
lines_at-last_kept {text} {read} {held} {count} {next} {line} {bytes} largest longest follows fits empty ends some near short past kept =
    lines_at-last largest longest follows fits empty ends some near
    ∙ ap (λ (b : Bool). (if b then Long else KeptLast (take count (drop (read - length held - count) text))) ∷ []) (le-ltb longest count short)
    ∙ sym (ap (λ (t : List ℕ). KeptLast t ∷ []) kept)
    ∙ sym (ap (λ (ls : List Line). KeptLast bytes ∷ ls) (lines_at-end largest longest text next past))

-- the line stands in the piece: what is shown of it there
pub shown_held : {longest : ℕ} {text : List ℕ} {read : ℕ} {count : ℕ} {line : List ℕ} (piece part : List ℕ) (from upto n size : ℕ) →
    Follows longest text read (take (upto - from) (drop from piece)) count line → count ≡ 0 → length (take (upto - from) (drop from piece)) ≡ upto - from → n ≤ upto - from →
    part ≡ take n (take (upto - from) (drop from piece)) → size ≤ length part → take size part ≡ strip_carriage_return part →
    take (from + size - from) (drop from piece)
    ≡ strip_carriage_return (take (count + n) (drop (read - length (take (upto - from) (drop from piece)) - count) text))
shown_held {longest} {text} {read} {count} piece part from upto n size follows whole long fits part_is within stripped =
    let held : List ℕ = take (upto - from) (drop from piece) in
    let long_part : length part ≡ n = ap length part_is ∙ length-take-le n held (omega arith) in
    let short : size ≤ n = omega arith in
    let plain : from + size - from ≡ size = omega arith in
    let added : count + n ≡ n = omega arith in
    let there : read - length held - count ≡ read - length held = omega arith in
    ap (λ (k : ℕ). take k (drop from piece)) plain
    ∙ sym (take-take size (upto - from) (drop from piece) (omega arith))
    ∙ sym (take-take size n held short)
    ∙ sym (ap (take size) part_is)
    ∙ stripped
    ∙ ap strip_carriage_return (part_is ∙ held_front n follows (omega arith)
    ∙ sym (ap (λ (k : ℕ). take k (drop (read - length held - count) text)) added ∙ ap (λ (k : ℕ). take n (drop k text)) there))

-- the line stands in what is kept of it: what is shown of it there
pub shown_kept : (text part after : List ℕ) (size n begin : ℕ) → take size part ≡ strip_carriage_return part → size ≤ length part →
    part ≡ take n after → take n after ≡ take n (drop begin text) → take size after ≡ strip_carriage_return (take n (drop begin text))
shown_kept text part after size n begin stripped within part_is whole =
    let short : size ≤ n = omega (arith, ap length part_is, length-take n after) in
    sym (take-take size n after short) ∙ sym (ap (take size) part_is) ∙ stripped ∙ ap strip_carriage_return (part_is ∙ whole)

-- `line_over_now` for a line of which nothing stood in a piece before
pub line_over_whole : {longest : ℕ} {text : List ℕ} {read : ℕ} {held : List ℕ} {count : ℕ} {line now after : List ℕ} (m : ℕ) → Follows longest text read held count line →
    count ≡ 0 → now ≡ drop m held → length held ≤ read → m ≤ length held → Follows longest text read now count after
line_over_whole {longest} {text} {read} {held} {count} {line} {now} {after} m follows none same fits within =
    subst (λ (k : ℕ). Follows longest text read now k after) (sym none) (line_over_now m follows same fits within)
