-- How the bytes that a reader of lines holds are cut at a line feed.
use Rattle.std.proofs.Common.{◌≡◌, ◌≤◌, ◌<◌, ◌+◌, ◌-◌, ℕ, suc, List, [], ◌∷◌, ◌++◌, length, map, take, drop, get_or, refl, sym, ◌∙◌, ap, subst, arith, length-drop, append-nil, append_assoc}
use Rattle.std.proofs.lemmas.Grind.{common_steps}
use Rattle.std.proofs.Math.Seq.{take-add, take-append-add}
use Rattle.std.proofs.lemmas.List.{drop-drop, drop_more, take-append-le, take-take, length-take-le}
use Rattle.std.proofs.lemmas.List.Edits.{take-paste}
use Rattle.std.specs.List.{copy_within}
use Rattle.std.proofs.lemmas.List.Folds.{list_any-append}
use Rattle.std.proofs.lemmas.Bool.{lt-ltb, le-ltb}
use Rattle.std.specs.Prelude.{◌==◌, if◌then◌else◌}
use Rattle.std.specs.Str.Lines.{strip_carriage_return}
use Rattle.ps_lines.specs.Lines.{RawLine, Line, raw_lines, onto_first, kept_of, HasNoLineFeed}
use Rattle.ps_lines.specs.Lines.RawLine.{Ended, Last}
use Rattle.ps_lines.specs.Lines.Line.{Kept, KeptLast, Long}
use Rattle.ps_lines.proofs.Cut.{raw_lines-ended, raw_lines-last}
use Rattle.ps_bench_watch.specs.declared.coming.Came.{Came}
use Rattle.ps_bench_watch.specs.declared.coming.Came.TheVariants.{LastLine, End}
use Rattle.ps_bench_watch.specs.Reading.{Gives, held_of, left}
use Rattle.ps_bench_watch.specs.declared.lines.StreamLines.{StreamLines}
use Rattle.ps_bench_watch.specs.Streams.{stream_lines}

-- no line feed stands among bytes, nor among those after them
pub none_joined : (bytes : List ℕ) (from m n : ℕ) → HasNoLineFeed (take m (drop from bytes)) → HasNoLineFeed (take n (drop (from + m) bytes)) →
    HasNoLineFeed (take (m + n) (drop from bytes))
none_joined bytes from m n first behind =
    let both : take (m + n) (drop from bytes) ≡ take m (drop from bytes) ++ take n (drop (from + m) bytes) =
    take-add m n (drop from bytes) ∙ ap (λ (t : List ℕ). take m (drop from bytes) ++ take n t) (drop-drop m from bytes) in
    subst HasNoLineFeed (sym both)
    (list_any-append (λ b. b == 10) (take m (drop from bytes)) (take n (drop (from + m) bytes)) ∙ grind (arith, common_steps))

-- the bytes that are held, cut at a line feed
pub cut_at_feed : (bytes : List ℕ) (from m n : ℕ) → from + m < length bytes → get_or bytes (from + m) 0 ≡ 10 →
    take (m + suc n) (drop from bytes) ≡ take m (drop from bytes) ++ 10 ∷ take n (drop (from + m + 1) bytes)
cut_at_feed bytes from m n within feed =
    take-add m (suc n) (drop from bytes)
    ∙ ap (λ (t : List ℕ). take m (drop from bytes) ++ take (suc n) t) (drop-drop m from bytes ∙ drop_more bytes (from + m) 0 within)
    ∙ ap (λ (b : ℕ). take m (drop from bytes) ++ b ∷ take n (drop (from + m + 1) bytes)) feed

-- how many bytes the first line has
abbrev first_length : List RawLine → ℕ
first_length [] = 0
first_length (Ended line ∷ lines) = length line
first_length (Last line ∷ lines) = length line

first_length-onto : (b : ℕ) (lines : List RawLine) → first_length (onto_first b lines) ≡ first_length lines + 1
first_length-onto b [] = refl
first_length-onto b (Ended line ∷ lines) = omega arith
first_length-onto b (Last line ∷ lines) = omega arith

-- the first line has at least the bytes before any line feed
first_length-from : (line rest : List ℕ) → HasNoLineFeed line → length line ≤ first_length (raw_lines (line ++ rest))
first_length-from [] rest none = omega arith
first_length-from (b ∷ line) rest none =
    let ih : HasNoLineFeed line → length line ≤ first_length (raw_lines (line ++ rest)) = first_length-from line rest in
    let more = first_length-onto b (raw_lines (line ++ rest)) in
    grind (arith, common_steps)

long_first : (longest : ℕ) (lines : List RawLine) → longest < first_length lines → (more : List Line) × (map (kept_of longest) lines ≡ Long ∷ more)
long_first longest [] long = absurd (omega (arith, long))
long_first longest (Ended line ∷ lines) long =
    (map (kept_of longest) lines, ap (λ b. (if b then Long else Kept (strip_carriage_return line)) ∷ map (kept_of longest) lines) (lt-ltb longest (length line) long))
long_first longest (Last line ∷ lines) long =
    (map (kept_of longest) lines, ap (λ b. (if b then Long else KeptLast line) ∷ map (kept_of longest) lines) (lt-ltb longest (length line) long))

-- a line that is already too long is too long, whatever comes
pub too_long : (longest : ℕ) (held coming : List ℕ) → HasNoLineFeed held → longest < length held →
    (more : List Line) × (stream_lines longest (held ++ coming) ≡ Long ∷ more)
too_long longest held coming none long =
    let most = first_length-from held coming none in
    long_first longest (raw_lines (held ++ coming)) (omega (arith, most, long))

-- a line that a line feed ends
pub long_ended : (longest : ℕ) (line rest : List ℕ) → HasNoLineFeed line → longest < length line →
    (more : List Line) × (stream_lines longest (line ++ 10 ∷ rest) ≡ Long ∷ more)
long_ended longest line rest none long = too_long longest line (10 ∷ rest) none long

pub kept_ended : (longest : ℕ) (line rest : List ℕ) → HasNoLineFeed line → length line ≤ longest →
    stream_lines longest (line ++ 10 ∷ rest) ≡ Kept (strip_carriage_return line) ∷ stream_lines longest rest
kept_ended longest line rest none short =
    ap (map (kept_of longest)) (raw_lines-ended line rest none)
    ∙ ap (λ b. (if b then Long else Kept (strip_carriage_return line)) ∷ stream_lines longest rest) (le-ltb longest (length line) short)

-- the last line
pub kept_last : (longest : ℕ) (held : List ℕ) → HasNoLineFeed held → length held ≤ longest → 0 < length held →
    stream_lines longest (held ++ []) ≡ KeptLast held ∷ []
kept_last longest [] none short some = absurd (omega (arith, some))
kept_last longest (b ∷ line) none short some =
    ap (stream_lines longest) (append-nil (b ∷ line)) ∙ ap (map (kept_of longest)) (raw_lines-last b line none)
    ∙ ap (λ x. (if x then Long else KeptLast (b ∷ line)) ∷ []) (le-ltb longest (length (b ∷ line)) short)

-- what the end of a stream makes of the bytes that are held
pub ended : (longest : ℕ) (held after : List ℕ) (size : ℕ) → length held ≡ size → HasNoLineFeed held → length held ≤ longest → after ≡ [] →
    (came : Came) → (size ≡ 0 → came ≡ End) → (0 < size → came ≡ LastLine) →
    Gives (stream_lines longest (held ++ [])) came held (stream_lines longest (after ++ []))
ended longest [] after size is none short left came empty some =
    subst (λ (c : Came). Gives (stream_lines longest []) c [] (stream_lines longest (after ++ []))) (sym (empty (sym is)))
    (refl, ap (λ (bytes : List ℕ). stream_lines longest (bytes ++ [])) left)
ended longest (b ∷ line) after size is none short left came empty some =
    let more : 0 < size = omega (arith, is) in
    let one : 0 < length (b ∷ line) = omega arith in
    subst (λ (c : Came). Gives (stream_lines longest ((b ∷ line) ++ [])) c (b ∷ line) (stream_lines longest (after ++ []))) (sym (some more))
    (kept_last longest (b ∷ line) none short one, ap (λ (bytes : List ℕ). stream_lines longest (bytes ++ [])) left)

-- bytes that are read after others
read_behind : (xs buf post : List ℕ) (u n : ℕ) → u ≤ length xs → n ≤ length buf → take (u + n) (take u xs ++ (buf ++ post)) ≡ take u xs ++ take n buf
read_behind xs buf post u n within fits =
    ap (λ k. take (k + n) (take u xs ++ (buf ++ post))) (sym (length-take-le u xs within))
    ∙ take-append-add (take u xs) (buf ++ post) n ∙ ap (λ t. take u xs ++ t) (take-append-le n buf post fits)

-- What was read stands after what was held, and both are of one stream. The places after stay as they are.
pub read_more : (xs items buf post behind : List ℕ) (len f u n : ℕ) (coming coming' held : List ℕ) → f ≡ 0 → xs ≡ items → u ≤ length xs → n ≤ length buf → u + n ≤ len →
    take (u - f) (drop f items) ≡ held → coming ≡ take n buf ++ coming' →
    take (u + n - f) (drop f (take len ((take u xs ++ (buf ++ post)) ++ behind))) ++ coming' ≡ held ++ coming
read_more xs items buf post behind len f u n coming coming' held none value within fits room was gives =
    let size : u + n - f ≡ u + n = omega (arith, none) in
    let size' : u - f ≡ u = omega (arith, none) in
    ap (λ k. take k (drop f (take len ((take u xs ++ (buf ++ post)) ++ behind))) ++ coming') size
    ∙ ap (λ k. take (u + n) (drop k (take len ((take u xs ++ (buf ++ post)) ++ behind))) ++ coming') none
    ∙ ap (λ l. l ++ coming') (take-take (u + n) len ((take u xs ++ (buf ++ post)) ++ behind) room)
    ∙ ap (λ l. take (u + n) l ++ coming') (append_assoc (take u xs) (buf ++ post) behind ∙ ap (λ l. take u xs ++ l) (append_assoc buf post behind))
    ∙ ap (λ l. l ++ coming') (read_behind xs buf (post ++ behind) u n within fits)
    ∙ append_assoc (take u xs) (take n buf) coming'
    ∙ ap (λ l. l ++ (take n buf ++ coming')) (ap (take u) value ∙ sym (ap (λ k. take u (drop k items)) none) ∙ sym (ap (λ k. take k (drop f items)) size') ∙ was)
    ∙ ap (λ l. held ++ l) (sym gives)

-- What stood there before what was read stays as it is.
pub kept_part : (xs items buf post behind : List ℕ) (len f u k : ℕ) → f ≡ 0 → xs ≡ items → u ≤ length xs → u ≤ len → k ≤ u →
    take k (drop f (take len ((take u xs ++ (buf ++ post)) ++ behind))) ≡ take k (drop f items)
kept_part xs items buf post behind len f u k none value within room few =
    ap (λ j. take k (drop j (take len ((take u xs ++ (buf ++ post)) ++ behind)))) none
    ∙ take-take k len ((take u xs ++ (buf ++ post)) ++ behind) (omega (arith, few, room))
    ∙ ap (take k) (append_assoc (take u xs) (buf ++ post) behind)
    ∙ take-append-le k (take u xs) ((buf ++ post) ++ behind) (omega (arith, few, length-take-le u xs within))
    ∙ take-take k u xs few ∙ ap (take k) value ∙ sym (ap (λ j. take k (drop j items)) none)

-- what is moved down to the first places
pub moved_down : (bytes moved : List ℕ) (from upto : ℕ) → from ≤ upto → upto ≤ length bytes → moved ≡ copy_within bytes from upto 0 →
    take (upto - from - 0) moved ≡ take (upto - from) (drop from bytes)
moved_down bytes moved from upto order within is =
    let size : upto - from - 0 ≡ 0 + (upto - from) = omega arith in
    ap (λ (k : ℕ). take k moved) size ∙ ap (take (0 + (upto - from))) is
    ∙ take-paste bytes 0 (drop from bytes) (upto - from) (omega arith) (omega (arith, order, within, length-drop {A = ℕ}))

-- no line feed stands where no bytes do
pub none_behind : (bytes : List ℕ) (from looked : ℕ) → looked ≤ from → HasNoLineFeed (take (looked - from) (drop from bytes))
none_behind bytes from looked most =
    let none : looked - from ≡ 0 = omega (arith, most) in
    subst (λ (k : ℕ). HasNoLineFeed (take k (drop from bytes))) (sym none) refl

-- no line feed stands up to a place, where none stands before another one, nor after that
pub none_upto : (bytes : List ℕ) (from looked n : ℕ) → from ≤ looked → HasNoLineFeed (take (looked - from) (drop from bytes)) → HasNoLineFeed (take n (drop looked bytes)) →
    HasNoLineFeed (take (looked + n - from) (drop from bytes))
none_upto bytes from looked n order first behind =
    let place : from + (looked - from) ≡ looked = omega (arith, order) in
    let size : looked - from + n ≡ looked + n - from = omega (arith, order) in
    subst (λ (k : ℕ). HasNoLineFeed (take k (drop from bytes))) size
    (none_joined bytes from (looked - from) n first (subst (λ (k : ℕ). HasNoLineFeed (take n (drop k bytes))) (sym place) behind))

pub none_all : (bytes : List ℕ) (from looked upto : ℕ) → from ≤ looked → looked ≤ upto → HasNoLineFeed (take (looked - from) (drop from bytes)) →
    HasNoLineFeed (take (upto - looked) (drop looked bytes)) → HasNoLineFeed (take (upto - from) (drop from bytes))
none_all bytes from looked upto order order' first behind =
    let size : looked + (upto - looked) - from ≡ upto - from = omega (arith, order, order') in
    subst (λ (k : ℕ). HasNoLineFeed (take k (drop from bytes))) size (none_upto bytes from looked (upto - looked) order first behind)

-- what is held, cut at a line feed
held_cut : (bytes : List ℕ) (from feed upto : ℕ) → from ≤ feed → feed < upto → upto ≤ length bytes → get_or bytes feed 0 ≡ 10 →
    take (upto - from) (drop from bytes) ≡ take (feed - from) (drop from bytes) ++ 10 ∷ take (upto - (feed + 1)) (drop (feed + 1) bytes)
held_cut bytes from feed upto order held within is =
    let place : from + (feed - from) ≡ feed = omega (arith, order) in
    let size : upto - from ≡ feed - from + suc (upto - (feed + 1)) = omega (arith, order, held) in
    let inside : from + (feed - from) < length bytes = omega (arith, order, held, within) in
    ap (λ (k : ℕ). take k (drop from bytes)) size
    ∙ cut_at_feed bytes from (feed - from) (upto - (feed + 1)) inside (ap (λ (k : ℕ). get_or bytes k 0) place ∙ is)
    ∙ ap (λ (k : ℕ). take (feed - from) (drop from bytes) ++ 10 ∷ take (upto - (feed + 1)) (drop (k + 1) bytes)) place

-- the lines of what is held and of what is to come, cut at a line feed
lines_cut : (longest : ℕ) (bytes : List ℕ) (from feed upto : ℕ) (coming : List ℕ) → from ≤ feed → feed < upto → upto ≤ length bytes → get_or bytes feed 0 ≡ 10 →
    stream_lines longest (take (upto - from) (drop from bytes) ++ coming)
    ≡ stream_lines longest (take (feed - from) (drop from bytes) ++ 10 ∷ (take (upto - (feed + 1)) (drop (feed + 1) bytes) ++ coming))
lines_cut longest bytes from feed upto coming order held within is =
    ap (λ (l : List ℕ). stream_lines longest (l ++ coming)) (held_cut bytes from feed upto order held within is)
    ∙ ap (stream_lines longest) (append_assoc (take (feed - from) (drop from bytes)) (10 ∷ take (upto - (feed + 1)) (drop (feed + 1) bytes)) coming)

part_length : (bytes : List ℕ) (from feed : ℕ) → from ≤ feed → feed < length bytes → length (take (feed - from) (drop from bytes)) ≡ feed - from
part_length bytes from feed order within = length-take-le (feed - from) (drop from bytes) (omega (arith, order, within, length-drop {A = ℕ}))

-- a line that is too long, up to its line feed
pub long_cut : (longest : ℕ) (bytes : List ℕ) (from feed upto : ℕ) (coming : List ℕ) → from ≤ feed → feed < upto → upto ≤ length bytes → get_or bytes feed 0 ≡ 10 →
    HasNoLineFeed (take (feed - from) (drop from bytes)) → longest < feed - from →
    (more : List Line) × (stream_lines longest (take (upto - from) (drop from bytes) ++ coming) ≡ Long ∷ more)
long_cut longest bytes from feed upto coming order held within is none long =
    let size = part_length bytes from feed order (omega (arith, held, within)) in
    let found = long_ended longest (take (feed - from) (drop from bytes)) (take (upto - (feed + 1)) (drop (feed + 1) bytes) ++ coming) none (omega (arith, size, long)) in
    (found.0, lines_cut longest bytes from feed upto coming order held within is ∙ found.1)

-- a line that is kept, up to its line feed
pub kept_cut : (longest : ℕ) (bytes : List ℕ) (from feed upto stripped : ℕ) (coming : List ℕ) → from ≤ feed → feed < upto → upto ≤ length bytes → get_or bytes feed 0 ≡ 10 →
    HasNoLineFeed (take (feed - from) (drop from bytes)) → feed - from ≤ longest → stripped ≤ feed - from →
    take stripped (take (feed - from) (drop from bytes)) ≡ strip_carriage_return (take (feed - from) (drop from bytes)) →
    stream_lines longest (take (upto - from) (drop from bytes) ++ coming)
    ≡ Kept (take (from + stripped - from) (drop from bytes)) ∷ stream_lines longest (take (upto - (feed + 1)) (drop (feed + 1) bytes) ++ coming)
kept_cut longest bytes from feed upto stripped coming order held within is none short fits strips =
    let size = part_length bytes from feed order (omega (arith, held, within)) in
    let count : from + stripped - from ≡ stripped = omega arith in
    lines_cut longest bytes from feed upto coming order held within is
    ∙ kept_ended longest (take (feed - from) (drop from bytes)) (take (upto - (feed + 1)) (drop (feed + 1) bytes) ++ coming) none (omega (arith, size, short))
    ∙ ap (λ (l : List ℕ). Kept l ∷ stream_lines longest (take (upto - (feed + 1)) (drop (feed + 1) bytes) ++ coming))
    (sym strips ∙ take-take stripped (feed - from) (drop from bytes) fits ∙ sym (ap (λ (k : ℕ). take k (drop from bytes)) count))

-- what is left to two readers that hold and wait for the same
pub left_same : (r r' : StreamLines) (coming coming' : List ℕ) → r.longest ≡ r'.longest → held_of r ++ coming ≡ held_of r' ++ coming' → left r coming ≡ left r' coming'
left_same r r' coming coming' longest same = ap (λ (k : ℕ). stream_lines k (held_of r ++ coming)) longest ∙ ap (stream_lines r'.longest) same
