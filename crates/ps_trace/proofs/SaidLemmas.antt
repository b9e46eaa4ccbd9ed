-- What a line after the header says, case by case.
use Rattle.std.proofs.Common.{◌≡◌, ◌≢◌, ℕ, List, [], ◌∷◌, Bool, true, false, Option, Some, is_some, length, map, refl, ◌∙◌, ap, arith}
use Rattle.std.specs.List.{list_all, filter_map}
use Rattle.std.specs.Char.{is_ascii_digit}
use Rattle.std.specs.Prelude.{◌==◌, codes}
use Rattle.std.specs.Str.{bytes_eq}
use Rattle.std.proofs.lemmas.Bool.{and_parts, and_left}
use Rattle.std.proofs.lemmas.List.{length-map}
use Rattle.std.proofs.lemmas.Grind.{common_steps}
use Rattle.ps_base.specs.declared.failing.Rule.TheVariants.{T4, T5}
use Rattle.ps_trace.specs.Words.{number_of, fields}
use Rattle.ps_trace.specs.Trace.{value_of, line_said, is_restart, scan_line, scan_at_time}
use Rattle.ps_trace.specs.Trace.Said.{breaks}
use Rattle.ps_trace.specs.LineSays.{word_of, IsPlain}
use Rattle.ps_trace.proofs.Numbers.{number_of-parts}
use Rattle.ps_trace.proofs.PlainLemmas.{proper-plain, values-plain}

-- a line with words that is plain restart is a scan line
scan_said : (names last : ℕ) (all : List (List ℕ)) (word : List ℕ) (words : List (List ℕ)) → all ≡ word ∷ words → is_restart word words ≡ false →
    line_said names last all ≡ scan_line names last word words
scan_said names last all word words is plain = ap (line_said names last) is ∙ grind (arith, common_steps)

pub said_T4 : (names last : ℕ) (all : List (List ℕ)) (word : List ℕ) (words : List (List ℕ)) → all ≡ word ∷ words → is_restart word words ≡ false →
    length words ≢ names → line_said names last all ≡ breaks T4
said_T4 names last all word words is plain differs = scan_said names last all word words is plain ∙ grind (arith, common_steps)

pub said_T5 : (names last : ℕ) (all : List (List ℕ)) (word : List ℕ) (words : List (List ℕ)) → all ≡ word ∷ words → is_restart word words ≡ false →
    length words ≡ names → list_all (λ w. is_some (value_of w)) words ≡ false → line_said names last all ≡ breaks T5
said_T5 names last all word words is plain same bad = scan_said names last all word words is plain ∙ grind (arith, common_steps)

-- a line with its values is judged by its time
pub scan_at_time_said : (names last : ℕ) (all : List (List ℕ)) (word : List ℕ) (words : List (List ℕ)) → all ≡ word ∷ words → is_restart word words ≡ false →
    length words ≡ names → list_all (λ w. is_some (value_of w)) words ≡ true → line_said names last all ≡ scan_at_time last (number_of word) (filter_map value_of words)
scan_at_time_said names last all word words is plain same good = scan_said names last all word words is plain ∙ grind (arith, common_steps)

-- a number is another word than `restart`
restart_differs : (word : List ℕ) (others : List (List ℕ)) (value : ℕ) → number_of word ≡ Some value → is_restart word others ≡ false
restart_differs word (other ∷ others) value is = refl
restart_differs [] [] value is = refl
restart_differs (b ∷ word) [] value is =
    let digits = number_of-parts (b ∷ word) value is in
    let digit : is_ascii_digit b ≡ true = (and_parts (is_ascii_digit b) (list_all is_ascii_digit word) digits.1).0 in
    let other : (b == 114) ≡ false = grind (arith, common_steps) in
    and_left (b == 114) (bytes_eq word (codes "estart")) other

-- a line with a time and values, one for each name, is judged by its time
pub plain_said : (names last now : ℕ) (line : List ℕ) (values : List Bool) → IsPlain line now values → length values ≡ names →
    line_said names last (fields line) ≡ scan_at_time last (Some now) values
plain_said names last now line values plain size =
    scan_at_time_said names last (fields line) plain.time (map word_of values) plain.whole (restart_differs plain.time (map word_of values) now plain.number)
    (length-map values word_of ∙ size) (proper-plain values)
    ∙ ap (λ (n : Option ℕ). scan_at_time last n (filter_map value_of (map word_of values))) plain.number
    ∙ ap (scan_at_time last (Some now)) (values-plain values)

-- the same, with the time and the values as the code has them
pub scan_at_time_with : (last : ℕ) {time was : Option ℕ} {values found : List Bool} → time ≡ was → values ≡ found → scan_at_time last time values ≡ scan_at_time last was found
scan_at_time_with last {time} {was} {values} {found} same put = ap (λ (t : Option ℕ). scan_at_time last t values) same ∙ ap (scan_at_time last was) put
