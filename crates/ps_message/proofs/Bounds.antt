-- How long a message and its parts are.
use Rattle.std.proofs.Common.{◌≡◌, ℕ, ◌+◌, ◌-◌, ◌*◌, ◌^◌, ◌<◌, ◌≤◌, Bool, true, false, not, ◌==◌, ◌||◌, nat_lt, nat_le, IsTrue, ◌&&◌, if◌then◌else◌, List, [], ◌∷◌, ◌++◌, length, take, drop, replicate, codes, decimal, arith, length-append, length-drop, lit≤, append_assoc}
use Rattle.std.proofs.lemmas.Bool.Decides.{nat_tests}
use Rattle.ps_base.specs.declared.failing.Place.{Place}
use Rattle.ps_message.specs.declared.advice.Advice.{Advice}
use Rattle.ps_text.specs.Shown.{first_shown, last_shown}
use Rattle.ps_text.specs.Quoted.{line_of, behind, name_at, quoted}
use Rattle.ps_text.specs.Lines.{IsEnded}
use Rattle.ps_text.proofs.Lengths.{length-column, length-first_shown, length-last_shown, length-name_at, length-number, length-quoted}
use Rattle.ps_message.specs.Message.{heading, reason, further, remedy, message_text, is_short}

-- no part of an advice is long
pub record IsShort (advice : Advice) : Type 0 where
  pub name : length advice.name.now ≤ 3
  pub sentence : length advice.sentence.now ≤ 200
  pub of_name : length advice.of_name.now ≤ 200
  pub remedy : length advice.remedy.now ≤ 200

-- four tests together
four : (a b c d : ℕ) → IsTrue (nat_le a 3 && nat_le b 200 && nat_le c 200 && nat_le d 200) → (a ≤ 3) × (b ≤ 200) × (c ≤ 200) × (d ≤ 200)
four a b c d holds = grind (arith, nat_tests)

pub short-advice : (advice : Advice) → IsTrue (is_short advice) → IsShort advice
short-advice advice holds =
    let all = four (length advice.name.now) (length advice.sentence.now) (length advice.of_name.now) (length advice.remedy.now) holds in
    record { name = all.0; sentence = all.1; of_name = all.2; remedy = all.3 }

-- the parts of a heading
heading-size : (file line column name : List ℕ) → length file ≤ 1023 → length line ≤ 10 → length column ≤ 11 → length name ≤ 3 →
    length (file ++ codes ":" ++ line ++ column ++ codes ": " ++ name ++ codes ": ") ≤ 1052
heading-size file line column name f l c n = simp length-append (omega arith)

length-heading : (file : List ℕ) (place : Place) (advice : Advice) → IsShort advice → place.line < 2 ^ 32 → place.column < 2 ^ 32 →
    length (heading file place advice) ≤ 1052
length-heading file place advice short line column =
    heading-size (last_shown 255 file) (decimal place.line) (if place.column == 0 then [] else codes ":" ++ decimal place.column) advice.name.now
    (length-last_shown 255 file) (length-number place.line line) (length-column place.column column) short.name

length-reason : (advice : Advice) (name : List ℕ) → IsShort advice → length name ≤ 64 → length (reason advice name) ≤ 264
length-reason advice name short few =
    elim (length name == 0 || length advice.of_name.now == 0) as (λ v. length (if v then advice.sentence.now else name ++ advice.of_name.now) ≤ 264)
    [ true ↦ omega (arith, short.sentence) | false ↦ omega (arith, length-append name advice.of_name.now, short.of_name) ]

-- the parts of a remedy
remedy-size : (help name : List ℕ) → length help ≤ 200 → length name ≤ 3 → length (help ++ (codes " (docs/refusals.md, " ++ name ++ codes ")\n")) ≤ 225
remedy-size help name h n = simp length-append (omega arith)

length-remedy : (advice : Advice) → IsShort advice → length (remedy advice) ≤ 225
length-remedy advice short = remedy-size advice.remedy.now advice.name.now short.remedy short.name

-- further words
further-size : (n : ℕ) (shown : List ℕ) → length shown ≤ 803 → length (if n == 0 then [] else shown ++ codes "\n") ≤ 804
further-size n shown few =
    elim (n == 0) as (λ v. length (if v then [] else shown ++ codes "\n") ≤ 804) [ true ↦ lit≤ tt | false ↦ omega (arith, length-append shown (codes "\n")) ]

length-further : (words : List ℕ) → length (further words) ≤ 804
length-further words = further-size (length words) (first_shown 200 words) (length-first_shown 200 words)

-- the parts of a message
message-size : (heading reason quoted words remedy : List ℕ) → length heading ≤ 1052 → length reason ≤ 264 → length quoted ≤ 580 → length words ≤ 804 →
    length remedy ≤ 225 → length (heading ++ reason ++ codes "\n" ++ quoted ++ words ++ remedy) ≤ 3000
message-size heading reason quoted words remedy h r q w m = simp length-append (omega arith)

-- a message is short
pub length-message : (advice : Advice) (words file text : List ℕ) (place : Place) → IsShort advice → place.line < 2 ^ 32 → place.column < 2 ^ 32 →
    length (message_text advice words file text place) ≤ 3000
length-message advice words file text place short line column =
    let here : List ℕ = line_of text place.line in
    message-size (heading file place advice) (reason advice (name_at (behind here place.column))) (quoted here place.column) (further words) (remedy advice)
    (length-heading file place advice short line column)
    (length-reason advice (name_at (behind here place.column)) short (length-name_at (behind here place.column)))
    (length-quoted here place.column) (length-further words) (length-remedy advice short)

-- a text that ends with a reference ends with a line feed
ends : (body help start name : List ℕ) →
    body ++ (help ++ (start ++ name ++ codes ")\n")) ≡ (body ++ (help ++ (start ++ name ++ codes ")"))) ++ codes "\n"
ends body help start name = simp append_assoc

-- a message ends with a line feed
pub message-ended : (advice : Advice) (words file text : List ℕ) (place : Place) → IsEnded (message_text advice words file text place)
message-ended advice words file text place =
    let here : List ℕ = line_of text place.line in
    let body : List ℕ = heading file place advice ++ reason advice (name_at (behind here place.column)) ++ codes "\n" ++ quoted here place.column ++ further words in (
      body ++ (advice.remedy.now ++ (codes " (docs/refusals.md, " ++ advice.name.now ++ codes ")")),
      ends body advice.remedy.now (codes " (docs/refusals.md, ") advice.name.now,
    )
