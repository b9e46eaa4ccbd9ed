-- Odd comments: what is told of those that were found, and a walk over an application.
use Rattle.std.proofs.Common.{◌≡◌, ℕ, suc, ◌+◌, ◌<◌, ◌≤◌, ◌∙◌, Bool, true, false, cond, eqb, min, List, [], ◌∷◌, ◌++◌, ◌||◌, Option}
use Rattle.std.proofs.Common.{Result, Ok, Err, IfOk, IsTrue, append_assoc, ap, arith, length, refl, not, subst, sym, take}
use Rattle.std.proofs.Math.Bool.{or-false}
use Rattle.std.proofs.lemmas.Bool.{le-ltb, lt-ltb}
use Rattle.std.proofs.lemmas.List.{append-nil, take-append-le, take_all}
use Rattle.std.proofs.lemmas.List.Sums.{sum_by-cons, take_while-cons}
use Rattle.std.specs.List.{count_by, take_while}
use Rattle.ps_base.specs.declared.failing.Place.{Place}
use Rattle.ps_lexer.specs.Gaps.{is_line_feed}
use Rattle.ps_notes.specs.declared.note.OddComment.{OddComment}
use Rattle.ps_notes.specs.declared.note.Oddity.{Oddity}
use Rattle.ps_findings.specs.declared.odds.Odd.{Odd}
use Rattle.ps_findings.specs.declared.comments.Spot.{Spot}
use Rattle.ps_findings.specs.declared.comments.Walk.{Walk}
use Rattle.ps_findings.specs.Comments.{after_two, counted, firsts, odd_at, odd_in, odd_line, odd_lines, odd_places, place_behind, spot_after, told_of}
use Rattle.ps_findings.specs.Walking.{HasAdded, IsAt, told}

-- ---- whether one of several tests is passed

-- the first one
pub is_first : (r a b : Bool) → r ≡ a → r ≡ true → true ≡ (a || b)
is_first r a b is passes = sym (ap (λ (x : Bool). x || b) (sym is ∙ passes))

-- not the first one
pub is_later : (q r a b : Bool) → r ≡ a → r ≡ false → q ≡ b → q ≡ (a || b)
is_later q r a b is no_first later = later ∙ sym (ap (λ (x : Bool). x || b) (sym is ∙ no_first))

-- the last one, or none
pub is_last : (r a : Bool) → r ≡ a → r ≡ (a || false)
is_last r a is = is ∙ sym (or-false a)

-- ---- what is told

-- one of a later line is told
pub one_more : (list : List OddComment) (last : ℕ) (odd : OddComment) (further : List OddComment) → last < odd.place.line →
    take 20 ((list ++ odd ∷ []) ++ firsts odd.place.line further) ≡ take 20 (list ++ firsts last (odd ∷ further))
one_more list last odd further later =
    ap (take 20) (append_assoc list (odd ∷ []) (firsts odd.place.line further)
    ∙ ap (λ t. list ++ t) (sym (ap (λ b. cond b (odd ∷ firsts odd.place.line further) (firsts last further)) (lt-ltb last odd.place.line later))))

-- one of no later line is not
pub passed_over : (list : List OddComment) (last : ℕ) (odd : OddComment) (further : List OddComment) → odd.place.line ≤ last →
    take 20 (list ++ firsts last further) ≡ take 20 (list ++ firsts last (odd ∷ further))
passed_over list last odd further earlier =
    ap (λ t. take 20 (list ++ t)) (sym (ap (λ b. cond b (odd ∷ firsts odd.place.line further) (firsts last further)) (le-ltb last odd.place.line earlier)))

-- after twenty nothing is told
pub enough : (list a b : List OddComment) → 20 ≤ length list → take 20 (list ++ a) ≡ take 20 (list ++ b)
enough list a b full = take-append-le 20 list a full ∙ sym (take-append-le 20 list b full)

-- what is told where nothing is found further
pub all_told : (list : List OddComment) → length list ≤ 20 → list ≡ take 20 (list ++ [])
all_told list few = sym (ap (take 20) (append-nil list) ∙ take_all 20 list few)

-- nothing is added by nothing
pub none_added : (odd : Odd) → HasAdded [] odd odd
none_added odd whole = (whole, λ further. refl)

-- what is added after what was added
pub added_more : (a b c : Odd) (xs ys : List OddComment) → HasAdded xs a b → HasAdded ys b c → HasAdded (xs ++ ys) a c
added_more a b c xs ys first second whole =
    let later = second whole in
    let before = first later.0 in
    (before.0, λ further. later.1 further ∙ before.1 (ys ++ further) ∙ ap (told a) (sym (append_assoc xs ys further)))

-- what is told in the end, where nothing was found at first
pub finished : {V E : Type 0} (items : V → List OddComment) (made : Result V E) (first last : Odd) (odds : List OddComment) → first.list.items ≡ [] →
    first.last ≡ 0 → HasAdded odds first last → IfOk made (λ v. IsTrue last.is_whole × (items v ≡ told last [])) → IfOk made (λ v. items v ≡ told_of odds)
finished items (Ok v) first last odds none zero added is =
    is.1 ∙ (added is.0).1 [] ∙ (λ i. take 20 (none i ++ firsts (zero i) (append-nil odds i)))
finished items (Err e) first last odds none zero added is = tt

-- ---- a walk

-- places of the same numbers
pub same_place : (l m c d : ℕ) → l ≡ m → c ≡ d → ◌≡◌ {A = Place} (record { line = l; column = c }) (record { line = m; column = d })
same_place l m c d lines columns = cc

-- after a line feed comes column 1 of the next line
pub after_feed : (place : Place) (back : List ℕ) (byte line : ℕ) → place ≡ place_behind back → byte ≡ 10 → line ≡ min (place.line + 1) 4294967295 →
    ◌≡◌ {A = Place} (record { line = line; column = 1 }) (place_behind (byte ∷ back))
after_feed place back byte line at feed is =
    subst (λ (b : ℕ). ◌≡◌ {A = Place} (record { line = line; column = 1 }) (place_behind (b ∷ back))) (sym feed)
    (same_place line (counted (1 + count_by is_line_feed (10 ∷ back))) 1 1
    (is ∙ ap (λ (p : Place). min (p.line + 1) 4294967295) at ∙ omega (arith, sum_by-cons (λ (b : ℕ). cond (is_line_feed b) 1 0) 10 back)) refl)

-- after any other byte comes the next column
pub after_other : (place : Place) (back : List ℕ) (byte column : ℕ) → place ≡ place_behind back → eqb byte 10 ≡ false → column ≡ min (place.column + 1) 4294967295 →
    ◌≡◌ {A = Place} (record { line = place.line; column = column }) (place_behind (byte ∷ back))
after_other place back byte column at other is =
    let none : ◌≡◌ {A = ℕ} (cond (is_line_feed byte) 1 0) 0 = ap (λ (b : Bool). cond b 1 0) other in
    let feeds : count_by is_line_feed (byte ∷ back) ≡ count_by is_line_feed back =
    omega (arith, none, sum_by-cons (λ (b : ℕ). cond (is_line_feed b) 1 0) byte back) in
    let goes : ℕ → Bool = λ b. not (is_line_feed b) in
    let bytes : length (take_while goes (byte ∷ back)) ≡ 1 + length (take_while goes back) =
    ap length (take_while-cons goes byte back ∙ ap (λ (b : Bool). cond (not b) (byte ∷ take_while goes back) []) other) ∙ omega arith in
    same_place place.line (counted (1 + count_by is_line_feed (byte ∷ back))) column (counted (1 + length (take_while goes (byte ∷ back))))
    (ap (λ (p : Place). p.line) at ∙ ap (λ (n : ℕ). counted (1 + n)) (sym feeds))
    (is ∙ ap (λ (p : Place). min (p.column + 1) 4294967295) at ∙ omega (arith, bytes))

-- the walk goes on
pub goes_on : (walk : Walk) (back : List ℕ) (byte : ℕ) (spot : Spot) (place : Place) → IsAt walk back → spot ≡ after_two walk.before walk.spot walk.last byte →
    place ≡ place_behind (byte ∷ back) → IsAt (record { spot = spot; place = place; last = byte; before = walk.spot }) (byte ∷ back)
goes_on walk [] byte spot place at turned placed = record {
  spot = turned ∙ (λ i. after_two (at.before i) (at.spot i) (at.last i) byte);
  before = at.spot;
  last = refl;
  place = placed;
}
goes_on walk (last ∷ back) byte spot place at turned placed = record {
  spot = turned ∙ (λ i. after_two (at.before i) (at.spot i) (at.last i) byte);
  before = at.spot;
  last = refl;
  place = placed;
}

-- what is odd at a byte, and in what comes after it
pub odd_here : (walk : Walk) (back bytes rest : List ℕ) (byte : ℕ) (more all : List OddComment) (found : Option Oddity) → IsAt walk back → bytes ≡ byte ∷ rest →
    found ≡ odd_in walk.spot bytes → more ++ odd_places back bytes ≡ all → (more ++ odd_at walk.place found) ++ odd_places (byte ∷ back) rest ≡ all
odd_here walk back bytes rest byte more all found at is here before =
    let found_is : found ≡ odd_in (spot_after back) (byte ∷ rest) = here ∙ (λ i. odd_in (at.spot i) (is i)) in
    append_assoc more (odd_at walk.place found) (odd_places (byte ∷ back) rest)
    ∙ (λ i. more ++ (odd_at (at.place i) (found_is i) ++ odd_places (byte ∷ back) rest))
    ∙ ap (λ (bs : List ℕ). more ++ odd_places back bs) (sym is) ∙ before

-- ---- lines

-- one more line after others
pub line_behind : (before : ℕ) (lines : List (List ℕ)) (line : List ℕ) →
    odd_lines before (lines ++ line ∷ []) ≡ odd_lines before lines ++ odd_at (record { line = counted (suc (length lines + before)); column = 0 }) (odd_line line)
line_behind before [] line =
    let on : before ≡ 0 + before = omega arith in
    append-nil (odd_at (record { line = counted (suc before); column = 0 }) (odd_line line))
    ∙ ap (λ (n : ℕ). odd_at (record { line = counted (suc n); column = 0 }) (odd_line line)) on
line_behind before (l ∷ lines) line =
    let on : length lines + suc before ≡ suc (length lines) + before = omega arith in
    let first = odd_at (record { line = counted (suc before); column = 0 }) (odd_line l) in
    ap (λ (t : List OddComment). first ++ t) (line_behind (suc before) lines line)
    ∙ ap (λ (n : ℕ). first ++ (odd_lines (suc before) lines ++ odd_at (record { line = counted (suc n); column = 0 }) (odd_line line))) on
    ∙ sym (append_assoc first (odd_lines (suc before) lines) (odd_at (record { line = counted (suc (suc (length lines) + before)); column = 0 }) (odd_line line)))

-- what one more line adds, whose number is this
pub line_more : (a b c : Odd) (lines : List (List ℕ)) (line : List ℕ) (number : ℕ) (found : Option Oddity) → HasAdded (odd_lines 0 lines) a b →
    number ≡ min (length lines + 1) 4294967295 → found ≡ odd_line line → HasAdded (odd_at (record { line = number; column = 0 }) found) b c →
    HasAdded (odd_lines 0 (lines ++ line ∷ [])) a c
line_more a b c lines line number found before at is added =
    let here : number ≡ counted (suc (length lines + 0)) = at ∙ ap (λ n. min n 4294967295) (omega arith) in
    subst (λ (odds : List OddComment). HasAdded odds a c)
    ((λ i. odd_lines 0 lines ++ odd_at (record { line = here i; column = 0 }) (is i)) ∙ sym (line_behind 0 lines line))
    (added_more a b c (odd_lines 0 lines) (odd_at (record { line = number; column = 0 }) found) before added)
