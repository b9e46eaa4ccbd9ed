-- The JSON of a run is the objects that a reader is to see.
use Rattle.std.proofs.Common.{◌≡◌, ◌∙◌, ◌++◌, ◌+◌, ◌/◌, ◌%◌, ◌<◌, ◌≤◌, ◌^◌, ◌&&◌, ◌||◌, ◌==◌, ◌⊎◌, inl, inr, not, ℕ, Bool, true, false, List, [], ◌∷◌, Some, map, codes, decimal, nat_le, nat_lt, if◌then◌else◌, refl, sym, ap, subst, append_assoc, leb-true, ltb-true, eqb-true, arith}
use Rattle.std.specs.Char.{digit_value}
use Rattle.std.specs.List.{AllByRecursion, list_any}
use Rattle.std.specs.Str.Parse.{AllDigits}
use Rattle.std.proofs.lemmas.Bool.{cases_Bool, and_parts}
use Rattle.std.proofs.lemmas.Bool.Decides.{nat_tests}
use Rattle.std.proofs.lemmas.Fmt.{decimal_is_IsNumeral}
use Rattle.std.proofs.lemmas.Str.Parse.{digit_from_value}
use Rattle.json.specs.Json.{Json, boolean, string, object, document}
use Rattle.json.specs.Print.{escape, escape_byte, print, print_from, quoted, token_text}
use Rattle.json.specs.Token.{Token}
use Rattle.json.specs.Tree.{MembersHaveNumbers, json_tokens, members_depth, members_tokens}
use Rattle.json.proofs.Printed.Decimals.{IsNumber-decimal}
use Rattle.json.proofs.Printed.Strings.{escape_byte_plain}
use Rattle.json.proofs.Printed.Trees.{document-print}
use Rattle.ps_bench_names.specs.declared.name.Name.{Name}
use Rattle.ps_bench_names.specs.declared.name.Name.TheVariants.{Signal, Code, Pin}
use Rattle.ps_bench_judge.specs.Moments.{Moment, is_stopped}
use Rattle.ps_bench_judge.specs.Named.{value_in}
use Rattle.ps_model.specs.Meaning.{Item}
use Rattle.ps_model.specs.Meaning.Item.{scan, restart}
use Rattle.ps_model.specs.Network.{Network}
use Rattle.ps_model.specs.Stored.{bit}
use Rattle.ps_report.specs.Lines.{code_text}
use Rattle.ps_bench_waves.specs.Lines.{json_line, members_text}
use Rattle.ps_bench_waves.specs.Shown.{json_key, json_value, label, truth_text}
use Rattle.ps_bench_waves.specs.declared.format.Format.TheVariants.{Json as AsJson}
use Rattle.ps_bench_waves.specs.Watching.{Before, at_restart, behind_scan, cell_in, items_text}
use Rattle.ps_bench_watch.proofs.Digits.{AllBelow, below, code_digits, four_digits, hex_digit}
use Rattle.ps_bench_watch.specs.Objects.{json_of, lines_in, members_of, object_of, objects_seen, onto_line, values_read}
use Rattle.ps_bench_watch.specs.Reread.{IsInBits}

-- ---- Lines.

-- no line ends in it
abbrev IsLine : List ℕ → Type 0
IsLine bytes = AllByRecursion (λ b. (b == 10) ≡ false) bytes

line_append : (a b : List ℕ) → IsLine a → IsLine b → IsLine (a ++ b)
line_append [] b first second = second
line_append (x ∷ a) b first second = (first.0, line_append a b first.1 second)

-- a line is read up to its line feed
line_read : (line rest : List ℕ) → IsLine line → lines_in (line ++ 10 ∷ rest) ≡ line ∷ lines_in rest
line_read [] rest is = refl
line_read (b ∷ line) rest is =
    ap (λ (ends : Bool). if ends then [] ∷ lines_in (line ++ 10 ∷ rest) else onto_line b (lines_in (line ++ 10 ∷ rest))) is.0
    ∙ ap (onto_line b) (line_read line rest is.1)

line_digit : (b : ℕ) → digit_value b < 10 → (b == 10) ≡ false
line_digit b small = let range = digit_from_value b small in grind (arith, nat_tests)

line_digits : (digits : List ℕ) → AllDigits 10 digits → IsLine digits
line_digits [] are = tt
line_digits (b ∷ digits) are = (line_digit b are.0, line_digits digits are.1)

-- the bytes that stand for one in a string
abbrev is_inside : ℕ → Bool
is_inside b = not (list_any (λ c. c == 10) (escape_byte b))

inside : (bytes : List ℕ) → not (list_any (λ c. c == 10) bytes) ≡ true → IsLine bytes
inside [] is = tt
inside (b ∷ bytes) is =
    let parts = split (b == 10) (list_any (λ c. c == 10) bytes) is in (parts.0, inside bytes parts.1)
  where
    split : (x y : Bool) → not (x || y) ≡ true → (x ≡ false) × (not y ≡ true)
    split true y is = cc is
    split false y is = (refl, is)

controls : AllBelow is_inside 32
unfolding escape_byte
controls = (
  refl,
  (
    refl,
    (
      refl,
      (
        refl,
        (
          refl,
          (
            refl,
            (
              refl,
              (
                refl,
                (
                  refl,
                  (
                    refl,
                    (
                      refl,
                      (
                        refl,
                        (
                          refl,
                          (
                            refl,
                            (
                              refl,
                              (
                                refl,
                                (
                                  refl,
                                  (
                                    refl,
                                    (refl, (refl, (refl, (refl, (refl, (refl, (refl, (refl, (refl, (refl, (refl, (refl, (refl, (refl, tt)))))))))))))),
                                  ),
                                ),
                              ),
                            ),
                          ),
                        ),
                      ),
                    ),
                  ),
                ),
              ),
            ),
          ),
        ),
      ),
    ),
  ),
)

quote_line : IsLine (escape_byte 34)
unfolding escape_byte
quote_line = (refl, (refl, tt))

backslash_line : IsLine (escape_byte 92)
unfolding escape_byte
backslash_line = (refl, (refl, tt))

not_same : (x k : ℕ) → (x == k) ≡ false → x ≡ k → ⊥
not_same x k is same = grind (arith, nat_tests)

escaped_line : (x : ℕ) → IsLine (escape_byte x)
escaped_line x = by (cases_Bool (x == 34)) (cases_Bool (x == 92)) (cases_Bool (nat_lt x 32))
  where
    by : ((x == 34) ≡ true) ⊎ ((x == 34) ≡ false) → ((x == 92) ≡ true) ⊎ ((x == 92) ≡ false) →
        (nat_lt x 32 ≡ true) ⊎ (nat_lt x 32 ≡ false) → IsLine (escape_byte x)
    by (inl e) b c = subst (λ (y : ℕ). IsLine (escape_byte y)) (sym (eqb-true x 34 e)) quote_line
    by (inr q) (inl e) c = subst (λ (y : ℕ). IsLine (escape_byte y)) (sym (eqb-true x 92 e)) backslash_line
    by (inr q) (inr b) (inl c) = inside (escape_byte x) (below is_inside 32 x controls (ltb-true x 32 c))
    by (inr q) (inr b) (inr c) =
        let high : 32 ≤ x = grind (arith, nat_tests) in
        let no_feed : (x == 10) ≡ false = grind (arith, nat_tests) in
        subst IsLine (sym (escape_byte_plain x (not_same x 34 q) (not_same x 92 b) high)) (no_feed, tt)

escape_line : (text : List ℕ) → IsLine (escape text)
escape_line [] = tt
escape_line (b ∷ text) = line_append (escape_byte b) (escape text) (escaped_line b) (escape_line text)

quoted_line : (text : List ℕ) → IsLine (quoted text)
quoted_line text = (refl, line_append (escape text) (34 ∷ []) (escape_line text) (refl, tt))

-- ---- DiagCodes.

-- a digit stands for itself in a string
abbrev is_plain : ℕ → Bool
is_plain n = nat_le 48 (hex_digit n) && nat_le (hex_digit n) 70

all_plain : AllBelow is_plain 16
all_plain =
    (refl, (refl, (refl, (refl, (refl, (refl, (refl, (refl, (refl, (refl, (refl, (refl, (refl, (refl, (refl, (refl, tt))))))))))))))))

plain_digit : (n : ℕ) → n < 16 → escape_byte (hex_digit n) ≡ hex_digit n ∷ []
plain_digit n small =
    let both = and_parts (nat_le 48 (hex_digit n)) (nat_le (hex_digit n) 70) (below is_plain 16 n all_plain small) in
    let low = leb-true 48 (hex_digit n) both.0 in
    let high = leb-true (hex_digit n) 70 both.1 in
    escape_byte_plain (hex_digit n) (λ same. omega (arith, low, same)) (λ same. omega (arith, high, same)) (omega (arith, low))

plain_four : (n : ℕ) → n < 2 ^ 16 → escape (four_digits n) ≡ four_digits n
plain_four n small =
    λ i. plain_digit (n / 256 / 16) (omega arith) i ++ (plain_digit (n / 256 % 16) (omega arith) i
    ++ (plain_digit (n % 256 / 16) (omega arith) i ++ (plain_digit (n % 256 % 16) (omega arith) i ++ [])))

plain_code : (n : ℕ) → n < 2 ^ 16 → escape (code_text n) ≡ code_text n
plain_code n small = subst (λ (digits : List ℕ). escape digits ≡ digits) (sym (code_digits n small)) (plain_four n small)

-- ---- Values.

truth_is : (is_none : Bool) → token_text (Token.boolean (not is_none)) ≡ (if is_none then codes "false" else codes "true")
truth_is true = refl
truth_is false = refl

bit_is : (b : Bool) → token_text (Token.boolean b) ≡ truth_text (bit b)
bit_is true = refl
bit_is false = refl

truth_line : (is_none : Bool) → IsLine (if is_none then codes "false" else codes "true")
truth_line true = (refl, (refl, (refl, (refl, (refl, tt)))))
truth_line false = (refl, (refl, (refl, (refl, tt))))

module _ (net : Network) (m : Moment) (bits : IsInBits net m) where
  value_line : (name : Name) → IsLine (json_value name (value_in net m name))
  value_line (Signal s) = truth_line (value_in net m (Signal s) == 0)
  value_line (Code i) =
      let code = value_in net m (Code i) in
      (refl, line_append (code_text code) (34 ∷ []) (subst IsLine (plain_code code (bits.codes i)) (escape_line (code_text code))) (refl, tt))
  value_line (Pin i j) = truth_line (value_in net m (Pin i j) == 0)

  key_line : (name : Name) → IsLine (json_key net name)
  key_line name = line_append (quoted (label net name)) (58 ∷ []) (quoted_line (label net name)) (refl, tt)

  members_line : (b : Before) (names : List Name) → IsLine (members_text net (map (cell_in net b m) names))
  members_line b [] = tt
  members_line b (name ∷ names) =
      line_append (44 ∷ (json_key net name ++ json_value name (value_in net m name))) (members_text net (map (cell_in net b m) names))
      (refl, line_append (json_key net name) (json_value name (value_in net m name)) (key_line name) (value_line name))
      (members_line b names)

  -- a value and what is printed after it
  value_printed : (name : Name) (later : List Token) →
      print_from false (json_tokens (json_of name (value_in net m name)) ++ later)
      ≡ json_value name (value_in net m name) ++ print_from true later
  unfolding print_from
  value_printed (Signal s) later = ap (λ (text : List ℕ). text ++ print_from true later) (truth_is (value_in net m (Signal s) == 0))
  value_printed (Code i) later =
      let code = value_in net m (Code i) in
      ap (λ (digits : List ℕ). 34 ∷ ((digits ++ 34 ∷ []) ++ print_from true later)) (plain_code code (bits.codes i))
  value_printed (Pin i j) later = ap (λ (text : List ℕ). text ++ print_from true later) (truth_is (value_in net m (Pin i j) == 0))

  -- the values of names, and the end of the object
  members_printed : (b : Before) (names : List Name) →
      print_from true (members_tokens (members_of net m names)) ≡ members_text net (map (cell_in net b m) names) ++ 125 ∷ []
  unfolding print_from
  members_printed b [] = refl
  members_printed b (name ∷ names) =
      let key = json_key net name in
      let value = json_value name (value_in net m name) in
      let later = members_tokens (members_of net m names) in
      let text = members_text net (map (cell_in net b m) names) in
      ap (λ (behind : List ℕ). 44 ∷ (key ++ behind))
      (value_printed name later
      ∙ ap (λ (behind : List ℕ). value ++ behind) (members_printed b names)
      ∙ sym (append_assoc value text (125 ∷ [])))
      ∙ ap (λ (behind : List ℕ). 44 ∷ behind)
      (sym (append_assoc key (value ++ text) (125 ∷ []))
      ∙ ap (λ (front : List ℕ). front ++ 125 ∷ []) (sym (append_assoc key value text)))

  members_numbered : (names : List Name) → MembersHaveNumbers (members_of net m names)
  members_numbered [] = tt
  members_numbered (Signal s ∷ names) = (tt, members_numbered names)
  members_numbered (Code i ∷ names) = (tt, members_numbered names)
  members_numbered (Pin i j ∷ names) = (tt, members_numbered names)

  members_flat : (names : List Name) → members_depth (members_of net m names) ≡ 0
  members_flat [] = refl
  members_flat (Signal s ∷ names) = omega (arith, members_flat names)
  members_flat (Code i ∷ names) = omega (arith, members_flat names)
  members_flat (Pin i j ∷ names) = omega (arith, members_flat names)

  -- what stands before the values of names
  abbrev head_of : (is_restarted : Bool) → List ℕ
  head_of is_restarted =
      codes "{\"@time\":" ++ decimal m.now ++ codes ",\"@restart\":" ++ truth_text (bit is_restarted)
      ++ codes ",\"@trip\":" ++ truth_text (bit (is_stopped m.verdict))

  -- the line of a scan, without its line feed
  abbrev line_of : Before → List Name → List ℕ
  line_of b names = head_of b.is_restarted ++ (members_text net (map (cell_in net b m) names) ++ 125 ∷ [])

  -- it is the object as JSON prints it
  object_printed : (b : Before) (names : List Name) →
      print (json_tokens (object_of net names b.is_restarted m)) ≡ line_of b names
  unfolding print_from escape_byte
  object_printed b names =
      let first : List ℕ = codes "{\"@time\":" in
      let time = decimal m.now in
      let second : List ℕ = codes ",\"@restart\":" in
      let restarted = truth_text (bit b.is_restarted) in
      let third : List ℕ = codes ",\"@trip\":" in
      let stopped = truth_text (bit (is_stopped m.verdict)) in
      let members : List ℕ = members_text net (map (cell_in net b m) names) ++ 125 ∷ [] in
      (λ i. first ++ (time ++ (second ++ (bit_is b.is_restarted i ++ (third
      ++ (bit_is (is_stopped m.verdict) i ++ members_printed b names i))))))
      ∙ sym (append_assoc (first ++ time ++ second ++ restarted ++ third) stopped members
      ∙ append_assoc (first ++ time ++ second ++ restarted) third (stopped ++ members)
      ∙ append_assoc (first ++ time ++ second) restarted (third ++ (stopped ++ members))
      ∙ append_assoc (first ++ time) second (restarted ++ (third ++ (stopped ++ members)))
      ∙ append_assoc first time (second ++ (restarted ++ (third ++ (stopped ++ members)))))

  object_read : (b : Before) (names : List Name) →
      document (line_of b names) ≡ Some (object_of net names b.is_restarted m)
  object_read b names =
      ap document (sym (object_printed b names))
      ∙ document-print (object_of net names b.is_restarted m)
      (IsNumber-decimal m.now (omega (arith, bits.time)), (tt, (tt, members_numbered names)))
      (omega (arith, members_flat names))

  head_line : (is_restarted : Bool) → IsLine (head_of is_restarted)
  head_line is_restarted =
      let first : List ℕ = codes "{\"@time\":" in
      let time = decimal m.now in
      let second : List ℕ = codes ",\"@restart\":" in
      let restarted = truth_text (bit is_restarted) in
      let third : List ℕ = codes ",\"@trip\":" in
      line_append (first ++ time ++ second ++ restarted ++ third) (truth_text (bit (is_stopped m.verdict)))
      (line_append (first ++ time ++ second ++ restarted) third
      (line_append (first ++ time ++ second) restarted
      (line_append (first ++ time) second
      (line_append first time
      (refl, (refl, (refl, (refl, (refl, (refl, (refl, (refl, (refl, tt)))))))))
      (line_digits time (decimal_is_IsNumeral m.now (omega (arith, bits.time))).0.1))
      (refl, (refl, (refl, (refl, (refl, (refl, (refl, (refl, (refl, (refl, (refl, (refl, tt)))))))))))))
      (truth_line (bit is_restarted == 0)))
      (refl, (refl, (refl, (refl, (refl, (refl, (refl, (refl, (refl, tt))))))))))
      (truth_line (bit (is_stopped m.verdict) == 0))

  object_line : (b : Before) (names : List Name) → IsLine (line_of b names)
  object_line b names =
      let members = members_text net (map (cell_in net b m) names) in
      line_append (head_of b.is_restarted) (members ++ 125 ∷ []) (head_line b.is_restarted)
      (line_append members (125 ∷ []) (members_line b names) (refl, tt))

  -- the line of a scan with what stands after it
  line_then : (b : Before) (names : List Name) (later : List ℕ) →
      json_line net m.now b.is_restarted m.verdict (map (cell_in net b m) names) ++ later
      ≡ line_of b names ++ 10 ∷ later
  line_then b names later =
      let head = head_of b.is_restarted in
      let members = members_text net (map (cell_in net b m) names) in
      append_assoc (head ++ members) (125 ∷ 10 ∷ []) later
      ∙ append_assoc head members (125 ∷ 10 ∷ later)
      ∙ sym (append_assoc head (members ++ 125 ∷ []) (10 ∷ later)
      ∙ ap (λ (text : List ℕ). head ++ text) (append_assoc members (125 ∷ []) (10 ∷ later)))

-- the JSON of items is read as the objects of their scans
pub objects_back : (net : Network) (names : List Name) (b : Before) (items : List Item) (ms : List Moment) →
    AllByRecursion (IsInBits net) ms →
    values_read (items_text net AsJson names b items ms)
    ≡ map (λ (value : Json). Some value) (objects_seen net names b.is_restarted items ms)
objects_back net names b [] ms bits = refl
objects_back net names b (restart ∷ items) ms bits = objects_back net names at_restart items ms bits
objects_back net names b (scan now ins ∷ items) [] bits = refl
objects_back net names b (scan now ins ∷ items) (m ∷ ms) bits =
    let later = items_text net AsJson names (behind_scan m) items ms in
    let line = line_of net m bits.0 b names in
    ap values_read (line_then net m bits.0 b names later)
    ∙ ap (map document) (line_read line later (object_line net m bits.0 b names))
    ∙ (λ i. object_read net m bits.0 b names i ∷ objects_back net names (behind_scan m) items ms bits.1 i)
