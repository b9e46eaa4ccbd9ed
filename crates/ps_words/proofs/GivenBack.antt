-- `clap` gives back the words of each command.
use Rattle.std.proofs.Common.{◌≡◌, ◌∙◌, ◌≤◌, ◌⊎◌, ◌==◌, ◌&&◌, ℕ, Bool, true, false, List, [], ◌∷◌, Some, None, refl, codes, sym, ap, ap₂, subst, arith, inl, inr, length, cond}
use Rattle.std.specs.Prelude.{slice_get}
use Rattle.std.specs.Bool.{Decides}
use Rattle.std.specs.Str.{bytes_eq}
use Rattle.std.specs.List.{list_all}
use Rattle.std.proofs.lemmas.Slice.Eq.{bytes_eq-Decides}
use Rattle.clap.specs.Lexer.{long_of, short_of}
use Rattle.clap.specs.Walk.{Held, Rule, Text, Walk, walk, walked, word_met, after_step, to_positional, arg_by_index, idle, value, walk_from, nothing_held, finished, rows_after, first_of}
use Rattle.clap.specs.Takes.{takes, walk_passes, turn_passes, word_passes, step_passes, settle_passes, default_passes, is_valid, level_passes}
use Rattle.clap.specs.Simple.{Shape, subcommand_of, built_leaf, inherited, on_top, with_leaf_noted, marked_built}
use Rattle.clap.proofs.OnLiterals.{clap_on_literals}
use Rattle.ps_words.specs.Command.{Command, is_plain, one_word, two_words, three_words, form_of}
use Rattle.ps_words.specs.Command.Command.{NotTaken}
use Rattle.ps_words.specs.Parsing.{plcsafe, IsGivenBack, subcommand, one, two, three}

-- a word that is no flag and no `--`
record IsValue (word : Text) : Type 0 where
  plain : bytes_eq word (45 ∷ 45 ∷ []) ≡ false
  no_long : long_of word ≡ None
  no_short : short_of word ≡ None

plain_is_value : (word : Text) → is_plain word ≡ true → IsValue word
plain_is_value [] plain = absurd (grind arith)
plain_is_value (b ∷ rest) plain =
    let other : (b == 45) ≡ false = grind arith in
    record { plain = rw other refl; no_long = rw other refl; no_short = rw other refl }

-- ---- one word of a subcommand

-- between two words of a subcommand
abbrev at : Held → ℕ → Walk
at h position = record { held = h; waiting = idle; position = position; is_trailing = false; stopped = None }

-- a value goes to the positional argument whose turn it is
word_is_met : (c : List Rule) (position : ℕ) (word : Text) (h : Held) → IsValue word → word_met c [] false idle position word h ≡ (h, value)
word_is_met c position word h v = rw (v.plain, v.no_long, v.no_short) refl

walked_on : (c : List Rule) (h : Held) (position : ℕ) (word : Text) → IsValue word → walked c [] (at h position) word ≡ to_positional c (arg_by_index c position) word (at h position) h
unfolding walked
walked_on c h position word v = ap (λ met. after_step c word (at h position) met.0 met.1) (word_is_met c position word h v)

word_is_passed : (s : Shape) (word : Text) (h : Held) → IsValue word → word_passes s [] false idle word h ≡ true
word_is_passed s word h v = rw (v.plain, v.no_long, v.no_short) refl

turn_is_passed : (s : Shape) (h : Held) (position : ℕ) (word : Text) → IsValue word → step_passes s position h value ≡ true → turn_passes s [] (at h position) word ≡ true
turn_is_passed s h position word v step =
    ap₂ (λ (a : Bool) met. a && step_passes s position met.0 met.1) (word_is_passed s word h v) (word_is_met s.rules position word h v) ∙ step

passes_on : (s : Shape) (w next : Walk) (word : Text) (rest : List Text) → turn_passes s [] w word ≡ true → walked s.rules [] w word ≡ next → walk_passes s [] next rest ≡ true →
    walk_passes s [] w (word ∷ rest) ≡ true
unfolding walk_passes
passes_on s w next word rest turn on later = ap₂ (λ (a : Bool) (n : Walk). a && walk_passes s [] n rest) turn on ∙ later

all_passed : (s : Shape) (w : Walk) → walk_passes s [] w [] ≡ true
unfolding walk_passes
all_passed s w = refl

level_is_passed : (s : Shape) (words : List Text) (end : Walk) → walk s.rules [] nothing_held words ≡ end → walk_passes s [] (walk_from nothing_held) words ≡ true →
    (settle_passes s.rules s.args_override_self end.held && (list_all default_passes s.rules && is_valid s (finished s.rules end.held) false)) ≡ true → level_passes s [] nothing_held words false ≡ true
level_is_passed s words end is passes rest =
    ap₂ (λ (a : Bool) (w : Walk). a && (settle_passes s.rules s.args_override_self w.held && (list_all default_passes s.rules && is_valid s (finished s.rules w.held) false))) passes is ∙ rest

-- ---- the words of a subcommand

-- a subcommand as it is built
abbrev shape : Text → List Text → Shape
shape name ids = built_leaf (inherited (on_top with_leaf_noted (on_top marked_built plcsafe)).top (subcommand name ids))

-- A subcommand takes these words, and they are its values.
record IsLevel (s : Shape) (words : List Text) : Type 0 where
  passes : level_passes s [] nothing_held words false ≡ true
  first : first_of (codes "first") (rows_after s.rules [] words) ≡ slice_get words 0
  second : first_of (codes "second") (rows_after s.rules [] words) ≡ slice_get words 1
  third : first_of (codes "third") (rows_after s.rules [] words) ≡ slice_get words 2

-- the walk after each of the words
abbrev after : Shape → ℕ → Text → Held → Walk
after s position word h = to_positional s.rules (arg_by_index s.rules position) word (at h position) h

one_level : (name a : Text) → IsValue a → IsLevel (shape name one) (a ∷ [])
one_level name a v =
    let s = shape name one in
    let end = after s 1 a nothing_held in
    let is : walk s.rules [] nothing_held (a ∷ []) ≡ end = walked_on s.rules nothing_held 1 a v in
    record {
      passes = level_is_passed s (a ∷ []) end is (passes_on s (walk_from nothing_held) end a [] (turn_is_passed s nothing_held 1 a v refl) is (all_passed s end)) refl;
      first = ap (λ (w : Walk). first_of (codes "first") (finished s.rules w.held)) is ∙ refl;
      second = ap (λ (w : Walk). first_of (codes "second") (finished s.rules w.held)) is ∙ refl;
      third = ap (λ (w : Walk). first_of (codes "third") (finished s.rules w.held)) is ∙ refl;
    }

two_level : (name a b : Text) → IsValue a → IsValue b → IsLevel (shape name two) (a ∷ b ∷ [])
two_level name a b u v =
    let s = shape name two in
    let next = after s 1 a nothing_held in
    let end = after s 2 b next.held in
    let on : walked s.rules [] (walk_from nothing_held) a ≡ next = walked_on s.rules nothing_held 1 a u in
    let last : walked s.rules [] next b ≡ end = walked_on s.rules next.held 2 b v in
    let is : walk s.rules [] nothing_held (a ∷ b ∷ []) ≡ end = ap (λ (w : Walk). walked s.rules [] w b) on ∙ last in
    record {
      passes = level_is_passed s (a ∷ b ∷ []) end is
          (passes_on s (walk_from nothing_held) next a (b ∷ []) (turn_is_passed s nothing_held 1 a u refl) on
          (passes_on s next end b [] (turn_is_passed s next.held 2 b v refl) last (all_passed s end))) refl;
      first = ap (λ (w : Walk). first_of (codes "first") (finished s.rules w.held)) is ∙ refl;
      second = ap (λ (w : Walk). first_of (codes "second") (finished s.rules w.held)) is ∙ refl;
      third = ap (λ (w : Walk). first_of (codes "third") (finished s.rules w.held)) is ∙ refl;
    }

three_level : (name a b d : Text) → IsValue a → IsValue b → IsValue d → IsLevel (shape name three) (a ∷ b ∷ d ∷ [])
three_level name a b d u v x =
    let s = shape name three in
    let next = after s 1 a nothing_held in
    let later = after s 2 b next.held in
    let end = after s 3 d later.held in
    let on : walked s.rules [] (walk_from nothing_held) a ≡ next = walked_on s.rules nothing_held 1 a u in
    let then : walked s.rules [] next b ≡ later = walked_on s.rules next.held 2 b v in
    let last : walked s.rules [] later d ≡ end = walked_on s.rules later.held 3 d x in
    let is : walk s.rules [] nothing_held (a ∷ b ∷ d ∷ []) ≡ end =
    ap (λ (w : Walk). walked s.rules [] (walked s.rules [] w b) d) on ∙ ap (λ (w : Walk). walked s.rules [] w d) then ∙ last in
    record {
      passes = level_is_passed s (a ∷ b ∷ d ∷ []) end is
          (passes_on s (walk_from nothing_held) next a (b ∷ d ∷ []) (turn_is_passed s nothing_held 1 a u refl) on
          (passes_on s next later b (d ∷ []) (turn_is_passed s next.held 2 b v refl) then
          (passes_on s later end d [] (turn_is_passed s later.held 3 d x refl) last (all_passed s end)))) refl;
      first = ap (λ (w : Walk). first_of (codes "first") (finished s.rules w.held)) is ∙ refl;
      second = ap (λ (w : Walk). first_of (codes "second") (finished s.rules w.held)) is ∙ refl;
      third = ap (λ (w : Walk). first_of (codes "third") (finished s.rules w.held)) is ∙ refl;
    }

-- ---- the words of a command

-- The name of a subcommand leads to it, with the words after.
record Leads (name : Text) (ids words : List Text) : Type 0 where
  takes : takes plcsafe (name ∷ words) ≡ (level_passes (shape name ids) [] nothing_held words false && true)
  met : subcommand_of plcsafe (name ∷ words) ≡ Some (name, rows_after (shape name ids).rules [] words)

given_by : (name : Text) (ids words : List Text) → Leads name ids words → IsLevel (shape name ids) words → length words ≤ 3 → IsGivenBack (name ∷ words)
given_by name ids words leads level few = record {
  taken = leads.takes ∙ ap (λ (b : Bool). b && true) level.passes;
  name = name;
  rows = rows_after (shape name ids).rules [] words;
  met = leads.met;
  name_is = refl;
  values_are = record { first = level.first; second = level.second; third = level.third; no_more = omega arith };
}

check_leads : (a : Text) → Leads (codes "check") one (a ∷ [])
unfolding clap_on_literals
check_leads a = record { takes = refl; met = refl }

cert_leads : (a : Text) → Leads (codes "cert") one (a ∷ [])
unfolding clap_on_literals
cert_leads a = record { takes = refl; met = refl }

image_leads : (a : Text) → Leads (codes "image") one (a ∷ [])
unfolding clap_on_literals
image_leads a = record { takes = refl; met = refl }

load_leads : (a : Text) → Leads (codes "load") one (a ∷ [])
unfolding clap_on_literals
load_leads a = record { takes = refl; met = refl }

demand_leads : (a : Text) → Leads (codes "demand") one (a ∷ [])
unfolding clap_on_literals
demand_leads a = record { takes = refl; met = refl }

run_leads : (a b : Text) → Leads (codes "run") two (a ∷ b ∷ [])
unfolding clap_on_literals
run_leads a b = record { takes = refl; met = refl }

verify_leads : (a b : Text) → Leads (codes "verify") two (a ∷ b ∷ [])
unfolding clap_on_literals
verify_leads a b = record { takes = refl; met = refl }

fault_leads : (a b d : Text) → Leads (codes "fault") three (a ∷ b ∷ d ∷ [])
unfolding clap_on_literals
fault_leads a b d = record { takes = refl; met = refl }

vote_leads : (a b d : Text) → Leads (codes "vote") three (a ∷ b ∷ d ∷ [])
unfolding clap_on_literals
vote_leads a b d = record { takes = refl; met = refl }

heal_leads : (a b d : Text) → Leads (codes "heal") three (a ∷ b ∷ d ∷ [])
unfolding clap_on_literals
heal_leads a b d = record { takes = refl; met = refl }

-- words are of no command, or `clap` gives them back
abbrev IsJudged : Command → List Text → Type 0
IsJudged command words = (command ≡ NotTaken) ⊎ IsGivenBack words

-- the first word is this name, or one of the others
is_named : (name key : Text) (words : List Text) (here other : Command) → (name ≡ key → IsGivenBack (name ∷ words)) → IsJudged other (name ∷ words) →
    IsJudged (cond (bytes_eq name key) here other) (name ∷ words)
is_named name key words here other back others = go (bytes_eq name key) (bytes_eq-Decides name key)
  where
    go : (b : Bool) → Decides b (name ≡ key) → IsJudged (cond b here other) (name ∷ words)
    go true d = inr (back (d.0 refl))
    go false d = others

back_one : (key : Text) (a : Text) → IsValue a → Leads key one (a ∷ []) → (name : Text) → name ≡ key → IsGivenBack (name ∷ a ∷ [])
back_one key a v leads name is =
    subst (λ (n : Text). IsGivenBack (n ∷ a ∷ [])) (sym is) (given_by key one (a ∷ []) leads (one_level key a v) (omega arith))

back_two : (key : Text) (a b : Text) → IsValue a → IsValue b → Leads key two (a ∷ b ∷ []) → (name : Text) → name ≡ key → IsGivenBack (name ∷ a ∷ b ∷ [])
back_two key a b u v leads name is =
    subst (λ (n : Text). IsGivenBack (n ∷ a ∷ b ∷ [])) (sym is) (given_by key two (a ∷ b ∷ []) leads (two_level key a b u v) (omega arith))

back_three : (key : Text) (a b d : Text) → IsValue a → IsValue b → IsValue d → Leads key three (a ∷ b ∷ d ∷ []) → (name : Text) → name ≡ key → IsGivenBack (name ∷ a ∷ b ∷ d ∷ [])
back_three key a b d u v x leads name is =
    subst (λ (n : Text). IsGivenBack (n ∷ a ∷ b ∷ d ∷ [])) (sym is) (given_by key three (a ∷ b ∷ d ∷ []) leads (three_level key a b d u v x) (omega arith))

one_judged : (name a : Text) → IsValue a → IsJudged (one_word name a) (name ∷ a ∷ [])
one_judged name a v =
    is_named name (codes "check") (a ∷ []) _ _ (back_one (codes "check") a v (check_leads a) name)
    (is_named name (codes "cert") (a ∷ []) _ _ (back_one (codes "cert") a v (cert_leads a) name)
    (is_named name (codes "image") (a ∷ []) _ _ (back_one (codes "image") a v (image_leads a) name)
    (is_named name (codes "load") (a ∷ []) _ _ (back_one (codes "load") a v (load_leads a) name)
    (is_named name (codes "demand") (a ∷ []) _ _ (back_one (codes "demand") a v (demand_leads a) name) (inl refl)))))

two_judged : (name a b : Text) → IsValue a → IsValue b → IsJudged (two_words name a b) (name ∷ a ∷ b ∷ [])
two_judged name a b u v =
    is_named name (codes "run") (a ∷ b ∷ []) _ _ (back_two (codes "run") a b u v (run_leads a b) name)
    (is_named name (codes "verify") (a ∷ b ∷ []) _ _ (back_two (codes "verify") a b u v (verify_leads a b) name) (inl refl))

three_judged : (name a b d : Text) → IsValue a → IsValue b → IsValue d → IsJudged (three_words name a b d) (name ∷ a ∷ b ∷ d ∷ [])
three_judged name a b d u v x =
    is_named name (codes "fault") (a ∷ b ∷ d ∷ []) _ _ (back_three (codes "fault") a b d u v x (fault_leads a b d) name)
    (is_named name (codes "vote") (a ∷ b ∷ d ∷ []) _ _ (back_three (codes "vote") a b d u v x (vote_leads a b d) name)
    (is_named name (codes "heal") (a ∷ b ∷ d ∷ []) _ _ (back_three (codes "heal") a b d u v x (heal_leads a b d) name) (inl refl)))

plain_at : (a : Text) (rest : List Text) → list_all is_plain (a ∷ rest) ≡ true → (is_plain a ≡ true) × (list_all is_plain rest ≡ true)
plain_at a rest plain = (grind arith, grind arith)

-- plain words are of no command, or `clap` gives them back
pub all_judged : (words : List Text) → list_all is_plain words ≡ true → IsJudged (form_of words) words
all_judged [] plain = inl refl
all_judged (name ∷ []) plain = inl refl
all_judged (name ∷ a ∷ []) plain =
    let first = plain_at name (a ∷ []) plain in
    let second = plain_at a [] first.1 in
    one_judged name a (plain_is_value a second.0)
all_judged (name ∷ a ∷ b ∷ []) plain =
    let first = plain_at name (a ∷ b ∷ []) plain in
    let second = plain_at a (b ∷ []) first.1 in
    let third = plain_at b [] second.1 in
    two_judged name a b (plain_is_value a second.0) (plain_is_value b third.0)
all_judged (name ∷ a ∷ b ∷ d ∷ []) plain =
    let first = plain_at name (a ∷ b ∷ d ∷ []) plain in
    let second = plain_at a (b ∷ d ∷ []) first.1 in
    let third = plain_at b (d ∷ []) second.1 in
    let fourth = plain_at d [] third.1 in
    three_judged name a b d (plain_is_value a second.0) (plain_is_value b third.0) (plain_is_value d fourth.0)
all_judged (name ∷ a ∷ b ∷ d ∷ e ∷ words) plain = inl refl
