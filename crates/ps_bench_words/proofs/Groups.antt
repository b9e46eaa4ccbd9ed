-- The commands of the program, group by group.
use Rattle.std.proofs.Common.{◌≡◌, ◌∙◌, ◌∷◌, [], ◌++◌, ℕ, Bool, true, false, List, map, refl, sym, ap, ap₂}
use Rattle.std.specs.List.{list_any}
use Rattle.std.specs.Prelude.{◌||◌, fold}
use Rattle.std.specs.Str.{bytes_eq}
use Rattle.std.proofs.lemmas.List.Folds.{list_any-append}
use Rattle.clap.specs.Simple.{App, Shape, new_app, with_rule, with_subcommand}
use Rattle.clap.specs.Walk.{Rule}
use Rattle.ps_bench_words.specs.Asking.{is_command}
use Rattle.ps_bench_words.specs.Commands.{bare, commands, workbench}
use Rattle.ps_bench_words.specs.Seen.{of_campaigns, of_cases, of_pages, of_searches, of_traces, rule_seen, shape_seen}
use Rattle.ps_bench_words.specs.declared.forms.Form.{Form}

-- they are all
all_are : commands ≡ of_cases ++ (of_traces ++ (of_searches ++ (of_campaigns ++ of_pages)))
unfolding commands of_cases of_traces of_searches of_campaigns of_pages
all_are = refl

-- with all of them the program is whole
whole_is : fold with_subcommand (fold with_subcommand (fold with_subcommand (fold with_subcommand (fold with_subcommand bare of_cases) of_traces)
    of_searches) of_campaigns) of_pages ≡ workbench
unfolding workbench commands of_cases of_traces of_searches of_campaigns of_pages
whole_is = refl

-- the same of groups that are these
pub whole : (xs ys zs us vs : List Shape) → xs ≡ of_cases → ys ≡ of_traces → zs ≡ of_searches → us ≡ of_campaigns → vs ≡ of_pages →
    fold with_subcommand (fold with_subcommand (fold with_subcommand (fold with_subcommand (fold with_subcommand bare xs) ys) zs) us) vs ≡ workbench
whole xs ys zs us vs x y z u v =
    ap₂ (fold with_subcommand) (ap₂ (fold with_subcommand) (ap₂ (fold with_subcommand) (ap₂ (fold with_subcommand)
    (ap (fold with_subcommand bare) x) y) z) u) v ∙ whole_is

-- the name of a command stays when an argument is added
keeps_name : (a : App) (rules : List Rule) → (fold with_rule a rules).top.name ≡ a.top.name
keeps_name a [] = refl
keeps_name a (r ∷ rules) = keeps_name (with_rule a r) rules

-- one of some forms has this name where one of their commands has
names_are : (forms : List Form) (name : List ℕ) →
    list_any (λ (f : Form). bytes_eq f.name.now name) forms ≡ list_any (λ (s : Shape). bytes_eq s.name name) (map shape_seen forms)
names_are [] name = refl
names_are (f ∷ forms) name = ap₂ (λ own others. bytes_eq own name || others)
    (sym (keeps_name (new_app f.name.now) (map rule_seen f.arguments.now))) (names_are forms name)

-- a command of this name is in one of the groups
in_one : (has : Shape → Bool) → list_any has commands ≡
    (list_any has of_cases || (list_any has of_traces || (list_any has of_searches || (list_any has of_campaigns || list_any has of_pages))))
in_one has = ap (list_any has) all_are
    ∙ list_any-append has of_cases _
    ∙ ap (λ rest. list_any has of_cases || rest) (list_any-append has of_traces _
    ∙ ap (λ rest. list_any has of_traces || rest) (list_any-append has of_searches _
    ∙ ap (λ rest. list_any has of_searches || rest) (list_any-append has of_campaigns of_pages)))

-- tests one after another
regrouped : (a b c d e : Bool) → ((((a || b) || c) || d) || e) ≡ (a || (b || (c || (d || e))))
regrouped true b c d e = refl
regrouped false true c d e = refl
regrouped false false true d e = refl
regrouped false false false true e = refl
regrouped false false false false e = refl

-- one of some forms has this name where one of their commands has
abbrev is_named : List ℕ → List Form → Bool
is_named name = list_any (λ (f : Form). bytes_eq f.name.now name)

abbrev has : List ℕ → List Shape → Bool
has name = list_any (λ (s : Shape). bytes_eq s.name name)

in_group : (name : List ℕ) (forms : List Form) (group : List Shape) (a : Bool) →
    map shape_seen forms ≡ group → a ≡ is_named name forms → a ≡ has name group
in_group name forms group a are is = is ∙ names_are forms name ∙ ap (has name) are

-- a form of this name is in one of the groups where the program has a command of it
pub is_one : (name : List ℕ) (xs ys zs us vs : List Form) (a b c d e : Bool) →
    map shape_seen xs ≡ of_cases → a ≡ is_named name xs →
    map shape_seen ys ≡ of_traces → b ≡ is_named name ys →
    map shape_seen zs ≡ of_searches → c ≡ is_named name zs →
    map shape_seen us ≡ of_campaigns → d ≡ is_named name us →
    map shape_seen vs ≡ of_pages → e ≡ is_named name vs →
    ((((a || b) || c) || d) || e) ≡ is_command name
is_one name xs ys zs us vs a b c d e x is_a y is_b z is_c u is_d v is_e =
    regrouped a b c d e
    ∙ ap₂ (λ p q. p || q) (in_group name xs of_cases a x is_a)
    (ap₂ (λ p q. p || q) (in_group name ys of_traces b y is_b)
    (ap₂ (λ p q. p || q) (in_group name zs of_searches c z is_c)
    (ap₂ (λ p q. p || q) (in_group name us of_campaigns d u is_d) (in_group name vs of_pages e v is_e))))
    ∙ sym (in_one (λ (s : Shape). bytes_eq s.name name))
