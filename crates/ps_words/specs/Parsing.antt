-- What `clap` is asked to read: one command with a subcommand for each command of the program, which has its words as
-- required positional arguments. Help and version are switched off.
use Rattle.std.specs.Prelude.{◌≡◌, ◌≤◌, ℕ, true, false, List, [], ◌∷◌, map, length, slice_get, codes, Some}
use Rattle.clap.specs.Walk.{Rule, first_of, Row}
use Rattle.clap.specs.Simple.{App, Shape, new_rule, new_shape, subcommand_of}
use Rattle.clap.specs.Takes.{takes}
use Rattle.ps_words.specs.declared.parsing.Form.{Form}
use Rattle.ps_words.specs.declared.parsing.Words.{Words}
use Rattle.ps_words.specs.declared.parsing.Words.TheVariants.{One, Two, Three}

-- a required positional argument
abbrev pub required : List ℕ → Rule
required id = record (new_rule id) { required = true }

-- the subcommand of this name, with these arguments
abbrev pub subcommand : List ℕ → List (List ℕ) → Shape
subcommand name ids = record (new_shape name) { rules = map required ids }

-- the names of the first, the second and the third argument
abbrev pub one : List (List ℕ)
one = codes "first" ∷ []

-- the names of two arguments
abbrev pub two : List (List ℕ)
two = codes "first" ∷ codes "second" ∷ []

-- the names of three arguments
abbrev pub three : List (List ℕ)
three = codes "first" ∷ codes "second" ∷ codes "third" ∷ []

-- the names of as many arguments as there are words, and the subcommand of a form of the code
abbrev pub ids_of : Words → List (List ℕ)
ids_of One = one
ids_of Two = two
ids_of Three = three

-- the subcommand that a form of the code is
abbrev pub shape_of : Form → Shape
shape_of form = subcommand form.name.now (ids_of form.words)

-- the subcommands, in the order of the program's commands
abbrev pub subcommands : List Shape
subcommands =
    subcommand (codes "run") two ∷ subcommand (codes "fault") three ∷ subcommand (codes "check") one ∷ subcommand (codes "cert") one
    ∷ subcommand (codes "verify") two ∷ subcommand (codes "image") one ∷ subcommand (codes "load") one ∷ subcommand (codes "demand") one
    ∷ subcommand (codes "vote") three ∷ subcommand (codes "heal") three ∷ []

-- a command that is such a subcommand
abbrev pub leaf : List ℕ → List (List ℕ) → App
leaf name ids = record { top = subcommand name ids; subs = [] }

-- the program without its subcommands, as `clap` sees it
abbrev pub bare : App
bare = record {
  top = record (new_shape (codes "plcsafe")) {
    no_binary_name = true;
    disable_help_flag = true;
    disable_help_subcommand = true;
    disable_version_flag = true;
  };
  subs = [];
}

-- the program, as `clap` sees it
abbrev pub plcsafe : App
plcsafe = record { top = record bare.top { is_leaf = false }; subs = subcommands }

-- the values of a subcommand are the words after its name, three at most
pub record AreValues (rows : List Row) (words : List (List ℕ)) : Type 0 where
  pub first : first_of (codes "first") rows ≡ slice_get words 1
  pub second : first_of (codes "second") rows ≡ slice_get words 2
  pub third : first_of (codes "third") rows ≡ slice_get words 3
  pub no_more : length words ≤ 4

-- A parse of these words fails if memory runs out alone, and gives the words back: the first as the name of the
-- subcommand, and the further ones as its values.
pub record IsGivenBack (words : List (List ℕ)) : Type 0 where
  pub taken : takes plcsafe words ≡ true
  pub name : List ℕ
  pub rows : List Row
  pub met : subcommand_of plcsafe words ≡ Some (name, rows)
  pub name_is : slice_get words 0 ≡ Some name
  pub values_are : AreValues rows words
