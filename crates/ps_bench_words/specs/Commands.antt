-- What `clap` is asked to read: one command, with a subcommand for each command of the program. Help and version are
-- its own; `help` is a command of the program.
use Rattle.std.specs.Prelude.{ℕ, true, false, List, [], ◌∷◌, codes, Some}
use Rattle.clap.specs.Lexer.{usize_max}
use Rattle.clap.specs.Walk.{Rule}
use Rattle.clap.specs.Simple.{App, Shape, new_rule, new_shape}
use Rattle.clap.specs.declared.builder.action.ArgAction.TheVariants.{Count}

-- a word
abbrev pub word : List ℕ → Rule
word id = new_rule id

-- words, one at least where there are any
abbrev pub words : List ℕ → Rule
words id = record (new_rule id) {
  range = Some (record { start_inclusive = 1; end_inclusive = usize_max });
}

-- `--NAME VALUE`
abbrev pub option : List ℕ → Rule
option name = record (new_rule name) { long = Some name; value_names = 1 }

-- `--NAME`, which may be given more than once
abbrev pub flag : List ℕ → Rule
flag name = record (new_rule name) { long = Some name; action = Some Count }

-- what may not be left out; all else may
abbrev pub required : Rule → Rule
required rule = record rule { required = true }

-- APP, which each command but `sum` and `help` has
abbrev pub app : Rule
app = required (word (codes "APP"))

-- a command of this name, with these words and options
abbrev pub command : List ℕ → List Rule → Shape
command name rules = record (new_shape name) { rules = rules }

-- `test APP CASES.. [--format FORMAT]`
abbrev pub test : Shape
test = command (codes "test") (app ∷ required (words (codes "CASES")) ∷ option (codes "format") ∷ [])

-- `expand APP CASES`
abbrev pub expand : Shape
expand = command (codes "expand") (app ∷ required (word (codes "CASES")) ∷ [])

-- `watch APP TRACE [NAME..] [--faults FAULTS] [--format FORMAT]`
abbrev pub watch : Shape
watch = command (codes "watch") (app ∷ required (word (codes "TRACE")) ∷ words (codes "NAME")
    ∷ option (codes "faults") ∷ option (codes "format") ∷ [])

-- `trace APP CSV`
abbrev pub trace : Shape
trace = command (codes "trace") (app ∷ required (word (codes "CSV")) ∷ [])

-- `why APP TRACE TIME NAME [--format FORMAT]`
abbrev pub why : Shape
why = command (codes "why") (app ∷ required (word (codes "TRACE")) ∷ required (word (codes "TIME"))
    ∷ required (word (codes "NAME")) ∷ option (codes "format") ∷ [])

-- `cover APP TRACE.. [--format FORMAT] [--least PERCENT] [--ideas]`
abbrev pub cover : Shape
cover = command (codes "cover") (app ∷ required (words (codes "TRACE")) ∷ option (codes "format")
    ∷ option (codes "least") ∷ flag (codes "ideas") ∷ [])

-- `never APP RULES [--states N]`
abbrev pub never : Shape
never = command (codes "never") (app ∷ required (word (codes "RULES")) ∷ option (codes "states") ∷ [])

-- `same APP OTHER [RULES] [--states N]`
abbrev pub same : Shape
same = command (codes "same") (app ∷ required (word (codes "OTHER")) ∷ word (codes "RULES") ∷ option (codes "states") ∷ [])

-- `campaign APP TRACE FROM COUNT [--channel CHANNEL] [--print]`
abbrev pub campaign : Shape
campaign = command (codes "campaign") (app ∷ required (word (codes "TRACE")) ∷ required (word (codes "FROM"))
    ∷ required (word (codes "COUNT")) ∷ option (codes "channel") ∷ flag (codes "print") ∷ [])

-- `sum FILE..`
abbrev pub sum : Shape
sum = command (codes "sum") (required (words (codes "FILE")) ∷ [])

-- `report APP CASES.. [--title TEXT]`
abbrev pub report : Shape
report = command (codes "report") (app ∷ required (words (codes "CASES")) ∷ option (codes "title") ∷ [])

-- `live APP [--names]`
abbrev pub live : Shape
live = command (codes "live") (app ∷ flag (codes "names") ∷ [])

-- `help [COMMAND]`
abbrev pub help : Shape
help = command (codes "help") (word (codes "COMMAND") ∷ [])

-- the commands of the program
unfoldable pub commands : List Shape
commands = test ∷ expand ∷ watch ∷ trace ∷ why ∷ cover ∷ never ∷ same ∷ campaign ∷ sum ∷ report ∷ live
    ∷ help ∷ []

-- a command without subcommands
abbrev pub leaf : Shape → App
leaf shape = record { top = shape; subs = [] }

-- the program without its commands
abbrev pub bare : App
bare = leaf (record (new_shape (codes "plcsafe-bench")) {
  no_binary_name = true;
  disable_help_subcommand = true;
  subcommand_required = true;
  has_version = true;
})

-- the program
unfoldable pub workbench : App
workbench = record { top = record bare.top { is_leaf = false }; subs = commands }
