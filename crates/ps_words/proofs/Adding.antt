-- Subcommands are added to the program.
use Rattle.std.proofs.Common.{◌≡◌, ◌∙◌, ◌<◌, ◌+◌, ◌∷◌, ℕ, List, length, get_or, drop, fold, sym, ap}
use Rattle.std.proofs.lemmas.List.{drop_more}
use Rattle.clap.specs.Simple.{App, with_subcommand}
use Rattle.ps_words.specs.declared.parsing.Form.{Form}
use Rattle.ps_words.specs.Parsing.{plcsafe, shape_of}

-- the program with one more
abbrev pub with_next : App → Form → App
with_next app form = with_subcommand app (shape_of form)

-- where these forms and those after them make the program, those after one more do
pub next_form : (forms : List Form) (i : ℕ) (d : Form) (old new : App) → i < length forms → fold with_next old (drop i forms) ≡ plcsafe →
    new ≡ with_subcommand old (shape_of (get_or forms i d)) → fold with_next new (drop (i + 1) forms) ≡ plcsafe
next_form forms i d old new within makes more =
    ap (λ (app : App). fold with_next app (drop (i + 1) forms)) more
    ∙ sym (ap (λ (fs : List Form). fold with_next old fs) (drop_more forms i d within))
    ∙ makes
