use Rattle.std.proofs.Common.{◌≡◌, ◌∙◌, true, Some, [], refl, ap, subst, inl, inr, arith}
use Rattle.clap.specs.Words.{App, HasMatchesOf, app_of, fault_of, is_simple_and_free, is_simple, kind_of, takes, subcommand_rows_of}
use Rattle.clap.specs.declared.error.kind.ErrorKind.TheVariants.{OutOfMemory}
use Rattle.ps_words.specs.Parsing.{plcsafe}
use Rattle.ps_words.specs.Seen.{seen}
use Rattle.ps_words.proofs.GivenBack.{all_judged}
use Rattle.ps_words.proofs.parsing.is_parsed.Goals as goal

is_simple_app : is_simple plcsafe ≡ true
is_simple_app = refl

pub returns-in-Ok-clause-refused : goal.returns-in-Ok-clause-refused
returns-in-Ok-clause-refused c = λ not. elim (all_judged (seen c.args.words.now) c.requires) [
  | inl none ↦ none
  | inr back ↦ absurd (
      let matches = subst (λ (a : App). HasMatchesOf a (seen c.args.words.now) c.in-Ok.matches) c.in_ok-program.ensures c.in-Ok.ensures.matches in
      let rows : subcommand_rows_of c.in-Ok.matches ≡ Some (back.name, back.rows) = (matches is_simple_app).1 ∙ back.met in
      let yes : c.gives_back.result ≡ true = c.gives_back.ensures back.name back.rows rows back.name_is back.values_are in
      grind arith)
]

pub returns-in-Err-2-clause-refused : goal.returns-in-Err-2-clause-refused
returns-in-Err-2-clause-refused c = λ not. elim (all_judged (seen c.args.words.now) c.requires) [
  | inl none ↦ none
  | inr back ↦ absurd (
      let takes_app : takes (app_of c.in_ok-program.field-0) (seen c.args.words.now) ≡ true = ap (λ (a : App). takes a (seen c.args.words.now)) c.in_ok-program.ensures ∙ back.taken in
      let memory : kind_of c.in-Err.error ≡ OutOfMemory = c.in-Err.ensures.passes takes_app in
      grind arith)
]

free_app : is_simple_and_free plcsafe ≡ true
free_app = refl

pub returns-in-Ok-clause-taken : goal.returns-in-Ok-clause-taken
returns-in-Ok-clause-taken c = λ yes.
    subst (λ (a : App). fault_of a (seen c.args.words.now) ≡ []) c.in_ok-program.ensures (c.in-Ok.ensures.kinds (ap is_simple_and_free c.in_ok-program.ensures ∙ free_app))
