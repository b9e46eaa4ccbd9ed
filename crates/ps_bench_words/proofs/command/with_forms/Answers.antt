use Rattle.std.proofs.Common.{◌∙◌, ℕ, List, [], sym, ap, arith, get_or}
use Rattle.std.specs.Borrow.{Bor}
use Rattle.clap.specs.Simple.{App, with_subcommand}
use Rattle.clap.specs.Words.{app_of}
use Rattle.ps_bench_words.specs.Seen.{shape_seen, with_form}
use Rattle.ps_bench_words.specs.declared.forms.Form.{Form}
use Rattle.ps_bench_words.proofs.Growing.{one_mapped_more}
use Rattle.ps_bench_words.proofs.command.with_forms.Goals as goal

-- a text and a form, where there is none
abbrev no_text : Bor (List ℕ)
no_text = record { ref_ptr = (0, 0); now = [] }

abbrev no_form : Form
no_form = record {
  name = no_text;
  call = no_text;
  arguments = record { ref_ptr = (0, 0); now = [] };
}

pub loop-form-preserved : goal.loop-form-preserved
loop-form-preserved c =
    c.in-Ok.ensures
    ∙ ap (λ (program : App). with_form program (get_or c.args.forms.now c.loop-form.form-index no_form)) c.loop-form.invariant
    ∙ sym (one_mapped_more with_subcommand (app_of c.args.program) shape_seen c.args.forms.now c.loop-form.form-index no_form (omega arith))
