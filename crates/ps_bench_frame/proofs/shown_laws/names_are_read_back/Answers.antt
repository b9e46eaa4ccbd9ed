use Rattle.std.proofs.Common.{chars, ◌∙◌}
use Rattle.std.proofs.lemmas.Str.{encodes-chars, scalars-chars}
use Rattle.ps_bench_frame.proofs.Shown.{shown_read}
use Rattle.ps_bench_frame.proofs.shown_laws.names_are_read_back.Goals as goal

pub returns : goal.returns
returns c = λ name utf8. shown_read (chars name) (scalars-chars name utf8) ∙ encodes-chars name utf8
