use Rattle.std.proofs.Common.{chars, ◌∙◌}
use Rattle.std.proofs.lemmas.Str.{encodes-chars}
use Rattle.ps_bench_frame.proofs.Shown.{shown_stays}
use Rattle.ps_bench_frame.proofs.shown_laws.plain_names_stay.Goals as goal

pub returns : goal.returns
returns c = λ name utf8 plain. shown_stays (chars name) plain ∙ encodes-chars name utf8
