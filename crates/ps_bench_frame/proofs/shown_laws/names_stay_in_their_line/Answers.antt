use Rattle.std.proofs.Common.{chars}
use Rattle.std.proofs.lemmas.Str.{scalars-chars}
use Rattle.ps_bench_frame.proofs.Shown.{shown_line}
use Rattle.ps_bench_frame.proofs.shown_laws.names_stay_in_their_line.Goals as goal

pub returns : goal.returns
returns c = λ name utf8. shown_line (chars name) (scalars-chars name utf8)
