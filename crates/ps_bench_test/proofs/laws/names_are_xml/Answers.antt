use Rattle.std.proofs.Common.{chars}
use Rattle.std.proofs.lemmas.Str.{scalars-chars}
use Rattle.ps_bench_frame.proofs.Shown.{shown_line, shown_utf8}
use Rattle.ps_bench_frame.specs.Pieces.{shown}
use Rattle.ps_bench_test.proofs.Values.{lines_xml, value_xml}
use Rattle.ps_bench_test.proofs.laws.names_are_xml.Goals as goal

pub returns : goal.returns
returns c = λ name utf8.
    let scalars = scalars-chars name utf8 in
    let told = shown_utf8 (chars name) scalars in
    value_xml (shown name) told (lines_xml (chars (shown name)) (scalars-chars (shown name) told) (shown_line (chars name) scalars))
