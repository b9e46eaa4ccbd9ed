use Rattle.std.proofs.Common.{◌≡◌, Ok, sym, ap, ◌∙◌, subst, arith}
use Rattle.std.specs.Prelude.{decimal, is_ok}
use Rattle.std.specs.Result.{result_unwrap_or}
use Rattle.std.proofs.lemmas.Bool.{false≢true}
use Rattle.std.proofs.lemmas.Bool.Decides.{Decides-eqb}
use Rattle.std.proofs.lemmas.Fmt.{parse-decimal, IsAscii-decimal}
use Rattle.std.specs.Str.{IsUtf8}
use Rattle.std.proofs.lemmas.Str.{IsUtf8-from_ascii}
use Rattle.std.proofs.lemmas.Slice.Eq.{slice_eq-Decides}
use Rattle.ps_flow.proofs.reading.number.Goals as goal

pub returns-in_default-clause-none : goal.returns-in_default-clause-none
returns-in_default-clause-none c = λ n small is.
    c.in_default.ensures.cases.0 (subst IsUtf8 (sym is) (IsUtf8-from_ascii (decimal n) (IsAscii-decimal n (omega arith))))

-- a word that a number is printed as is read as that number
pub returns-in_default-parse-clause-none : goal.returns-in_default-parse-clause-none
returns-in_default-parse-clause-none c = λ n small is.
    let read = parse-decimal 32 n c.in-Ok.text.now c.parse.result small (omega arith) (c.in-Ok.ensures.cases.0 ∙ is) c.parse.ensures.value.0 in
    false≢true (ap is_ok (sym c.in_default-parse.is ∙ read))

pub returns-else-eq-clause-none : goal.returns-else-eq-clause-none
returns-else-eq-clause-none c = λ n small is.
    let read = parse-decimal {E = Unit {0}} 32 n c.in-Ok.text.now (Ok c.in-Ok-parse.n) small (omega arith) (c.in-Ok.ensures.cases.0 ∙ is) c.in-Ok-parse.ensures.value.0 in
    let same : c.in-Ok-parse.n ≡ n = ap (λ r. result_unwrap_or r 0) read in
    let printed : c.as_bytes.result.now ≡ c.args.word.now = c.as_bytes.ensures.value ∙ c.format.ensures.text ∙ ap decimal same ∙ sym is in
    let decided = slice_eq-Decides Decides-eqb c.as_bytes.result.now c.args.word.now _ c.eq.ensures in
    false≢true (sym c.if-eq.false ∙ decided.1 printed)
