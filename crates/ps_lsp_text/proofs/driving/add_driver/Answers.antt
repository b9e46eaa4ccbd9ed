use Rattle.std.proofs.Common.{◌≡◌, ◌∙◌, ◌++◌, [], Some, List, ℕ, Option, Bor, option_copied, inl, inr, refl, ap, sym, codes, decimal, slice_get, arith}
use Rattle.std.proofs.lemmas.Bool.{lt-ltb, true≢false}
use Rattle.ps_lexer.specs.declared.token.Token.{Token}
use Rattle.ps_text.specs.Quoted.{line_of}
use Rattle.ps_text.specs.Shown.{first_shown}
use Rattle.ps_lsp_text.specs.Driving.{driver_text}
use Rattle.ps_lsp_text.proofs.AtTokens.{got}
use Rattle.ps_lsp_text.proofs.Drivers.{name_within, piece_is}
use Rattle.ps_lsp_text.proofs.Growing.{extends_as, extends_both, extends_none}
use Rattle.ps_lsp_text.proofs.driving.add_driver.Goals as goal

pub returns-in_default : goal.returns-in_default
returns-in_default c = ([], inr (c.in_default.ensures.none, refl), extends_none c.args.words.now)

pub returns-in_default-get : goal.returns-in_default-get
returns-in_default-get c =
    let drives = c.in-Some.ensures.some.drives in
    let inside = name_within c.args.tokens.now c.in-Some.at drives.spelt drives.is in
    absurd (true≢false (sym (c.in_default-get.ensures.lookup.0 ∙ lt-ltb _ _ inside)))

pub returns : goal.returns
returns c =
    let token = c.in-Some-get.token.now in
    let text = c.args.text.now in
    let piece = piece_is text token.«from» c.end_from.result c.min-begin.result c.max-end.result (omega (arith, c.min-begin.ensures))
    (omega (arith, c.max-end.ensures, c.min.ensures)) in
    let shown = c.line_at.ensures ∙ ap (λ (l : List ℕ). line_of l 1) piece in
    let there : slice_get c.args.tokens.now c.in-Some.at ≡ Some token =
    sym (got c.args.tokens.now c.in-Some.at c.get.result c.get.ensures.lookup.0 c.get.ensures.lookup.1)
    ∙ ap (λ (o : Option (Bor Token)). option_copied o) c.in-Some-get.is in
    let mark = codes "\ndriven in line " ++ decimal token.place.line in
    let first = first_shown 120 c.line_at.result.now in (
      driver_text text token c.end_from.result,
      inl (
        c.in-Some.at,
        c.in-Some.ensures.some,
        record { token = token; there = there; upto = c.end_from.result; ends = c.end_from.ensures; is = refl },
      ),
      extends_as c.args.words.now c.add_first.new.self (mark ++ (codes ": " ++ first)) (driver_text text token c.end_from.result)
          (ap (λ (l : List ℕ). mark ++ (codes ": " ++ first_shown 120 l)) shown)
          (extends_both c.args.words.now c.add_number.new.self c.add_first.new.self mark (codes ": " ++ first) c.add_number.ensures
          (extends_both c.add_number.new.self c.add.new.self c.add_first.new.self (codes ": ") first c.add.ensures c.add_first.ensures)),
    )
