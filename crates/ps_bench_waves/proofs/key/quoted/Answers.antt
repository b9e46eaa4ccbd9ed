use Rattle.std.proofs.Common.{◌≡◌, ◌∙◌, ◌++◌, ℕ, List, [], ◌∷◌, ap, subst}
use Rattle.std.specs.Prelude.{IfOk}
use Rattle.json.specs.Print.{print, quoted}
use Rattle.json.specs.Token.{Token, string}
use Rattle.ps_bench_waves.proofs.Quoting.{print-string}
use Rattle.ps_bench_waves.proofs.key.quoted.Goals as goal

pub returns : goal.returns
returns c =
    let text : List ℕ = c.args.text.now in
    let before : c.string.new.self.before ≡ [] =
    c.in_ok-string.ensures.room.0 ∙ c.new-writer.ensures.before ∙ c.new.ensures.items in
    let tokens : c.string.new.self.tokens ≡ string text ∷ [] =
    c.in_ok-string.ensures.ok ∙ ap (λ (ts : List Token). ts ++ string text ∷ []) c.new-writer.ensures.tokens in
    let is : c.as_slice.result.now ≡ quoted text =
    c.as_slice.ensures.value ∙ c.into_inner.ensures.items
    ∙ ap (λ (bytes : List ℕ). bytes ++ print c.string.new.self.tokens) before
    ∙ ap print tokens ∙ print-string text in
    subst (λ (t : List ℕ). IfOk c.from_slice.result (λ bytes. bytes ≡ t)) is c.from_slice.ensures
