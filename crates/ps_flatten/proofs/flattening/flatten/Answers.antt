use Rattle.std.proofs.Common.{◌≡◌, ℕ, List, [], ◌∷◌, length, refl, sym, ap, ◌∙◌, arith}
use Rattle.ps_parser.specs.Tree.{SourceTree}
use Rattle.ps_derived.specs.Flat.{flat}
use Rattle.ps_derived.proofs.Alone.{own_flat_source}
use Rattle.ps_flatten.proofs.flattening.flatten.Goals as goal

none_there : (bs : List SourceTree) (n : ℕ) → n ≡ length bs → n ≡ 0 → bs ≡ []
none_there [] n long none_ = refl
none_there (b ∷ bs) n long none_ = absurd (omega (arith, long, none_))

pub returns-then-len-eq0 : goal.returns-then-len-eq0
returns-then-len-eq0 c =
    let l = c.args.library in
    let alone : l.blocks ≡ [] = none_there l.blocks c.len.result c.len.ensures c.if-len-eq0.true in
    record { flattens = c.into_program.ensures ∙ sym (own_flat_source l.program) ∙ ap (λ bs. flat (record { blocks = bs; program = l.program })) (sym alone) }
