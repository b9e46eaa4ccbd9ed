-- Pieces that are added to a page one after another.
use Rattle.std.proofs.Common.{◌≡◌, ◌++◌, ◌∙◌, ℕ, List, ap, append_assoc, subst}
use Rattle.ps_bench_report.specs.Files.{text_part}
use Rattle.ps_bench_report.specs.Paged.{Adds, Paged}
use Rattle.ps_bench_report.specs.declared.page.Piece.{Piece}

-- pieces after others
pub adds_behind : (a b c : Paged) (p q : List Piece) → Adds a b p → Adds b c q → Adds a c (p ++ q)
adds_behind a b c p q first second = λ whole.
    let two = second whole in
    let one = first two.0 in
    (one.0, two.1 ∙ ap (λ (t : List Piece). t ++ q) one.1 ∙ append_assoc a.pieces p q)

-- a part with a text that is this one
pub told : (a b : Paged) (heading text text' none : List ℕ) → text' ≡ text → Adds a b (text_part heading text' none) →
    Adds a b (text_part heading text none)
told a b heading text text' none same adds = subst (λ (t : List ℕ). Adds a b (text_part heading t none)) same adds
