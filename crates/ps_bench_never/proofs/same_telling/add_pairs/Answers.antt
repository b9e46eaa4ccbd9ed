use Rattle.std.proofs.Common.{◌≡◌, ◌++◌, ℕ, OnOk, codes, subst}
use Rattle.ps_bench_frame.specs.Pieces.{count_text}
use Rattle.ps_bench_never.proofs.JoiningAny.{two_more}
use Rattle.ps_bench_never.proofs.same_telling.add_pairs.Goals as goal

pub returns : goal.returns
returns c =
    subst (λ (n : ℕ). OnOk c.add_count.result (c.add_count.new.text
    ≡ c.args.text.now ++ (codes " have the same outputs (" ++ count_text n (codes "pair"))))
    c.from.ensures
    (two_more c.add_count.result c.args.text.now (codes " have the same outputs (") (count_text c.from.result (codes "pair"))
    c.extend_from_slice.new.self c.add_count.new.text c.in_ok-extend_from_slice.ensures c.add_count.ensures)
