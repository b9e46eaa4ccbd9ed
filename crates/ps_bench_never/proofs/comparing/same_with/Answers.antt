use Rattle.std.proofs.Common.{Bool, ℕ, List, Option, ◌∙◌, subst}
use Rattle.std.specs.Prelude.{option_map}
use Rattle.ps_bench_never.specs.SameAsking.{EndsOf, second_of, two}
use Rattle.ps_bench_never.proofs.SameComing.{since, unread_since, with_both}
use Rattle.ps_bench_never.specs.SameAnswering.{names_of}
use Rattle.ps_reach.specs.Comparing.{Two}
use Rattle.ps_bench_never.proofs.comparing.same_with.Goals as goal

pub returns-in-Ok-clause-ends : goal.returns-in-Ok-clause-ends
returns-in-Ok-clause-ends g c =
    let first = c.args.opened.now.app in
    let second = second_of c.in-Ok.other in
    let app = c.args.asked.now.app.now in
    let other = c.args.asked.now.other.now in
    let rules = option_map (λ n. n.now) c.args.asked.now.rules in
    let states = c.args.asked.now.states in
    let ended = c.same_of.result in
    let after = g.O.Sink.taken c.same_of.new.out in
    let ends : EndsOf (two first second app other states) rules (g.F.Files.tells c.open_other.new.files) (g.F.Files.held c.open_other.new.files)
    (g.O.Sink.tells c.open_other.new.out) (g.O.Sink.taken c.open_other.new.out) after ended =
    subst (λ (t : Two). EndsOf t rules (g.F.Files.tells c.open_other.new.files) (g.F.Files.held c.open_other.new.files)
    (g.O.Sink.tells c.open_other.new.out) (g.O.Sink.taken c.open_other.new.out) after ended)
    (c.of-compared.ensures
    ∙ (λ i. record { net = first; file = app; other = c.app.ensures i; other_file = other; most = c.at_least_one.ensures.number i }))
    c.same_of.ensures.ends in
    with_both first second app other rules states (g.F.Files.tells c.args.files.now) (g.F.Files.held c.args.files.now)
    (g.O.Sink.tells c.args.out.now) (g.O.Sink.taken c.args.out.now) after ended c.in-Ok.ensures.app
    (since (λ (r : Bool) (h : List ℕ → Option (List ℕ)) (t : Bool) (b : List ℕ). EndsOf (two first second app other states) rules r h t b after ended)
    _ _ _ _ _ _ _ _ c.in-Ok.ensures.reading c.in-Ok.ensures.kept c.in-Ok.ensures.telling c.in-Ok.ensures.unsaid ends)

pub returns-in-Ok-clause-unread : goal.returns-in-Ok-clause-unread
returns-in-Ok-clause-unread g c =
    unread_since (g.F.Files.faults c.args.files.now) (g.F.Files.faults c.open_other.new.files) (g.F.Files.faults c.same_of.new.files)
    c.args.asked.now.other.now (names_of (option_map (λ n. n.now) c.args.asked.now.rules)) c.same_of.result c.in-Ok.ensures.reads c.same_of.ensures.unread
