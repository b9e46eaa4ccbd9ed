use Rattle.std.proofs.Common.{◌∷◌, Bool, ℕ, List, Option}
use Rattle.std.specs.Prelude.{option_map}
use Rattle.ps_bench_never.specs.SameAsking.{EndsWith}
use Rattle.ps_bench_never.proofs.SameComing.{answered, since, stopped, unread_since}
use Rattle.ps_bench_never.specs.SameAnswering.{names_of}
use Rattle.ps_bench_never.proofs.comparing.same.Goals as goal

pub returns-in-Ok-clause-answers : goal.returns-in-Ok-clause-answers
returns-in-Ok-clause-answers g c =
    let first = c.in-Ok.opened.app in
    let app = c.args.asked.now.app.now in
    let other = c.args.asked.now.other.now in
    let rules = option_map (λ n. n.now) c.args.asked.now.rules in
    let states = c.args.asked.now.states in
    let ended = c.same_with.result in
    let after = g.O.Sink.taken c.same_with.new.out in
    answered first app other rules states (g.F.Files.tells c.args.files.now) (g.F.Files.held c.args.files.now)
    (g.O.Sink.tells c.args.out.now) (g.O.Sink.taken c.args.out.now) after ended (c.in-Ok.opened.sizes, c.in-Ok.ensures.app)
    (since (λ (r : Bool) (h : List ℕ → Option (List ℕ)) (t : Bool) (b : List ℕ). EndsWith first app other rules states r h t b after ended)
    _ _ _ _ _ _ _ _ c.in-Ok.ensures.reading c.in-Ok.ensures.kept c.in-Ok.ensures.telling c.in-Ok.ensures.unsaid c.same_with.ensures.ends)

pub returns-in-Ok-clause-stops : goal.returns-in-Ok-clause-stops
returns-in-Ok-clause-stops g c =
    let first = c.in-Ok.opened.app in
    let app = c.args.asked.now.app.now in
    let other = c.args.asked.now.other.now in
    let rules = option_map (λ n. n.now) c.args.asked.now.rules in
    let states = c.args.asked.now.states in
    let ended = c.same_with.result in
    let after = g.O.Sink.taken c.same_with.new.out in
    stopped first app other rules states (g.F.Files.tells c.args.files.now) (g.F.Files.held c.args.files.now)
    (g.O.Sink.tells c.args.out.now) (g.O.Sink.taken c.args.out.now) after ended (c.in-Ok.opened.sizes, c.in-Ok.ensures.app)
    (since (λ (r : Bool) (h : List ℕ → Option (List ℕ)) (t : Bool) (b : List ℕ). EndsWith first app other rules states r h t b after ended)
    _ _ _ _ _ _ _ _ c.in-Ok.ensures.reading c.in-Ok.ensures.kept c.in-Ok.ensures.telling c.in-Ok.ensures.unsaid c.same_with.ensures.ends)

pub returns-in-Ok-clause-unread : goal.returns-in-Ok-clause-unread
returns-in-Ok-clause-unread g c =
    unread_since (g.F.Files.faults c.args.files.now) (g.F.Files.faults c.open_app.new.files) (g.F.Files.faults c.same_with.new.files)
    c.args.asked.now.app.now (c.args.asked.now.other.now ∷ names_of (option_map (λ n. n.now) c.args.asked.now.rules)) c.same_with.result
    c.in-Ok.ensures.reads c.same_with.ensures.unread
