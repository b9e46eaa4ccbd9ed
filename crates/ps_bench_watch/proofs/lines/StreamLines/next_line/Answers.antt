use Rattle.std.proofs.Common.{◌≡◌, ◌∙◌, ◌++◌, [], ℕ, IsTrue, List, Ok, refl, sym, ap, subst, arith}
use Rattle.std.proofs.lemmas.Result.{err_from_is_err_and}
use Rattle.ps_lines.specs.Lines.{HasNoLineFeed, Line}
use Rattle.ps_outside.specs.Outside.{Rose}
use Rattle.ps_bench_watch.specs.Reading.{Gives, held_of, left, line_of}
use Rattle.ps_bench_watch.proofs.Feeds.{left_same}
use Rattle.ps_bench_watch.proofs.lines.StreamLines.next_line.Goals as goal

pub pieces-init : goal.pieces-init
pieces-init g c = record { same = λ tells. refl; exact = refl; telling = refl; longest = refl }

pub fetch-requires : goal.fetch-requires
fetch-requires g c = record { all_looked_at = c.in_default.ensures.all_looked_at; short = c.in_default.ensures.short }

pub pieces-preserved : goal.pieces-preserved
pieces-preserved g c =
    let inv = c.pieces.invariant in
    let coming = g.S.Stream.coming in
    record {
      same = λ tells. c.fetch.ensures.same (subst IsTrue (sym inv.telling) tells)
          ∙ ap (λ (held : List ℕ). held ++ coming c.pieces.input) c.in_default.ensures.same ∙ inv.same tells;
      exact = c.in_ok-fetch.ensures.exact ∙ inv.exact;
      telling = c.fetch.ensures.telling ∙ inv.telling;
      longest = c.fetch.ensures.longest ∙ c.look.ensures.longest ∙ inv.longest;
    }

pub returns-in-Some : goal.returns-in-Some
returns-in-Some g c =
    let inv = c.pieces.invariant in
    let coming = g.S.Stream.coming in
    record {
      gives = λ tells. subst (λ (lines : List Line). Gives lines c.in-Some.came (line_of c.look.new.self) (left c.look.new.self (coming c.pieces.input)))
          (left_same c.pieces.self c.args.self.now (coming c.pieces.input) (coming c.args.input.now) inv.longest (inv.same tells))
          (c.in-Some.ensures.gives (coming c.pieces.input));
      all_came = tt;
      same_line = λ tells. tt;
      failed = tt;
      exact = inv.exact;
      counts = omega (arith, inv.exact);
      telling = inv.telling;
      longest = c.look.ensures.longest ∙ inv.longest;
    }

pub returns-in_err-fetch : goal.returns-in_err-fetch
returns-in_err-fetch g c =
    let inv = c.pieces.invariant in
    let coming = g.S.Stream.coming in
    let longest = c.fetch.ensures.longest ∙ c.look.ensures.longest ∙ inv.longest in
    let p = err_from_is_err_and c.from_residual.result c.from_residual.ensures.1 in
    rw (p.1)
    (record {
      gives = λ tells. tt;
      all_came = subst HasNoLineFeed (sym c.in_err-fetch.ensures.none) c.in_default.ensures.none;
      same_line = λ tells. left_same c.fetch.new.self c.args.self.now (coming c.fetch.new.input) (coming c.args.input.now) longest
          (c.fetch.ensures.same (subst IsTrue (sym inv.telling) tells)
          ∙ ap (λ (held : List ℕ). held ++ coming c.pieces.input) c.in_default.ensures.same ∙ inv.same tells);
      failed = subst (λ (n : ℕ). Rose n (g.S.Stream.faults c.fetch.new.input)) inv.exact c.in_err-fetch.ensures.failed;
      exact = tt;
      counts = omega (arith, c.fetch.ensures.counts, inv.exact);
      telling = c.fetch.ensures.telling ∙ inv.telling;
      longest = longest;
    })

pub end_text-requires : goal.end_text-requires
end_text-requires g c =
    let is : c.fetch.result ≡ Ok 0 = c.in_ok-fetch.was ∙ ap Ok c.if-branch-eq0.true in
    record {
      none = subst HasNoLineFeed (sym (c.fetch.ensures.stays is)) c.in_default.ensures.none;
      all_looked_at = c.fetch.ensures.stays_looked_at is;
      short = omega (arith, c.in_ok-fetch.ensures.grows, c.if-branch-eq0.true, c.in_default.ensures.short, c.fetch.ensures.longest);
    }

pub returns-then-branch-eq0 : goal.returns-then-branch-eq0
returns-then-branch-eq0 g c =
    let inv = c.pieces.invariant in
    let coming = g.S.Stream.coming in
    let longest = c.fetch.ensures.longest ∙ c.look.ensures.longest ∙ inv.longest in
    record {
      gives = λ tells.
          let here : IsTrue (g.S.Stream.tells c.pieces.input) = subst IsTrue (sym inv.telling) tells in
          let none = c.fetch.ensures.end here (c.in_ok-fetch.was ∙ ap Ok c.if-branch-eq0.true) in
          let same = ap (λ (bytes : List ℕ). held_of c.fetch.new.self ++ bytes) (sym none) ∙ c.fetch.ensures.same here
          ∙ ap (λ (held : List ℕ). held ++ coming c.pieces.input) c.in_default.ensures.same ∙ inv.same tells in
          subst (λ (bytes : List ℕ). Gives (left c.args.self.now (coming c.args.input.now)) c.end_text.result (line_of c.end_text.new.self) (left c.end_text.new.self bytes)) (sym none)
          (subst (λ (lines : List Line). Gives lines c.end_text.result (line_of c.end_text.new.self) (left c.end_text.new.self []))
          (left_same c.fetch.new.self c.args.self.now [] (coming c.args.input.now) longest same) c.end_text.ensures.gives);
      all_came = tt;
      same_line = λ tells. tt;
      failed = tt;
      exact = c.in_ok-fetch.ensures.exact ∙ inv.exact;
      counts = omega (arith, c.fetch.ensures.counts, inv.exact);
      telling = c.fetch.ensures.telling ∙ inv.telling;
      longest = c.end_text.ensures.longest ∙ longest;
    }
