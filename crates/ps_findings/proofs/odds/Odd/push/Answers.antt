use Rattle.std.proofs.Common.{◌≤◌, ◌∷◌, arith, length}
use Rattle.ps_notes.specs.declared.note.OddComment.{OddComment}
use Rattle.ps_findings.proofs.Oddities.{enough, passed_over}
use Rattle.ps_findings.specs.Comments.{firsts}
use Rattle.ps_findings.proofs.odds.Odd.push.Goals as goal
use Rattle.ps_findings.proofs.odds.Odd.push.Goals.{else-self-place-via-then-self-place+else-len-lt-MOST_ODD, else-self-place-via-else-self-place}

pub returns-else-self-place : goal.returns-else-self-place
returns-else-self-place c = λ whole. (
  whole,
  λ further.
      let odd : OddComment = record { what = c.args.what; place = c.args.place } in
      let list = c.args.self.now.list.items in
      let last = c.args.self.now.last in
      elim c.else-self-place.branch [
        | else-self-place-via-then-self-place+else-len-lt-MOST_ODD w ↦
            let many : 20 ≤ length list = omega (arith, c.args.self.now.list.ok.0) in
            enough list (firsts last further) (firsts last (odd ∷ further)) many
        | else-self-place-via-else-self-place w ↦ passed_over list last odd further w.if-self-place.false
      ],
)
