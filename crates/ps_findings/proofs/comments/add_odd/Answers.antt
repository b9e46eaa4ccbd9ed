use Rattle.std.proofs.Common.{◌≡◌, ℕ, ◌<◌, ◌+◌, ◌-◌, ◌∙◌, List, [], ◌∷◌, ◌++◌, add-one, ap, arith, drop, drop-cons, get_or, length, length-drop, refl, sym, take}
use Rattle.std.proofs.lemmas.List.{take_all}
use Rattle.ps_findings.specs.Comments.{odd_at, odd_places}
use Rattle.ps_findings.proofs.Oddities.{added_more, none_added, odd_here}
use Rattle.ps_findings.proofs.comments.add_odd.Goals as goal

pub loop-i-init : goal.loop-i-init
loop-i-init c = ([], [], record { spot = refl; before = refl; last = refl; place = refl }, none_added c.args.odd.now, refl)

pub loop-i-preserved : goal.loop-i-preserved
loop-i-preserved c =
    let text = c.args.text.now in
    let i = c.loop-i.i in
    let inv = c.loop-i.invariant in
    let back = inv.0 in
    let more = inv.1 in
    let byte = get_or text i 0 in
    let within : i < length text = omega arith in
    let rest : take (length text - i) (drop i text) ≡ drop i text = take_all (length text - i) (drop i text) (simp length-drop (omega arith)) in
    let one : drop i text ≡ byte ∷ drop (i + 1) text = drop-cons text i 0 within ∙ ap (λ (n : ℕ). byte ∷ drop n text) (sym (add-one i)) in
    let found = odd_at c.loop-i.walk.place c.oddity.result in (
      byte ∷ back,
      more ++ found,
      c.walk_on-walk.ensures back inv.2,
      added_more c.args.odd.now c.loop-i.odd c.add.new.self more found inv.3 c.add.ensures,
      odd_here c.loop-i.walk back (take (length text - i) (drop i text)) (drop (i + 1) text) byte more (odd_places [] text) c.oddity.result inv.2
          (rest ∙ one) c.oddity.ensures (ap (λ (bytes : List ℕ). more ++ odd_places back bytes) rest ∙ inv.4),
    )
