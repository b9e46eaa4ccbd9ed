use Rattle.std.proofs.Common.{◌≡◌, ◌+◌, ◌-◌, ℕ, List, [], take, drop, length, arith, subst, sym, refl, ap, ◌∙◌, length-drop, length-take}
use Rattle.std.proofs.lemmas.List.{take_all, drop_all, with_items_is}
use Rattle.std.specs.Vec.{with_items}
use Rattle.ps_lines.specs.Lines.{HasNoLineFeed}
use Rattle.ps_lines.specs.Reader.{held_of}
use Rattle.ps_lines.proofs.Cut.{line_goes_on_now, keeps_from, part_held}
use Rattle.ps_lines.proofs.reader.LineReader.keep_all.Goals as goal

no_more : (n : ℕ) (xs : List ℕ) → take (n - n) xs ≡ []
no_more n xs = let none : n - n ≡ 0 = omega arith in rw none refl

pub returns-clause-reads : goal.returns-clause-reads
returns-clause-reads c = λ text reads.
    let held : List ℕ = held_of c.args.self.now in
    let size : length held ≡ c.args.self.now.upto - c.args.self.now.from = omega (arith, length-take {A = ℕ}, length-drop {A = ℕ}) in
    let all : take (length held) held ≡ held = take_all (length held) held (omega arith) in
    let room : length c.keep.new.line ≡ c.args.self.now.line.len = omega arith in
    let items : (with_items c.args.self.now.line c.keep.new.line).items ≡ c.keep.new.line = with_items_is c.args.self.now.line c.keep.new.line room in
    let nothing : drop (length held) held ≡ [] = drop_all (length held) held (omega arith) in
    let part = part_held c.args.self.now.piece.items c.deref.result.now c.args.self.now.from c.args.self.now.upto (length held) (c.args.self.now.upto - c.args.self.now.from) c.deref.ensures.value (sym size) (omega arith) in
    line_goes_on_now (length held) reads (no_more c.args.self.now.upto (drop c.args.self.now.upto c.args.self.now.piece.items) ∙ sym nothing) (omega arith) (omega arith) (omega arith) (subst HasNoLineFeed (sym all) c.requires)
    (λ short. ap (take (c.args.self.now.count + length held)) items
    ∙ keeps_from _ _ _ _ held _ (length held) c.keep.ensures c.deref_mut.ensures.value part (omega arith) (omega arith))
