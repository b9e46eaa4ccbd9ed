use Rattle.std.proofs.Common.{◌++◌, codes, map, sym, ◌∙◌}
use Rattle.ps_findings.proofs.Saying.{said_more, said_so}
use Rattle.ps_findings.proofs.Usages.{no_number, too_few, too_many}
use Rattle.ps_findings.specs.Usage.{count_text, is_load}
use Rattle.ps_findings.proofs.usage.add_count.Goals as goal

pub returns-then-count-wanted : goal.returns-then-count-wanted
returns-then-count-wanted c =
    let words = map (λ w. w.now) c.args.words.now in
    said_so c.args.telling.now c.add-then-count-wanted.new.self (c.taken_at.result.now ++ codes " is missing") (count_text c.args.row.now words)
    ((λ i. c.taken_at.ensures i ++ codes " is missing") ∙ too_few c.args.row.now words c.count_taken-wanted.result c.count_words-count.result
    c.count_taken-wanted.ensures.counts c.count_words-count.ensures c.if-count-wanted.true)
    (said_more c.args.telling.now c.add.new.self c.add-then-count-wanted.new.self c.taken_at.result.now (codes " is missing") c.add.ensures
    c.add-then-count-wanted.ensures)

pub returns-then-wanted-count : goal.returns-then-wanted-count
returns-then-wanted-count c =
    let words = map (λ w. w.now) c.args.words.now in
    said_so c.args.telling.now c.say.new.self _ (count_text c.args.row.now words)
    (too_many c.args.row.now words c.count_taken-wanted.result c.count_words-count.result c.word_among.result.now c.count_taken-wanted.ensures.counts
    c.count_words-count.ensures c.if-wanted-count.true c.word_among.ensures) c.say.ensures

pub returns-then-not-is_load : goal.returns-then-not-is_load
returns-then-not-is_load c =
    let words = map (λ w. w.now) c.args.words.now in
    let word = c.word_among-then-not-is_load in
    let same = c.word_among-then-count-eq1.ensures ∙ sym word.ensures in
    said_so c.args.telling.now c.say-then-not-is_load.new.self _ (count_text c.args.row.now words)
    (no_number c.args.row.now words c.count_taken-wanted.result c.count_words-count.result word.result.now c.count_taken-wanted.ensures.counts
    c.count_words-count.ensures c.if-count-wanted.false c.if-wanted-count.false c.if-count-eq1.true word.ensures
    ((λ i. is_load (sym same i)) ∙ sym c.is_load.ensures ∙ c.if-not-is_load.true)) c.say-then-not-is_load.ensures
