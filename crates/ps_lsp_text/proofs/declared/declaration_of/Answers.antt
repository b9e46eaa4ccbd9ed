use Rattle.std.proofs.Common.{◌≡◌, ◌+◌, ◌<◌, None, subst, sym, ◌∙◌, arith}
use Rattle.ps_lsp_text.proofs.AmongTokens.{Known, known_other, known_here, known_found, known_some, known_nothing, no_declaration_yet}
use Rattle.ps_lsp_text.proofs.declared.declaration_of.Goals as goal
use Rattle.ps_lsp_text.proofs.declared.declaration_of.Goals.{then-declares, else-declares, else-i-upto-via-then-i-upto+else-is_some, else-i-upto-via-else-i-upto}

pub loop-i-preserved : goal.loop-i-preserved
loop-i-preserved c =
    let known = Known c.args.tokens.now c.args.name.now c.args.upto (c.loop-i.i + 1) in
    elim c.if-declares.branch [
      | then-declares w ↦
          let late : c.args.upto < c.loop-i.i → c.loop-i.found ≡ None = λ later. elim c.else-i-upto.branch [
            | else-i-upto-via-then-i-upto+else-is_some v ↦ no_declaration_yet c.loop-i.found (sym v.is_some.ensures ∙ v.if-is_some.false)
            | else-i-upto-via-else-i-upto v ↦ absurd (omega arith)
          ] in
          subst known (sym w.found-is) (known_here c.args.tokens.now c.args.name.now c.args.upto c.loop-i.i c.loop-i.found c.loop-i.invariant late (c.declares.ensures.yes w.if-declares.true))
      | else-declares w ↦ subst known (sym w.found-is) (known_other c.args.tokens.now c.args.name.now c.args.upto c.loop-i.i c.loop-i.found c.loop-i.invariant (c.declares.ensures.no w.if-declares.false))
    ]

pub returns-then-is_some-clause-some : goal.returns-then-is_some-clause-some
returns-then-is_some-clause-some c = known_found c.args.tokens.now c.args.name.now c.args.upto c.loop-i.i c.loop-i.found c.loop-i.invariant c.if-i-upto.true

pub returns-clause-some : goal.returns-clause-some
returns-clause-some c = known_some c.args.tokens.now c.args.name.now c.args.upto c.loop-i.i (omega arith) c.loop-i.found c.loop-i.invariant

pub returns-clause-none : goal.returns-clause-none
returns-clause-none c = known_nothing c.args.tokens.now c.args.name.now c.args.upto c.loop-i.i (omega arith) c.loop-i.found c.loop-i.invariant
