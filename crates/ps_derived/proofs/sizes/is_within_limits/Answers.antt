use Rattle.std.proofs.Common.{◌≤◌, [], ◌∷◌, ◌++◌, length, take, get_or, position, map, sym, ap, ◌∙◌, subst, arith}
use Rattle.std.proofs.lemmas.List.{map_more, take_all, map-append}
use Rattle.ps_base.specs.LetterCase.{is_same_name}
use Rattle.ps_names.specs.NameTables.{place_in}
use Rattle.ps_names.proofs.Indexing.{indexes_push}
use Rattle.ps_derived.specs.declared.limits.TheConstants.{MOST_FLAT_NAMES, MOST_FLAT_STATEMENTS}
use Rattle.ps_derived.specs.Spelling.{spelt_as_declared}
use Rattle.ps_derived.specs.Flat.{block_flat, blocks_flat, flat}
use Rattle.ps_derived.specs.Limits.{name_count, size_of}
use Rattle.ps_derived.proofs.Counts.{blocks_flat_push, spelt_size, within_count, count_within}
use Rattle.ps_derived.proofs.sizes.is_within_limits.Goals as goal

pub loop-source-preserved : goal.loop-source-preserved
loop-source-preserved c =
    let xs = c.as_slice-source-items.result.now in
    let i = c.loop-source.source-index in
    let x = get_or xs i c.source-item.result in
    let before = blocks_flat [] (map spelt_as_declared (take i xs)) in
    let size = c.in_ok-size.ensures before (c.deref.ensures.value ∙ c.loop-source.invariant.sizes) ∙ ap (λ s. size_of (block_flat before s)) c.source-item.is ∙ spelt_size before x in
    record {
      table = λ q.
          indexes_push (λ s. s.name) (place_in c.loop-source.table) (place_in c.enter.new.self) c.loop-source.sizes.items c.in_ok-size.size c.len-in-loop-source.result
          (omega (arith, c.len-in-loop-source.ensures, c.loop-source.sizes.ok)) c.loop-source.invariant.table c.in_ok-enter.ensures.is q
          ∙ ap (position (λ s. is_same_name q s.name.text)) (sym c.in_ok-push.ensures.items);
      sizes =
          c.in_ok-push.ensures.items
          ∙ (λ j. c.loop-source.invariant.sizes j ++ size j ∷ [])
          ∙ sym (map-append size_of before (block_flat before (spelt_as_declared x) ∷ []))
          ∙ ap (map size_of) (sym (blocks_flat_push [] (map spelt_as_declared (take i xs)) (spelt_as_declared x)))
          ∙ ap (λ bs. map size_of (blocks_flat [] bs)) (sym (map_more spelt_as_declared xs i c.source-item.result c.loop-source-test.true));
    }

pub returns : goal.returns
returns c =
    let l = c.args.library.now in
    let before = blocks_flat [] (map spelt_as_declared l.blocks) in
    let all = take_all c.loop-source.source-index c.as_slice-source-items.result.now (omega arith) ∙ c.as_slice-source-items.ensures in
    let sizes = c.deref-2.ensures.value ∙ c.loop-source.invariant.sizes ∙ ap (λ bs. map size_of (blocks_flat [] (map spelt_as_declared bs))) all in
    let program = c.in_ok-program.ensures before sizes in (
      λ yes.
          let small = c.is_small.ensures.0 yes in
          record {
            blocks = omega (arith, c.if-len.false, c.len.ensures);
            names = within_count MOST_FLAT_NAMES (name_count (flat l)) (subst (λ s. s.names ≤ MOST_FLAT_NAMES) program small.0);
            statements = within_count MOST_FLAT_STATEMENTS (length (flat l).statements) (subst (λ s. s.statements ≤ MOST_FLAT_STATEMENTS) program small.1);
          },
      λ within.
          c.is_small.ensures.1 (
            subst (λ s. s.names ≤ MOST_FLAT_NAMES) (sym program) (count_within MOST_FLAT_NAMES (name_count (flat l)) within.names),
            subst (λ s. s.statements ≤ MOST_FLAT_STATEMENTS) (sym program) (count_within MOST_FLAT_STATEMENTS (length (flat l).statements) within.statements),
          ),
    )
