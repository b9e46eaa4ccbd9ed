-- The flat source of a text is whole where each call of a derived instance has an argument for each input.
use Rattle.std.proofs.Common.{◌≡◌, List, [], ◌∷◌, ◌++◌, map, sym, ap, subst, ◌∙◌, append_assoc}
use Rattle.std.specs.List.{AllByRecursion}
use Rattle.std.proofs.SliceLists.{all_by_recursion_push}
use Rattle.std.proofs.lemmas.List.{map-append, append-nil}
use Rattle.ps_parser.specs.Tree.{SourceTree}
use Rattle.ps_parser.specs.Whole.{IsSource}
use Rattle.ps_derived.specs.declared.library.Library.{Library}
use Rattle.ps_derived.specs.Bodies.{declared_names}
use Rattle.ps_derived.specs.Interfaces.{interface_of}
use Rattle.ps_derived.specs.Spelling.{spelt_as_declared}
use Rattle.ps_derived.specs.Flat.{FlatBlock, block_flat, blocks_flat, flat}
use Rattle.ps_derived.specs.Giving.{BodyGives, BlocksGive, EachCallGives}
use Rattle.ps_flatten.proofs.Given.{face, laid_each, spelt_each}
use Rattle.ps_flatten.proofs.Wholes.{BlockFine, body_fine, spelt_source, fine_source}

-- one function block after the other
blocks_fine : (before : List FlatBlock) (bs : List SourceTree) → AllByRecursion BlockFine before → AllByRecursion IsSource bs → BlocksGive (map face before) bs →
    AllByRecursion BlockFine (blocks_flat before (map spelt_as_declared bs))
blocks_fine before [] fine whole given = fine
blocks_fine before (b ∷ bs) fine whole given =
    let ds = declared_names b.sections in
    let laid = block_flat before (spelt_as_declared b) in
    let gives = spelt_each before ds b.statements (laid_each before ds b.statements given.0) in
    blocks_fine (before ++ laid ∷ []) bs (all_by_recursion_push BlockFine before laid fine (body_fine before fine (spelt_as_declared b) (spelt_source b whole.0) gives)) whole.1
    (subst (λ i. BlocksGive i bs) (sym (map-append face before (laid ∷ []))) given.1)

faces_are : (before : List FlatBlock) (bs : List SourceTree) → map face (blocks_flat before (map spelt_as_declared bs)) ≡ map face before ++ map interface_of bs
faces_are before [] = sym (append-nil (map face before))
faces_are before (b ∷ bs) =
    let laid = block_flat before (spelt_as_declared b) in
    faces_are (before ++ laid ∷ []) bs ∙ ap (λ i. i ++ map interface_of bs) (map-append face before (laid ∷ []))
    ∙ append_assoc (map face before) (interface_of b ∷ []) (map interface_of bs)

pub flat_whole : (l : Library) → EachCallGives l → AllByRecursion IsSource l.blocks → IsSource l.program → IsSource (flat l)
flat_whole l given blocks program =
    let before = blocks_flat [] (map spelt_as_declared l.blocks) in
    let fine = blocks_fine [] l.blocks tt blocks given.blocks in
    let ds = declared_names l.program.sections in
    let gives = laid_each before ds l.program.statements (subst (λ i. BodyGives i l.program) (sym (faces_are [] l.blocks)) given.program) in
    fine_source (block_flat before l.program) (body_fine before fine l.program program gives) program.whole.0
