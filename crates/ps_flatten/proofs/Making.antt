-- The flat source over function blocks as they are kept.
use Rattle.std.proofs.Common.{◌≡◌, List, [], map, ap, ◌∙◌}
use Rattle.ps_parser.specs.declared.name.Name.{Name}
use Rattle.ps_parser.specs.declared.section.Section.{Section}
use Rattle.ps_parser.specs.Tree.{StatementTree, SourceTree}
use Rattle.ps_derived.specs.declared.library.Library.{Library}
use Rattle.ps_derived.specs.Spelling.{spelt_as_declared}
use Rattle.ps_derived.specs.Flat.{FlatBlock, section_flat, body_flat, blocks_flat, flat}
use Rattle.ps_flatten.specs.Laying.{AreLaid}
use Rattle.ps_flatten.proofs.Alike.{body_alike}

-- the parts of the program over them are those of the flat source
pub program_is : (l : Library) (ls : List FlatBlock) (bs : List SourceTree) (ss : List Section) (name : Name) (sections : List Section) (statements : List StatementTree) →
    bs ≡ l.blocks → ss ≡ l.program.sections → AreLaid ls (blocks_flat [] (map spelt_as_declared bs)) →
    sections ≡ map (section_flat ls) ss → statements ≡ (body_flat ls l.program).statements → name ≡ l.program.name →
    (record { name = name; sections = sections; statements = statements }) ≡ flat l
program_is l ls bs ss name sections statements same its laid a b c =
    let parts : (record { name = name; sections = sections; statements = statements }) ≡ body_flat ls l.program =
    (λ i. record { name = c i; sections = (a ∙ ap (map (section_flat ls)) its) i; statements = b i }) in
    parts ∙ body_alike ls (blocks_flat [] (map spelt_as_declared bs)) laid l.program ∙ ap (λ x. body_flat (blocks_flat [] (map spelt_as_declared x)) l.program) same
