-- The names of elements and attributes.
use Rattle.std.specs.Prelude.{ℕ, List, codes}
use Rattle.ps_bench_report.specs.declared.names.Key.{Key}
use Rattle.ps_bench_report.specs.declared.names.Key.TheVariants.{Class, Id, Scope, Role, LabelledBy, X, Y, Width, Height, D}
use Rattle.ps_bench_report.specs.declared.names.Key.TheVariants.{ViewBox}
use Rattle.ps_bench_report.specs.declared.names.Tag.{Tag}
use Rattle.ps_bench_report.specs.declared.names.Tag.TheVariants.{Title, Main, Section, H1, H2, H3, P, Pre, Span, Ul, Li}
use Rattle.ps_bench_report.specs.declared.names.Tag.TheVariants.{Table, Caption, Thead, Tbody, Tr, Th, Td, Figure}
use Rattle.ps_bench_report.specs.declared.names.Tag.TheVariants.{Figcaption, Svg, Desc, G, Rect, Path, Text}

-- the name of an element
abbrev pub tag_name : Tag → List ℕ
tag_name Title = codes "title"
tag_name Main = codes "main"
tag_name Section = codes "section"
tag_name H1 = codes "h1"
tag_name H2 = codes "h2"
tag_name H3 = codes "h3"
tag_name P = codes "p"
tag_name Pre = codes "pre"
tag_name Span = codes "span"
tag_name Ul = codes "ul"
tag_name Li = codes "li"
tag_name Table = codes "table"
tag_name Caption = codes "caption"
tag_name Thead = codes "thead"
tag_name Tbody = codes "tbody"
tag_name Tr = codes "tr"
tag_name Th = codes "th"
tag_name Td = codes "td"
tag_name Figure = codes "figure"
tag_name Figcaption = codes "figcaption"
tag_name Svg = codes "svg"
tag_name Desc = codes "desc"
tag_name G = codes "g"
tag_name Rect = codes "rect"
tag_name Path = codes "path"
tag_name Text = codes "text"

-- the name of an attribute
abbrev pub key_name : Key → List ℕ
key_name Class = codes "class"
key_name Id = codes "id"
key_name Scope = codes "scope"
key_name Role = codes "role"
key_name LabelledBy = codes "aria-labelledby"
key_name X = codes "x"
key_name Y = codes "y"
key_name Width = codes "width"
key_name Height = codes "height"
key_name D = codes "d"
key_name ViewBox = codes "viewBox"
