-- What resolution answers.
use Rattle.std.specs.Prelude.{◌≡◌, Some, Result, Ok, Err}
use Rattle.ps_base.specs.declared.failing.Fail.{Fail}
use Rattle.ps_base.specs.declared.failing.Fail.TheVariants.{Memory, Refused}
use Rattle.ps_model.specs.Network.{Network}
use Rattle.ps_parser.specs.Tree.{SourceTree}
use Rattle.ps_names.specs.Offences.{refused}
use Rattle.ps_names.specs.Rules.{offences}
use Rattle.ps_names.specs.Stands.{Stands}

-- the application that stands for the source; running out of memory; or the first of the source's offences
abbrev pub Resolves : SourceTree → Result Network Fail → Type 0
Resolves p (Ok app) = Stands p app
Resolves p (Err Memory) = Unit {0}
Resolves p (Err (Refused o)) = refused (offences p) ≡ Some o
