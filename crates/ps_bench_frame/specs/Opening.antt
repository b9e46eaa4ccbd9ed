-- What a command takes its application and its case files from.
use Rattle.std.specs.Prelude.{◌≡◌, ℕ, Bool, IsTrue, List, Option, Some, Ok}
use Rattle.ps_bench_cases.specs.declared.case.CaseFile.{CaseFile}
use Rattle.ps_bench_cases.specs.File.{cases_of}
use Rattle.ps_model.specs.Network.{Network}
use Rattle.ps_model.specs.declared.channel.ImageSizes.{ImageSizes}
use Rattle.ps_accepted.specs.Source.{IsAcceptedAs}
use Rattle.ps_accepted.specs.Source.Reading.{stands_for}
use Rattle.ps_bench_frame.specs.Seen.{CallSeen, Texts, texts_of}

-- What the cases of a call are run on: the application, the sizes of the regions of its channels, and the files, which
-- tell what they hold, or do not.
pub record Source : Type 0 where
  pub net : Network
  pub sizes : ImageSizes
  pub tells : Bool
  pub held : List ℕ → Option (List ℕ)

-- the same from its parts
abbrev pub source : Network → ImageSizes → (tells : Bool) → (held : List ℕ → Option (List ℕ)) → Source
source net sizes tells held = record { net = net; sizes = sizes; tells = tells; held = held }

-- the same of an application and the texts of files
abbrev pub source_in : Network → ImageSizes → Texts → Source
source_in net sizes texts = source net sizes texts.tells texts.held

-- the same of an application and a call
abbrev pub source_of_call : Network → ImageSizes → CallSeen → Source
source_of_call net sizes call = source_in net sizes (texts_of call)

-- the text is accepted as this application
abbrev pub GivesNet : (text : List ℕ) → Network → Type 0
GivesNet text net = IsAcceptedAs text (stands_for net)

-- the application is that of the text of its name, where that is known
abbrev pub IsOfApp : Source → (name : List ℕ) → Type 0
IsOfApp from name = IsTrue from.tells → (text : List ℕ) × (from.held name ≡ Some text) × GivesNet text from.net

-- the file says what the text of its name says, where that is known
abbrev pub IsOfText : Source → (name : List ℕ) → CaseFile → Type 0
IsOfText from name file =
    IsTrue from.tells → (text : List ℕ) → from.held name ≡ Some text → cases_of from.net from.sizes text ≡ Ok file
