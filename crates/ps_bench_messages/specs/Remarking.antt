-- What a command remarks, while it runs, on what it was asked.
use Rattle.std.specs.Prelude.{◌≡◌, ◌⊎◌, ◌++◌, ℕ, Bool, false, List, Option, Result, Ok, codes}
use Rattle.ps_bench_frame.specs.Opening.{IsOfApp, Source, source}
use Rattle.ps_bench_frame.specs.Pieces.{shown}
use Rattle.ps_bench_frame.specs.declared.ending.Status.{Status}
use Rattle.ps_bench_frame.specs.declared.ending.Status.TheVariants.{Usage}
use Rattle.ps_bench_frame.specs.declared.ending.Stop.{Stop}
use Rattle.ps_edge.specs.Heard.{IsHeard}
use Rattle.ps_edge.specs.Hearing.{ListenerSeen}
use Rattle.ps_model.specs.Network.{Network}
use Rattle.ps_model.specs.declared.channel.ImageSizes.{ImageSizes}
use Rattle.ps_message.specs.declared.statuses.TheConstants.{NO_MEMORY}

-- One such text is remarked: a listener that asks for no messages hears nothing, and every other one hears the text, as
-- far as it has room for it. If there is no memory for the text, it is that memory is out.
abbrev pub HearsRemark : (IsText : List ℕ → Type 0) → ListenerSeen → (after : List ℕ) → Type 0
HearsRemark IsText who after = IsHeard false (λ text. IsText text ⊎ (text ≡ NO_MEMORY.now)) false who after

-- Such a text is remarked exactly if this is so, and else nothing is heard.
pub record RemarksIf (IsSo : Type 0) (IsText : List ℕ → Type 0) (who : ListenerSeen) (after : List ℕ) : Type 0 where
  pub remarked : IsSo → HearsRemark IsText who after
  pub silent : ¬ IsSo → after ≡ who.heard

-- a word names nothing in the application of this name
abbrev pub no_name_text : (app word : List ℕ) → List ℕ
no_name_text app word =
    shown app ++ codes ": nothing there is called " ++ shown word
    ++ codes "\nname an input, an output, a local, an instance, or INSTANCE.PIN for a BOOL or SAFEBOOL pin (docs/watch.md)\n"

-- such a text tells of the application of this name, by what the files hold
abbrev pub TellsOfApp : (Tells : Source → List ℕ → Type 0) → (app : List ℕ) → (reading : Bool) (held : List ℕ → Option (List ℕ)) →
    (text : List ℕ) → Type 0
TellsOfApp Tells app reading held text =
    (net : Network) × (sizes : ImageSizes) × IsOfApp (source net sizes reading held) app
    × Tells (source net sizes reading held) text

-- What a listener hears of a command that ended so: such a remark on its application if with Usage, and else nothing.
abbrev pub HearsUsage : (Tells : Source → List ℕ → Type 0) → (app : List ℕ) → (reading : Bool) (held : List ℕ → Option (List ℕ)) →
    Result Status Stop → ListenerSeen → (after : List ℕ) → Type 0
HearsUsage Tells app reading held ended who after =
    RemarksIf (ended ≡ Ok Usage) (TellsOfApp Tells app reading held) who after
