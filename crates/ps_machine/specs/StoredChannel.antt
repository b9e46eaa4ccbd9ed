-- A channel as its callers see it.
use Rattle.std.specs.Prelude.{ℕ, List}
use Rattle.ps_model.specs.declared.channel.Region.{Region}
use Rattle.ps_model.specs.declared.channel.Region.TheVariants.{Code, Cells}
use Rattle.ps_model.specs.declared.sizes.Sizes.{Sizes}
use Rattle.ps_machine.specs.Bytes.{overwritten}
use Rattle.ps_machine.specs.Machines.{Workings}

-- A channel is the sizes of its application, and its code and its cells as they are stored.
pub record Stored : Type 0 where
  pub sizes : Sizes
  pub code : List ℕ
  pub cells : List ℕ

-- a channel that was just made from an image: the code is the image's, and the cells are blank
abbrev pub as_compiled : Workings → Sizes → (image : List ℕ) → Stored
as_compiled w sizes image = record { sizes = sizes; code = image; cells = w.blank }

-- a channel with the code of an image and with these cells
abbrev pub restored_channel : (cells : List ℕ) → (image : List ℕ) → Stored → Stored
restored_channel cells image channel = record { sizes = channel.sizes; code = image; cells = cells }

-- the bytes of a region
abbrev pub region_of : Region → Stored → List ℕ
region_of Code channel = channel.code
region_of Cells channel = channel.cells

-- the channel with bytes of a region replaced where they lie within it
abbrev pub spoiled : Region → (at : ℕ) → (bytes : List ℕ) → Stored → Stored
spoiled Code at bytes channel = record channel { code = overwritten channel.code at bytes }
spoiled Cells at bytes channel = record channel { cells = overwritten channel.cells at bytes }
