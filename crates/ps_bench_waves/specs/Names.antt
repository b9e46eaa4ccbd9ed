-- What is watched where no names are given.
use Rattle.std.specs.Prelude.{ℕ, List, [], ◌∷◌, ◌++◌, map, length, if◌then◌else◌}
use Rattle.std.specs.List.{flat_map, range_with_len}
use Rattle.std.specs.Option.{option_map_or}
use Rattle.std.specs.Prelude.{slice_get}
use Rattle.ps_bench_names.specs.declared.name.Name.{Name}
use Rattle.ps_bench_names.specs.declared.name.Name.TheVariants.{Signal, Code, Pin}
use Rattle.ps_bench_names.specs.Names.{is_time}
use Rattle.ps_model.specs.declared.kind.Kind.{Kind}
use Rattle.ps_model.specs.declared.pins.PinRow.{PinRow}
use Rattle.ps_model.specs.Network.{Network, declared_count, input_count, instance_count, kind_at}
use Rattle.ps_model.specs.Pins.{pin_rows}
use Rattle.ps_bench_waves.specs.declared.format.Format.{Format}
use Rattle.ps_bench_waves.specs.declared.format.Format.TheVariants.{Text, Csv, Json}

-- a pin with this number, where it is BOOL or SAFEBOOL
abbrev pub pin_of : (instance : ℕ) → Kind → (pin : ℕ) → List Name
pin_of instance kind pin =
    option_map_or (λ (row : PinRow). if is_time row.ty then [] else Pin instance pin ∷ [])
    (slice_get (pin_rows kind) pin) []

-- the BOOL and SAFEBOOL pins of an instance of a kind, in the order of the kind
abbrev pub pins_of : (instance : ℕ) → Kind → List Name
pins_of instance kind = flat_map (pin_of instance kind) (range_with_len 0 (length (pin_rows kind)))

-- the code of an instance and its pins
abbrev pub names_of_instance : Network → (instance : ℕ) → List Name
names_of_instance net instance = Code instance ∷ pins_of instance (kind_at net instance)

-- All inputs, outputs and locals, and the code and the pins of each instance, in order of declaration.
abbrev pub all_names : Network → List Name
all_names net =
    map Signal (range_with_len 0 (declared_count net))
    ++ flat_map (names_of_instance net) (range_with_len 0 (instance_count net))

-- The outputs, and the code of each instance, in order of declaration.
abbrev pub main_names : Network → List Name
main_names net =
    map Signal (range_with_len (input_count net) (length net.outputs))
    ++ map Code (range_with_len 0 (instance_count net))

-- what is watched where no names are given: for a person the outputs and the codes of instances, for a program all
abbrev pub default_names : Network → Format → List Name
default_names net Text = main_names net
default_names net Csv = all_names net
default_names net Json = all_names net
