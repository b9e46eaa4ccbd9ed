-- The lines of a run, each ended by a line feed.
use Rattle.std.specs.Prelude.{ℕ, Bool, false, List, [], ◌∷◌, ◌++◌, ◌+◌, codes, decimal, map, sum_by, length, Option}
use Rattle.std.specs.Prelude.{Some, None}
use Rattle.std.specs.List.{flat_map}
use Rattle.std.specs.Int.{to_be_bytes, w16}
use Rattle.std.specs.Char.{to_ascii_uppercase}
use Rattle.hex.specs.Hex.{encode_lower}
use Rattle.ps_model.specs.declared.channel.Cause.{Cause}
use Rattle.ps_model.specs.declared.channel.Cause.TheVariants.{Differ, Stuck, Trap, NoReport}
use Rattle.ps_model.specs.declared.named.Signal.{Signal}
use Rattle.ps_model.specs.declared.named.Instance.{Instance}
use Rattle.ps_model.specs.declared.report.Diag.{Diag}
use Rattle.ps_model.specs.declared.report.Report.{Report}
use Rattle.ps_model.specs.Network.{Network}
use Rattle.ps_report.specs.Digits.{truth_digit}
use Rattle.ps_report.specs.Image.{channel_letter}

-- a name with a truth value, as ` S_Motor=1`
abbrev pub named_value : List ℕ → Bool → List ℕ
named_value name value = codes " " ++ name ++ codes "=" ++ truth_digit value ∷ []

-- a DiagCode in four capital hexadecimal digits
abbrev pub code_text : ℕ → List ℕ
code_text code = map to_ascii_uppercase (encode_lower (to_be_bytes w16 code))

-- a name with Ready, Error and DiagCode, as ` E=1,0,8000`
abbrev pub named_diag : List ℕ → Diag → List ℕ
named_diag name diag =
    named_value name diag.ready ++ codes "," ++ truth_digit diag.error ∷ [] ++ codes "," ++ code_text diag.code

-- these outputs with their values, in order
abbrev pub output_texts : List Signal → List Bool → List ℕ
output_texts [] values = []
output_texts (output ∷ outputs) [] = []
output_texts (output ∷ outputs) (value ∷ values) = named_value output.name value ++ output_texts outputs values

-- these instances with what they say of themselves, in order
abbrev pub instance_texts : List Instance → List Diag → List ℕ
instance_texts [] diags = []
instance_texts (instance ∷ instances) [] = []
instance_texts (instance ∷ instances) (diag ∷ diags) = named_diag instance.name diag ++ instance_texts instances diags

-- the line of a scan, as `30 S_Motor=1 E=1,0,8000`
abbrev pub report_text : Network → ℕ → Report → List ℕ
report_text net now report =
    decimal now ++ output_texts net.outputs report.outs ++ instance_texts net.instances report.diags ++ codes "\n"

-- why a scan is tripped, as `differ 3`, `stuck A`, `trap B 5` or `no report A`
abbrev pub cause_text : Cause → List ℕ
cause_text (Differ field) = codes " differ " ++ decimal field
cause_text (Stuck channel) = codes " stuck " ++ channel_letter channel
cause_text (Trap channel number) = codes " trap " ++ channel_letter channel ++ codes " " ++ decimal number
cause_text (NoReport channel) = codes " no report " ++ channel_letter channel

-- the cause of the scan that trips, or nothing for a later one
abbrev pub given_cause : Option Cause → List ℕ
given_cause None = []
given_cause (Some cause) = cause_text cause

-- the line of a scan that trips, as `20 TRIP differ 0 S_Motor=0`, or of a later one, as `30 TRIP S_Motor=0`
abbrev pub trip_text : Network → ℕ → Option Cause → List ℕ
trip_text net now cause =
    decimal now ++ codes " TRIP" ++ given_cause cause ++ flat_map (λ output. named_value output.name false) net.outputs ++ codes "\n"

-- the bytes that suffice for the outputs of a line
abbrev pub outputs_room : List Signal → ℕ
outputs_room outputs = sum_by (λ output. length output.name + 3) outputs

-- the bytes that suffice for its instances
abbrev pub instances_room : List Instance → ℕ
instances_room instances = sum_by (λ instance. length instance.name + 10) instances

-- the bytes that suffice for any line of a run of an application
abbrev pub line_room : Network → ℕ
line_room net = 48 + outputs_room net.outputs + instances_room net.instances
