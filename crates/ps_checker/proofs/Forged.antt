-- Forged certificates of the small application of `Motor`, as a table of examples. Its nodes: 0 S_In and 1 Ack at the
-- pins of the call, 2 the AND, 3 E.S_EStopOut and 4 Run.
use Rattle.std.proofs.Common.{◌≡◌, [], ◌∷◌, List, None, refl, true, false}
use Rattle.std.specs.Prelude.{slice_get}
use Rattle.std.specs.List.{list_all}
use Rattle.ps_model.specs.Action.{time, wired}
use Rattle.ps_model.specs.Blocks.{block}
use Rattle.ps_model.specs.declared.kind.Ty.TheVariants.{Safe, Time}
use Rattle.ps_model.specs.Formula.{Formula, signal, any_of, operand, no_operand}
use Rattle.ps_model.specs.Named.{output_types}
use Rattle.ps_model.specs.Nodes.{app_nodes}
use Rattle.ps_model.specs.Obligations.{obligations}
use Rattle.ps_flow.specs.declared.certificate.CertLine.{CertLine}
use Rattle.ps_flow.specs.declared.certificate.LineRule.TheVariants.{Src, And, Or}
use Rattle.ps_flow.specs.Derivation.{line}
use Rattle.ps_flow.proofs.Motor.{motor, stop_and_run}
use Rattle.ps_checker.specs.Derives.{is_earlier, fits, has_line, literal_fits}

-- the first two lines of the right certificate
abbrev two : List CertLine
two = line 0 Src [] ∷ line 3 Src [] ∷ []

-- `5 SRC`: the node does not exist
missing_node : slice_get (app_nodes motor) 5 ≡ None
missing_node = refl

-- `2 AND 3` as the third line, its own number; `2 AND 4`, a later one; `2 AND 0`
own_line : list_all (is_earlier 2) (3 ∷ []) ≡ false
own_line = refl

later_line : list_all (is_earlier 2) (4 ∷ []) ≡ false
later_line = refl

premise_zero : list_all (is_earlier 2) (0 ∷ []) ≡ false
premise_zero = refl

-- `2 AND 2` fits; `2 AND 2 2`, `2 AND` and `2 AND 1`, which speaks of node 0, do not
right : fits motor two And (2 ∷ []) 3 stop_and_run ≡ true
right = refl

premise_twice : fits motor two And (2 ∷ 2 ∷ []) 3 stop_and_run ≡ false
premise_twice = refl

no_premise : fits motor two And [] 3 stop_and_run ≡ false
no_premise = refl

wrong_operand : fits motor two And (1 ∷ []) 3 stop_and_run ≡ false
wrong_operand = refl

-- `2 OR 2` and `2 SRC`: another rule than the node's
or_of_an_and : fits motor two Or (2 ∷ []) 3 stop_and_run ≡ false
or_of_an_and = refl

source_of_an_and : fits motor two Src [] 3 stop_and_run ≡ false
source_of_an_and = refl

-- `3 SRC 1`: a source has no premises; `1 SRC`: Ack is BOOL
source_with_premise : fits motor two Src (1 ∷ []) 4 (signal 4) ≡ false
source_with_premise = refl

plain_source : fits motor two Src [] 2 (signal 1) ≡ false
unfolding block output_types
plain_source = refl

safe_source : fits motor two Src [] 4 (signal 4) ≡ true
unfolding block output_types
safe_source = refl

-- an OR of the nodes 1 and 2, with lines that speak of them in order, out of order, and of one alone
abbrev pair : Formula
pair = any_of (operand (signal 0) (operand (signal 0) no_operand))

abbrev spoken_pair : List CertLine
spoken_pair = line 1 Src [] ∷ line 2 Src [] ∷ []

or_in_order : fits motor spoken_pair Or (1 ∷ 2 ∷ []) 1 pair ≡ true
or_in_order = refl

or_out_of_order : fits motor spoken_pair Or (2 ∷ 1 ∷ []) 1 pair ≡ false
or_out_of_order = refl

or_of_one : fits motor spoken_pair Or (1 ∷ []) 1 pair ≡ false
or_of_one = refl

-- the right lines cover the obligations, with a further line too; without the first one they do not
all_obligations_covered : list_all (has_line (line 0 Src [] ∷ line 3 Src [] ∷ line 2 And (2 ∷ []) ∷ [])) (obligations motor) ≡ true
unfolding block output_types
all_obligations_covered = refl

further_line : list_all (has_line (line 0 Src [] ∷ line 3 Src [] ∷ line 3 Src [] ∷ line 2 And (3 ∷ []) ∷ [])) (obligations motor) ≡ true
unfolding block output_types
further_line = refl

first_obligation_missing : list_all (has_line (line 3 Src [] ∷ line 2 And (1 ∷ []) ∷ [])) (obligations motor) ≡ false
unfolding block output_types
first_obligation_missing = refl

-- T#1s at a Boolean pin, a value at a TIME pin
time_at_a_safe_pin : literal_fits Safe (time 1000) ≡ false
time_at_a_safe_pin = refl

value_at_a_time_pin : literal_fits Time (wired (signal 0)) ≡ false
value_at_a_time_pin = refl
