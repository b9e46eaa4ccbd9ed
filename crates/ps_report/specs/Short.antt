-- The short lines: refusals, the counts of an application, and the summary of a load.
use Rattle.std.specs.Prelude.{ℕ, Bool, true, false, List, [], ◌++◌, codes, decimal, length, if◌then◌else◌}
use Rattle.ps_base.specs.declared.failing.Rule.{Rule}
use Rattle.ps_base.specs.declared.failing.Rule.TheVariants.{L1, L2, L3, L4, L5, P1, P2, N1, N2, N3, N4, N5, N6, N7, N8}
use Rattle.ps_base.specs.declared.failing.Rule.TheVariants.{N9, N10, N11, N12, S1, S2, S3, S4, C1, C2, O1, O2, O3, O4}
use Rattle.ps_base.specs.declared.failing.Rule.TheVariants.{O5, T1, T2, T3, T4, T5, T6, T7, T8, T9, F1, F2, F3, F4, F5}
use Rattle.ps_base.specs.declared.failing.Rule.TheVariants.{M1, B1, B2, B3, B4, B5}
use Rattle.ps_base.specs.declared.failing.Refusal.{Refusal}
use Rattle.ps_model.specs.Network.{Network, input_count, instance_count}
use Rattle.ps_model.specs.Nodes.{app_nodes}

-- a rule's name
abbrev pub rule_text : Rule → List ℕ
rule_text L1 = codes "L1"
rule_text L2 = codes "L2"
rule_text L3 = codes "L3"
rule_text L4 = codes "L4"
rule_text L5 = codes "L5"
rule_text P1 = codes "P1"
rule_text P2 = codes "P2"
rule_text N1 = codes "N1"
rule_text N2 = codes "N2"
rule_text N3 = codes "N3"
rule_text N4 = codes "N4"
rule_text N5 = codes "N5"
rule_text N6 = codes "N6"
rule_text N7 = codes "N7"
rule_text N8 = codes "N8"
rule_text N9 = codes "N9"
rule_text N10 = codes "N10"
rule_text N11 = codes "N11"
rule_text N12 = codes "N12"
rule_text S1 = codes "S1"
rule_text S2 = codes "S2"
rule_text S3 = codes "S3"
rule_text S4 = codes "S4"
rule_text C1 = codes "C1"
rule_text C2 = codes "C2"
rule_text O1 = codes "O1"
rule_text O2 = codes "O2"
rule_text O3 = codes "O3"
rule_text O4 = codes "O4"
rule_text O5 = codes "O5"
rule_text T1 = codes "T1"
rule_text T2 = codes "T2"
rule_text T3 = codes "T3"
rule_text T4 = codes "T4"
rule_text T5 = codes "T5"
rule_text T6 = codes "T6"
rule_text T7 = codes "T7"
rule_text T8 = codes "T8"
rule_text T9 = codes "T9"
rule_text F1 = codes "F1"
rule_text F2 = codes "F2"
rule_text F3 = codes "F3"
rule_text F4 = codes "F4"
rule_text F5 = codes "F5"
rule_text M1 = codes "M1"
rule_text B1 = codes "B1"
rule_text B2 = codes "B2"
rule_text B3 = codes "B3"
rule_text B4 = codes "B4"
rule_text B5 = codes "B5"

-- the rules of certificates, objections, traces and fault files name a line alone
abbrev pub names_column : Rule → Bool
names_column C1 = false
names_column C2 = false
names_column O1 = false
names_column O2 = false
names_column O3 = false
names_column O4 = false
names_column O5 = false
names_column T1 = false
names_column T2 = false
names_column T3 = false
names_column T4 = false
names_column T5 = false
names_column T6 = false
names_column T7 = false
names_column T8 = false
names_column T9 = false
names_column F1 = false
names_column F2 = false
names_column F3 = false
names_column F4 = false
names_column F5 = false
names_column _ = true

-- the column of a refusal, where its rule names one
abbrev pub column_text : Refusal → List ℕ
column_text r = if names_column r.rule then codes " column " ++ decimal r.place.column else []

-- as `refused L3 line 1 column 1`, or as `refused T4 line 4`
abbrev pub refusal_text : Refusal → List ℕ
refusal_text r = codes "refused " ++ rule_text r.rule ++ codes " line " ++ decimal r.place.line ++ column_text r ++ codes "\n"

-- as `load 1 scans 1000 true 500 errors 0`
abbrev pub load_text : (n scans trues errors : ℕ) → List ℕ
load_text n scans trues errors =
    codes "load " ++ decimal n ++ codes " scans " ++ decimal scans ++ codes " true " ++ decimal trues ++ codes " errors " ++ decimal errors
    ++ codes "\n"

-- the counts of an accepted application, as `accepted inputs 3 outputs 1 locals 0 instances 1 steps 2 nodes 5`
abbrev pub check_text : Network → List ℕ
check_text net =
    codes "accepted inputs " ++ decimal (input_count net) ++ codes " outputs " ++ decimal (length net.outputs)
    ++ codes " locals " ++ decimal (length net.locals) ++ codes " instances " ++ decimal (instance_count net)
    ++ codes " steps " ++ decimal (length net.steps) ++ codes " nodes " ++ decimal (length (app_nodes net)) ++ codes "\n"
