-- The fields of a report, where two reports first differ, and the report of nothing.
use Rattle.std.specs.Prelude.{ℕ, false, List, [], ◌∷◌, ◌++◌, ◌==◌, nat_eq, length, map, replicate, Option, Some, None}
use Rattle.std.specs.Prelude.{if◌then◌else◌}
use Rattle.std.specs.List.{common_prefix_len, flat_map}
use Rattle.ps_model.specs.declared.report.Diag.{Diag}
use Rattle.ps_model.specs.declared.report.Report.{Report}
use Rattle.ps_model.specs.Stored.{bit}
use Rattle.ps_model.specs.Blank.{no_diag}

-- the three fields of an instance: Ready, Error and DiagCode, where a Boolean is 0 or 1
abbrev pub diag_fields : Diag → List ℕ
diag_fields d = bit d.ready ∷ bit d.error ∷ d.code ∷ []

-- field f of a report is element f of this list: the outputs in order, then the fields of each instance in order
abbrev pub fields : Report → List ℕ
fields r = map bit r.outs ++ flat_map diag_fields r.diags

-- the first place at which two lists of the same length differ: the length of the front that they share, if that is not
-- all
abbrev pub first_unequal : List ℕ → List ℕ → Option ℕ
first_unequal xs ys =
    let shared = common_prefix_len nat_eq xs ys in
    if shared == length xs then None else Some shared

-- the number of the first field in which two reports of the same sizes differ, if any does
abbrev pub first_difference : Report → Report → Option ℕ
first_difference a b = first_unequal (fields a) (fields b)

-- the report of these sizes with every output, Ready and Error FALSE and every code 0
abbrev pub blank_report : (outputs instances : ℕ) → Report
blank_report outputs instances = record { outs = replicate outputs false; diags = replicate instances no_diag }
