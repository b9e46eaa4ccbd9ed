-- As many inputs stand in columns as an application has.
use Rattle.std.proofs.Common.{◌≡◌, ◌∙◌, ℕ, List, [], ◌∷◌, Option, Some, None, Ok, length, unwrap_or, sym, ap}
use Rattle.std.proofs.lemmas.List.FromFn.{length-map-range_with_len}
use Rattle.csv.specs.Reading.{strip_bom}
use Rattle.ps_lines.specs.Lines.{Line}
use Rattle.ps_lines.specs.Lines.Line.{Kept, KeptLast, Long, Large}
use Rattle.ps_model.specs.Network.{Network, input_count}
use Rattle.ps_bench_logs.specs.Fields.{fields_of}
use Rattle.ps_bench_logs.specs.Header.{Columns, columns_in, first_of, flaws_of, names_said, places_of, unless_flawed}
use Rattle.ps_bench_logs.specs.Log.{columns_of}
use Rattle.ps_bench_logs.specs.declared.flaw.Column.TheVariants.{Input}
use Rattle.ps_bench_logs.specs.declared.flaw.Flaw.{Flaw}

unflawed : (flaws : List Flaw) (columns found : Columns) → unless_flawed flaws columns ≡ Ok found → columns ≡ found
unflawed [] columns found is = cc
unflawed (flaw ∷ flaws) columns found is = let no : ⊥ = cc in absurd no

pub names_sized : (net : Network) (fields : Option (List (List ℕ))) (columns : Columns) → names_said net fields ≡ Ok columns → length columns.inputs ≡ input_count net
names_sized net None columns is = let no : ⊥ = cc in absurd no
names_sized net (Some header) columns is =
    ap (λ (c : Columns). length c.inputs) (sym (unflawed (flaws_of net header) (columns_in net header) columns is))
    ∙ length-map-range_with_len (λ i. unwrap_or (first_of (places_of net header (Input i))) 0) 0 (input_count net)

pub columns_sized : (net : Network) (lines : List Line) (columns : Columns) → columns_of net lines ≡ Ok columns → length columns.inputs ≡ input_count net
columns_sized net [] columns is = let no : ⊥ = cc in absurd no
columns_sized net (Kept line ∷ lines) columns is = names_sized net (fields_of (strip_bom line)) columns is
columns_sized net (KeptLast line ∷ lines) columns is = names_sized net (fields_of (strip_bom line)) columns is
columns_sized net (Long ∷ lines) columns is = let no : ⊥ = cc in absurd no
columns_sized net (Large ∷ lines) columns is = let no : ⊥ = cc in absurd no
