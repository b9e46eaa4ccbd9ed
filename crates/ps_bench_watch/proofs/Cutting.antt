-- Fields with commas between them are cut into the fields.
use Rattle.std.proofs.Common.{◌≡◌, ◌∙◌, ◌++◌, ◌==◌, ℕ, Bool, true, false, List, [], ◌∷◌, Some, None, flat_map, if◌then◌else◌, refl, ap, arith}
use Rattle.std.specs.List.{list_all}
use Rattle.std.proofs.lemmas.Bool.Decides.{nat_tests}
use Rattle.ps_bench_cases.proofs.ReadBack.{both_hold}
use Rattle.ps_bench_logs.specs.Fields.{behind_comma, fields_from, fields_of, onto}
use Rattle.ps_bench_logs.specs.Fields.Place.{begins, plain, quoted}
use Rattle.ps_bench_watch.proofs.Bytes.{is_bare, is_bare_byte}

-- fields, each after a comma
abbrev pub tail_text : List (List ℕ) → List ℕ
tail_text fields = flat_map (λ (field : List ℕ). 44 ∷ field) fields

no_comma : (b : ℕ) → is_bare_byte b ≡ true → (b == 44) ≡ false
no_comma b bare = grind (arith, nat_tests)

no_mark : (b : ℕ) → is_bare_byte b ≡ true → (b == 34) ≡ false
no_mark b bare = grind (arith, nat_tests)

plain_step : (b : ℕ) (rest : List ℕ) → is_bare_byte b ≡ true → fields_from plain (b ∷ rest) ≡ onto b (fields_from plain rest)
plain_step b rest bare =
    ap (λ (t : Bool). if t then behind_comma (fields_from begins rest) else if b == 34 then None else onto b (fields_from plain rest)) (no_comma b bare)
    ∙ ap (λ (t : Bool). if t then None else onto b (fields_from plain rest)) (no_mark b bare)

begin_step : (b : ℕ) (rest : List ℕ) → is_bare_byte b ≡ true → fields_from begins (b ∷ rest) ≡ onto b (fields_from plain rest)
begin_step b rest bare =
    ap (λ (t : Bool). if t then behind_comma (fields_from begins rest) else if b == 34 then fields_from quoted rest else onto b (fields_from plain rest)) (no_comma b bare)
    ∙ ap (λ (t : Bool). if t then fields_from quoted rest else onto b (fields_from plain rest)) (no_mark b bare)

plain_walk : (field rest : List ℕ) (fields : List (List ℕ)) → is_bare field ≡ true → fields_from plain rest ≡ Some ([] ∷ fields) →
    fields_from plain (field ++ rest) ≡ Some (field ∷ fields)
plain_walk [] rest fields bare is = is
plain_walk (b ∷ field) rest fields bare is =
    let both = both_hold (is_bare_byte b) (is_bare field) bare in
    plain_step b (field ++ rest) both.0 ∙ ap (onto b) (plain_walk field rest fields both.1 is)

begin_walk : (field rest : List ℕ) (fields : List (List ℕ)) → is_bare field ≡ true → fields_from begins rest ≡ Some ([] ∷ fields) →
    fields_from plain rest ≡ Some ([] ∷ fields) → fields_from begins (field ++ rest) ≡ Some (field ∷ fields)
begin_walk [] rest fields bare begin is = begin
begin_walk (b ∷ field) rest fields bare begin is =
    let both = both_hold (is_bare_byte b) (is_bare field) bare in
    begin_step b (field ++ rest) both.0 ∙ ap (onto b) (plain_walk field rest fields both.1 is)

tail_cut : (fields : List (List ℕ)) → list_all is_bare fields ≡ true →
    (fields_from begins (tail_text fields) ≡ Some ([] ∷ fields)) × (fields_from plain (tail_text fields) ≡ Some ([] ∷ fields))
tail_cut [] bare = (refl, refl)
tail_cut (field ∷ fields) bare =
    let both = both_hold (is_bare field) (list_all is_bare fields) bare in
    let later = tail_cut fields both.1 in
    let behind = begin_walk field (tail_text fields) fields both.0 later.0 later.1 in
    (ap behind_comma behind, ap behind_comma behind)

-- the fields of a line
pub fields_back : (field : List ℕ) (fields : List (List ℕ)) → is_bare field ≡ true → list_all is_bare fields ≡ true →
    fields_of (field ++ tail_text fields) ≡ Some (field ∷ fields)
fields_back field fields first others =
    let later = tail_cut fields others in begin_walk field (tail_text fields) fields first later.0 later.1
