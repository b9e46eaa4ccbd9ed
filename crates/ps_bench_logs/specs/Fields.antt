-- The fields of a line (RFC 4180).
use Rattle.std.specs.Prelude.{ℕ, List, [], ◌∷◌, ◌==◌, if◌then◌else◌, Option, Some, None, option_map}

-- where a byte of a line stands: where a field begins, in a field without quotation marks, between quotation marks, or
-- directly after one that may have closed a field
pub data Place : Type 0 where
  begins : Place
  plain : Place
  quoted : Place
  closed : Place

-- a byte in front of the first of these fields, where there is one
abbrev pub onto_first : ℕ → List (List ℕ) → List (List ℕ)
onto_first b [] = []
onto_first b (field ∷ fields) = (b ∷ field) ∷ fields

-- the same, where a line has fields
abbrev pub onto : ℕ → Option (List (List ℕ)) → Option (List (List ℕ))
onto b fields = option_map (onto_first b) fields

-- an empty field in front of these
abbrev pub behind_comma : Option (List (List ℕ)) → Option (List (List ℕ))
behind_comma fields = option_map (λ fs. [] ∷ fs) fields

-- The fields that begin with the rest of one, whose first byte stands at a place, or None: commas stand between fields;
-- a field between quotation marks (34) may have commas, and two marks for one; another field has none; and each field
-- ends in its line.
abbrev pub fields_from : Place → List ℕ → Option (List (List ℕ))
fields_from begins [] = Some ([] ∷ [])
fields_from plain [] = Some ([] ∷ [])
fields_from quoted [] = None
fields_from closed [] = Some ([] ∷ [])
fields_from begins (b ∷ bytes) =
    if b == 44 then behind_comma (fields_from begins bytes)
    else if b == 34 then fields_from quoted bytes
    else onto b (fields_from plain bytes)
fields_from plain (b ∷ bytes) =
    if b == 44 then behind_comma (fields_from begins bytes)
    else if b == 34 then None
    else onto b (fields_from plain bytes)
fields_from quoted (b ∷ bytes) = if b == 34 then fields_from closed bytes else onto b (fields_from quoted bytes)
fields_from closed (b ∷ bytes) =
    if b == 44 then behind_comma (fields_from begins bytes)
    else if b == 34 then onto b (fields_from quoted bytes)
    else None

-- the fields of a line, or None where it has not the form
abbrev pub fields_of : List ℕ → Option (List (List ℕ))
fields_of line = fields_from begins line
