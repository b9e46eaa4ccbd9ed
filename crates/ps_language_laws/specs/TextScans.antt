-- What a scan of a text means, by names.
use Rattle.std.specs.Prelude.{◌≡◌, ℕ, Bool, false, List, [], ◌∷◌, Some, map, filter, slice_get, slice_index_or}
use Rattle.std.specs.List.{flat_map}
use Rattle.ps_base.specs.LetterCase.{folded}
use Rattle.ps_model.specs.declared.named.Instance as model_instance
use Rattle.ps_parser.specs.declared.name.Name.{Name}
use Rattle.ps_parser.specs.Tree.{SourceTree}
use Rattle.ps_names.specs.declared.entry.Entry.{Entry}
use Rattle.ps_names.specs.declared.entry.Sort.{Sort}
use Rattle.ps_names.specs.declared.entry.Sort.TheVariants.{Instance}
use Rattle.ps_names.specs.Names.{entries, is_input}
use Rattle.ps_language_laws.specs.Paths.{at, is_among}
use Rattle.ps_language_laws.specs.Reading.{Values, Scan, Before, and_then}
use Rattle.ps_language_laws.specs.Equations.{Body, Callee, standard, statements_leave, StatementsHold}

-- ---- a source without function blocks

-- the instance that a name of this sort is
abbrev pub instance_at : List ℕ → Sort → List model_instance.Instance
instance_at p (Instance kind) = record { name = p; kind = kind } ∷ []
instance_at p _ = []

-- the instances that these names are in the copy at a path
abbrev pub instances_in : List ℕ → List Entry → List model_instance.Instance
instances_in path es = flat_map (λ e. instance_at (at path e.name) e.sort) es

-- a name is called or followed by a dot as an instance of one of the thirteen kinds alone
abbrev pub plain : Name → Callee
plain n = standard

-- a source without function blocks, as a body
abbrev pub plain_body : SourceTree → Body
plain_body p = record {
  name = p.name;
  inputs = [];
  instances = λ path. instances_in path (entries p);
  leaves = λ path. statements_leave plain path p.statements;
  Holds = λ scan path before. StatementsHold plain path scan before p.statements;
}

-- ---- a program

-- the inputs among declared names, in order
abbrev pub inputs_among : List Entry → List Entry
inputs_among es = filter (λ e. is_input e.sort) es

-- before the first statement the inputs of the program are driven
abbrev pub begun : List Entry → Before
begun es = record { driven = map (λ e. folded e.name.text) (inputs_among es); called = [] }

-- a scan of a program
abbrev pub scan_of : Body → Values → ℕ → Values → Scan
scan_of body old dt new = record { old = old; new = new; dt = dt; instances = body.instances [] }

-- The map new is what a scan of a program leaves, which declares these names and has this body: dt ms after the scan
-- that left old, with these values for its inputs.
pub record Scanned (es : List Entry) (body : Body) (old : Values) (ins : List Bool) (dt : ℕ) (new : Values) : Type 0 where
  -- an input of the program has the scan's value
  pub inputs : (k : ℕ) (e : Entry) → slice_get (inputs_among es) k ≡ Some e → new.signal (folded e.name.text) ≡ slice_index_or ins k false
  -- each statement holds, with the inputs before the first
  pub statements : body.Holds (scan_of body old dt new) [] (begun es)
  -- a signal that nothing drives is FALSE
  pub undriven : (p : List ℕ) → is_among p (and_then (begun es) (body.leaves [])).driven ≡ false → new.signal p ≡ false
