-- What is asked of declared names whose application is made.
use Rattle.std.specs.Prelude.{◌≢◌}
use Rattle.std.specs.Str.{IsUtf8}
use Rattle.ps_model.specs.declared.kind.Ty.TheVariants.{Time}
use Rattle.ps_names.specs.declared.entry.Entry.{Entry}
use Rattle.ps_names.specs.Stands.{ty_of}

-- the name is text, and no signal has the type TIME
pub record IsFit (e : Entry) : Type 0 where
  pub text : IsUtf8 e.name.text
  pub boolean : ty_of e.sort ≢ Time
