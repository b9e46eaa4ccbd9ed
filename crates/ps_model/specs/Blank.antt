-- What an idle block says of itself.
use Rattle.std.specs.Prelude.{false}
use Rattle.ps_model.specs.declared.report.Diag.{Diag}

-- not ready, no error, DiagCode 0000
abbrev pub no_diag : Diag
no_diag = record { ready = false; error = false; code = 0 }
