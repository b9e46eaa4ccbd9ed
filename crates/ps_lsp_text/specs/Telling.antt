-- Findings that are being told.
use Rattle.std.specs.Prelude.{◌≡◌, ◌++◌, ℕ, List, Bool, IsTrue}
use Rattle.ps_base.specs.declared.failing.Refusal.{Refusal}
use Rattle.ps_lexer.specs.declared.token.Token.{Token}
use Rattle.ps_lsp_text.specs.Findings.{TellEach}
use Rattle.ps_lsp_text.specs.declared.finding.Finding.{Finding}

-- Unless it is not whole, a list was whole before, and has more findings than it had, which tell of these refusals.
abbrev pub AddsTold : (text : List ℕ) → (shown : List Token) → List Refusal → (was is : Bool) → (before after : List Finding) → Type 0
AddsTold text shown refusals was is before after =
    IsTrue is → IsTrue was × (found : List Finding) × (after ≡ before ++ found) × TellEach text shown refusals found
