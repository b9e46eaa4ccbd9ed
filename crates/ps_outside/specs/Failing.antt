-- Why a text gave nothing, by why one of the calls on it gave nothing.
use Rattle.ps_base.specs.declared.failing.Fail.{Fail}
use Rattle.ps_base.specs.declared.failing.Fail.TheVariants.{Memory as NoneForRules, Refused as RefusedByRules}
use Rattle.ps_outside.specs.declared.reading.ReadFail.{ReadFail}
use Rattle.ps_outside.specs.declared.reading.ReadFail.TheVariants.{Memory as NoneForBytes, Fault as NotRead}
use Rattle.ps_outside.specs.declared.text_fail.TextFail.{TextFail}
use Rattle.ps_outside.specs.declared.text_fail.TextFail.TheVariants.{Memory, Fault, Refused}

-- its file's bytes were not read
abbrev pub of_read : ReadFail → TextFail
of_read NoneForBytes = Memory
of_read NotRead = Fault

-- the rules give nothing for its bytes
abbrev pub of_rules : Fail → TextFail
of_rules NoneForRules = Memory
of_rules (RefusedByRules refusal) = Refused refusal
