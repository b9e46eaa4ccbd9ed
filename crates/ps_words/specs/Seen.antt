-- What the words of a call ask, as the code has it.
use Rattle.std.specs.Prelude.{ℕ, List, map}
use Rattle.std.specs.Borrow.{Bor}
use Rattle.ps_words.specs.Command as asked
use Rattle.ps_words.specs.Command.Command.{Run as RunOf, Fault as FaultOf, Check as CheckOf, Cert as CertOf}
use Rattle.ps_words.specs.Command.Command.{Verify as VerifyOf, Image as ImageOf, Load as LoadOf, Demand as DemandOf}
use Rattle.ps_words.specs.Command.Command.{Vote as VoteOf, Heal as HealOf, NotTaken as NotTakenOf}
use Rattle.ps_words.specs.declared.command.Command.{Command}
use Rattle.ps_words.specs.declared.command.Command.TheVariants.{Run, Fault, Check, Cert, Verify, Image, Load, Demand}
use Rattle.ps_words.specs.declared.command.Command.TheVariants.{Vote, Heal, NotTaken}

-- what a command of the code asks
abbrev pub command_seen : Command → asked.Command
command_seen (Run app trace) = RunOf app.now trace.now
command_seen (Fault app trace faults) = FaultOf app.now trace.now faults.now
command_seen (Check app) = CheckOf app.now
command_seen (Cert app) = CertOf app.now
command_seen (Verify app cert) = VerifyOf app.now cert.now
command_seen (Image app) = ImageOf app.now
command_seen (Load number) = LoadOf number
command_seen (Demand app) = DemandOf app.now
command_seen (Vote app trace faults) = VoteOf app.now trace.now faults.now
command_seen (Heal app trace faults) = HealOf app.now trace.now faults.now
command_seen NotTaken = NotTakenOf

-- the bytes of words that are borrowed
abbrev pub seen : List (Bor (List ℕ)) → List (List ℕ)
seen = map (λ word. word.now)
