-- The states that both types of two-hand control have.
use Rattle.std.specs.Prelude.{ℕ, Bool, true, false}
use Rattle.ps_operator.specs.declared.two_hand.CommonPhase.{CommonPhase}
use Rattle.ps_operator.specs.declared.two_hand.CommonPhase.TheVariants.{Idle, Init, Released, Button1Actuated}
use Rattle.ps_operator.specs.declared.two_hand.CommonPhase.TheVariants.{Button2Actuated, Enabled, Button2Released}
use Rattle.ps_operator.specs.declared.two_hand.CommonPhase.TheVariants.{Button1Released, LockedOff, LockedOn, ErrorB1}
use Rattle.ps_operator.specs.declared.two_hand.CommonPhase.TheVariants.{ErrorB2, ErrorBoth}

-- The DiagCode of each state.
abbrev pub code_of : CommonPhase → ℕ
code_of Idle = 0
code_of Init = 0x8001
code_of Released = 0x8004
code_of Button1Actuated = 0x8005
code_of Button2Actuated = 0x8006
code_of Enabled = 0x8000
code_of Button2Released = 0x8007
code_of Button1Released = 0x8008
code_of LockedOff = 0x8009
code_of LockedOn = 0x8019
code_of ErrorB1 = 0xC001
code_of ErrorB2 = 0xC002
code_of ErrorBoth = 0xC003

-- One button is pressed, and type III waits for the second one no longer than its limit.
abbrev pub waits_for_second : CommonPhase → Bool
waits_for_second Button1Actuated = true
waits_for_second Button2Actuated = true
waits_for_second _ = false
