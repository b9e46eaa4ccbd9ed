-- What the states of the block kinds are called: for each kind the DiagCodes of its states, in the order of its
-- transition table, each with its words. docs/blocks.md shows them.
use Rattle.std.specs.Prelude.{ℕ, List, [], ◌∷◌, ◌++◌, codes}

-- a DiagCode and the words of its state
abbrev pub Called : Type 0
Called = ℕ × List ℕ

-- SF_Equivalent, and SF_Antivalent, whose channel B is on where S_ChannelNO is FALSE
abbrev pub equivalent : List Called
equivalent =
    (0x0000, codes "idle")
    ∷ (0x8001, codes "both channels off")
    ∷ (0x8004, codes "waiting for channel B")
    ∷ (0x8014, codes "waiting for channel A")
    ∷ (0x8000, codes "both channels on")
    ∷ (0x8005, codes "one channel went off")
    ∷ (0xC001, codes "channel B did not come on in time")
    ∷ (0xC002, codes "channel A did not come on in time")
    ∷ (0xC003, codes "one channel stayed on for too long")
    ∷ []

-- SF_EmergencyStop and SF_ESPE
abbrev pub stop : List Called
stop =
    (0x0000, codes "idle")
    ∷ (0x8001, codes "first state")
    ∷ (0x8002, codes "waiting for the sensor after the start")
    ∷ (0x8003, codes "waiting for Reset after the start")
    ∷ (0x8000, codes "enabled")
    ∷ (0x8004, codes "stopped and waiting for the sensor")
    ∷ (0x8005, codes "stopped and waiting for Reset")
    ∷ (0xC001, codes "Reset came before the sensor at the start")
    ∷ (0xC002, codes "Reset came before the sensor after a stop")
    ∷ []

-- SF_ModeSelector
abbrev pub modes : List Called
modes =
    (0x0000, codes "idle")
    ∷ (0x8005, codes "waiting for one mode")
    ∷ (0x8000, codes "a mode is selected")
    ∷ (0x8004, codes "the mode is locked")
    ∷ (0xC001, codes "two or more modes at once")
    ∷ (0xC002, codes "no mode for too long")
    ∷ (0xC003, codes "static Reset in C001")
    ∷ (0xC004, codes "static Reset in C002")
    ∷ []

-- SF_TwoHandControlTypeII
abbrev pub two_hand_two : List Called
two_hand_two =
    (0x0000, codes "idle")
    ∷ (0x8001, codes "first state")
    ∷ (0xC001, codes "button 1 was pressed at the start")
    ∷ (0xC002, codes "button 2 was pressed at the start")
    ∷ (0xC003, codes "both buttons were pressed at the start")
    ∷ (0x8004, codes "both buttons released")
    ∷ (0x8005, codes "button 1 pressed first")
    ∷ (0x8006, codes "button 2 pressed first")
    ∷ (0x8000, codes "both buttons pressed")
    ∷ (0x8007, codes "button 2 released")
    ∷ (0x8008, codes "button 1 released")
    ∷ (0x8009, codes "pressed again and locked until both are released")
    ∷ (0x8019, codes "let go too soon and locked until both are released")
    ∷ []

-- what SF_TwoHandControlTypeIII has besides, since it has a limit
abbrev pub late : List Called
late =
    (0xC004, codes "button 1 alone for too long")
    ∷ (0xC005, codes "button 2 alone for too long")
    ∷ (0xC006, codes "both buttons pressed too late")
    ∷ []

-- SF_TwoHandControlTypeIII
abbrev pub two_hand_three : List Called
two_hand_three = two_hand_two ++ late

-- SF_GuardMonitoring
abbrev pub guard_monitoring : List Called
guard_monitoring =
    (0x0000, codes "idle")
    ∷ (0x8001, codes "first state")
    ∷ (0x8002, codes "the guard has to be opened")
    ∷ (0x8012, codes "the guard is open")
    ∷ (0x8004, codes "waiting for switch 2")
    ∷ (0x8014, codes "waiting for switch 1")
    ∷ (0x8005, codes "the guard has closed")
    ∷ (0x8003, codes "waiting for Reset")
    ∷ (0x8000, codes "enabled")
    ∷ (0xC001, codes "static Reset in 8003")
    ∷ (0xC011, codes "switch 2 did not close in time")
    ∷ (0xC012, codes "switch 1 did not close in time")
    ∷ []

-- SF_GuardLocking
abbrev pub guard_locking : List Called
guard_locking =
    (0x0000, codes "idle")
    ∷ (0x8001, codes "first state")
    ∷ (0x8000, codes "closed and locked")
    ∷ (0x8003, codes "locked and waiting for Reset")
    ∷ (0x8013, codes "unlocked and closed")
    ∷ (0x8012, codes "unlocked and open")
    ∷ (0x8011, codes "to be locked again")
    ∷ (0x8014, codes "safety lost")
    ∷ (0xC001, codes "static Reset in 8014")
    ∷ (0xC002, codes "static Reset in 8003")
    ∷ (0xC003, codes "static Reset in 8011")
    ∷ (0xC004, codes "opened while locked")
    ∷ []

-- SF_EnableSwitch
abbrev pub enable_switch : List Called
enable_switch =
    (0x0000, codes "idle")
    ∷ (0x8004, codes "the safe mode is not active")
    ∷ (0x8005, codes "the safe mode is active")
    ∷ (0x8006, codes "released")
    ∷ (0x8000, codes "enabled")
    ∷ (0x8007, codes "pressed through")
    ∷ (0xC010, codes "not released when the safe mode came")
    ∷ (0xC020, codes "released after C010")
    ∷ (0xC030, codes "from position 3 back to 2")
    ∷ (0xC040, codes "out of position 2 after C030")
    ∷ (0xC001, codes "static Reset in C020")
    ∷ (0xC002, codes "static Reset in C040")
    ∷ []

-- SF_SafetyRequest
abbrev pub safety_request : List Called
safety_request =
    (0x0000, codes "idle")
    ∷ (0x8001, codes "first state")
    ∷ (0x8012, codes "ordinary operation before a reset")
    ∷ (0x8002, codes "ordinary operation")
    ∷ (0x8003, codes "asked and waiting for S_Acknowledge")
    ∷ (0x8000, codes "the actuator is safe")
    ∷ (0xC002, codes "S_Acknowledge was lost")
    ∷ (0xC003, codes "S_Acknowledge did not come in time")
    ∷ (0xC004, codes "static Reset in C002")
    ∷ (0xC005, codes "static Reset in C003")
    ∷ (0x8005, codes "after an error and waiting for S_OpMode")
    ∷ []

-- SF_OutControl
abbrev pub out_control : List Called
out_control =
    (0x0000, codes "idle")
    ∷ (0x8001, codes "first state")
    ∷ (0x8002, codes "waiting for S_SafeControl")
    ∷ (0x8003, codes "waiting for Reset")
    ∷ (0x8010, codes "waiting for ProcessControl")
    ∷ (0x8000, codes "enabled")
    ∷ (0xC010, codes "ProcessControl was TRUE without a rise")
    ∷ (0xC001, codes "static Reset in 8001")
    ∷ (0xC002, codes "static Reset in 8003")
    ∷ []

-- SF_EDM
abbrev pub edm : List Called
edm =
    (0x0000, codes "idle")
    ∷ (0x8001, codes "first state")
    ∷ (0x8010, codes "off")
    ∷ (0x8000, codes "on")
    ∷ (0xC001, codes "static Reset in 8001")
    ∷ (0xC010, codes "off but S_EDM1 did not come back in time")
    ∷ (0xC020, codes "off but S_EDM2 did not come back in time")
    ∷ (0xC030, codes "off but neither S_EDM1 nor S_EDM2 came back in time")
    ∷ (0xC040, codes "asked to switch on while S_EDM1 was missing")
    ∷ (0xC050, codes "asked to switch on while S_EDM2 was missing")
    ∷ (0xC060, codes "asked to switch on while S_EDM1 and S_EDM2 were missing")
    ∷ (0xC070, codes "on but S_EDM1 did not go in time")
    ∷ (0xC080, codes "on but S_EDM2 did not go in time")
    ∷ (0xC090, codes "on but neither S_EDM1 nor S_EDM2 went in time")
    ∷ (0xC011, codes "static Reset in C010")
    ∷ (0xC021, codes "static Reset in C020")
    ∷ (0xC031, codes "static Reset in C030")
    ∷ (0xC041, codes "static Reset in C040")
    ∷ (0xC051, codes "static Reset in C050")
    ∷ (0xC061, codes "static Reset in C060")
    ∷ (0xC071, codes "static Reset in C070")
    ∷ (0xC081, codes "static Reset in C080")
    ∷ (0xC091, codes "static Reset in C090")
    ∷ []
