-- The ways of each kind are those of its table: in each state, in the order of the table, after Idle.
use Rattle.std.proofs.Common.{◌≡◌, ◌∙◌, ℕ, true, cond, refl, ap, ◌&&◌, ◌||◌, not}
use Rattle.std.specs.Prelude.{◌==◌, nat_le}
use Rattle.ps_model.specs.Blocks.{block}
use Rattle.ps_model.specs.Stored.{states}
use Rattle.ps_model.specs.declared.kind.Kind.{Kind}
use Rattle.ps_model.specs.declared.kind.Kind.TheVariants.{Equivalent, Antivalent, EmergencyStop, Espe, ModeSelector}
use Rattle.ps_model.specs.declared.kind.Kind.TheVariants.{TwoHandTwo, TwoHandThree, GuardMonitoring, GuardLocking}
use Rattle.ps_model.specs.declared.kind.Kind.TheVariants.{EnableSwitch, SafetyRequest, OutControl, Edm}
use Rattle.ps_ways.specs.Tables.{AreThose, LeadAsTable, ways_of}
use Rattle.ps_ways.proofs.Agreeing.{EachOf, in_all, of_states}
use Rattle.ps_ways.proofs.Choices.{neither, not_both, not_both_off, not_off, not_second_alone, one_of, one_of_with, two_and, with_one_of}

equivalent_states : of_states (ways_of Equivalent) Equivalent ≡ true
unfolding block
equivalent_states = refl

equivalent_each : EachOf (AreThose Equivalent) (states Equivalent)
unfolding block
equivalent_each = (
  λ c. refl,
  (
    λ c. refl,
    (
      λ c. refl,
      (
        λ c. refl,
        (
          λ c. ap (λ z. cond (not (c.pin 1) && not (c.pin 2)) 1 z) (not_both (c.pin 1) (c.pin 2) 2 0),
          (
            λ c. refl,
            (
              λ c. refl,
              (
                λ c. refl,
                (
                  λ c. refl,
                  tt,
                ),
              ),
            ),
          ),
        ),
      ),
    ),
  ),
)

antivalent_states : of_states (ways_of Antivalent) Antivalent ≡ true
unfolding block
antivalent_states = refl

antivalent_each : EachOf (AreThose Antivalent) (states Antivalent)
unfolding block
antivalent_each = (
  λ c. refl,
  (
    λ c. refl,
    (
      λ c. refl,
      (
        λ c. ap (λ z. cond c.elapsed 1 z) (not_off (c.pin 2) 2 (cond (c.pin 1) 3 0)),
        (
          λ c. neither (c.pin 1) (c.pin 2) 1 (cond (not (c.pin 1)) 2 (cond (c.pin 2) 2 0)) ∙ ap (λ z. cond (not (c.pin 1) && not (not (c.pin 2))) 1 z) (not_both_off (c.pin 1) (c.pin 2) 2 0),
          (
            λ c. ap (λ z. cond c.elapsed 1 z) (neither (c.pin 1) (c.pin 2) 2 0),
            (
              λ c. neither (c.pin 1) (c.pin 2) 1 0,
              (
                λ c. neither (c.pin 1) (c.pin 2) 1 0,
                (
                  λ c. neither (c.pin 1) (c.pin 2) 1 0,
                  tt,
                ),
              ),
            ),
          ),
        ),
      ),
    ),
  ),
)

emergency_stop_states : of_states (ways_of EmergencyStop) EmergencyStop ≡ true
unfolding block
emergency_stop_states = refl

emergency_stop_each : EachOf (AreThose EmergencyStop) (states EmergencyStop)
unfolding block
emergency_stop_each = (
  λ c. refl,
  (
    λ c. refl,
    (
      λ c. refl,
      (
        λ c. refl,
        (
          λ c. refl,
          (
            λ c. refl,
            (
              λ c. refl,
              (
                λ c. refl,
                (
                  λ c. refl,
                  tt,
                ),
              ),
            ),
          ),
        ),
      ),
    ),
  ),
)

espe_states : of_states (ways_of Espe) Espe ≡ true
unfolding block
espe_states = refl

espe_each : EachOf (AreThose Espe) (states Espe)
unfolding block
espe_each = (
  λ c. refl,
  (
    λ c. refl,
    (
      λ c. refl,
      (
        λ c. refl,
        (
          λ c. refl,
          (
            λ c. refl,
            (
              λ c. refl,
              (
                λ c. refl,
                (
                  λ c. refl,
                  tt,
                ),
              ),
            ),
          ),
        ),
      ),
    ),
  ),
)

mode_selector_states : of_states (ways_of ModeSelector) ModeSelector ≡ true
unfolding block
mode_selector_states = refl

mode_selector_each : EachOf (AreThose ModeSelector) (states ModeSelector)
unfolding block
mode_selector_each = (
  λ c. refl,
  (
    λ c. ap (λ z. cond (nat_le 2 c.modes) 1 (cond (c.modes == 0 && c.elapsed) 2 z)) (with_one_of (c.modes == 1) (c.pin 11) c.rise 3 0),
    (
      λ c. refl,
      (
        λ c. refl,
        (
          λ c. refl,
          (
            λ c. refl,
            (
              λ c. refl,
              (
                λ c. refl,
                tt,
              ),
            ),
          ),
        ),
      ),
    ),
  ),
)

two_hand_two_states : of_states (ways_of TwoHandTwo) TwoHandTwo ≡ true
unfolding block
two_hand_two_states = refl

two_hand_two_each : EachOf (AreThose TwoHandTwo) (states TwoHandTwo)
unfolding block
two_hand_two_each = (
  λ c. refl,
  (
    λ c. refl,
    (
      λ c. refl,
      (
        λ c. refl,
        (
          λ c. refl,
          (
            λ c. refl,
            (
              λ c. refl,
              (
                λ c. refl,
                (
                  λ c. refl,
                  (
                    λ c. refl,
                    (
                      λ c. refl,
                      (
                        λ c. refl,
                        (
                          λ c. refl,
                          tt,
                        ),
                      ),
                    ),
                  ),
                ),
              ),
            ),
          ),
        ),
      ),
    ),
  ),
)

two_hand_three_states : of_states (ways_of TwoHandThree) TwoHandThree ≡ true
unfolding block
two_hand_three_states = refl

two_hand_three_each : EachOf (AreThose TwoHandThree) (states TwoHandThree)
unfolding block
two_hand_three_each = (
  λ c. refl,
  (
    λ c. refl,
    (
      λ c. refl,
      (
        λ c. refl,
        (
          λ c. refl,
          (
            λ c. refl,
            (
              λ c. refl,
              (
                λ c. refl,
                (
                  λ c. refl,
                  (
                    λ c. refl,
                    (
                      λ c. refl,
                      (
                        λ c. refl,
                        (
                          λ c. refl,
                          (
                            λ c. refl,
                            (
                              λ c. refl,
                              (
                                λ c. refl,
                                tt,
                              ),
                            ),
                          ),
                        ),
                      ),
                    ),
                  ),
                ),
              ),
            ),
          ),
        ),
      ),
    ),
  ),
)

guard_monitoring_states : of_states (ways_of GuardMonitoring) GuardMonitoring ≡ true
unfolding block
guard_monitoring_states = refl

guard_monitoring_each : EachOf (AreThose GuardMonitoring) (states GuardMonitoring)
unfolding block
guard_monitoring_each = (
  λ c. refl,
  (
    λ c. two_and (c.pin 1) (c.pin 2) (c.pin 3) 1 (cond (c.pin 1 && c.pin 2) 2 3),
    (
      λ c. refl,
      (
        λ c. refl,
        (
          λ c. refl,
          (
            λ c. refl,
            (
              λ c. not_both (c.pin 1) (c.pin 2) 1 (cond (c.pin 4) 2 3),
              (
                λ c. not_both (c.pin 1) (c.pin 2) 1 (cond c.edge 2 (cond c.static 3 0)),
                (
                  λ c. not_both (c.pin 1) (c.pin 2) 1 0,
                  (
                    λ c. refl,
                    (
                      λ c. refl,
                      (
                        λ c. refl,
                        tt,
                      ),
                    ),
                  ),
                ),
              ),
            ),
          ),
        ),
      ),
    ),
  ),
)

guard_locking_states : of_states (ways_of GuardLocking) GuardLocking ≡ true
unfolding block
guard_locking_states = refl

guard_locking_each : EachOf (AreThose GuardLocking) (states GuardLocking)
unfolding block
guard_locking_each = (
  λ c. refl,
  (
    λ c. refl,
    (
      λ c. one_of (not (c.pin 1)) (not (c.pin 3)) 1 (cond (c.pin 4 && c.pin 2) 2 0),
      (
        λ c. one_of (not (c.pin 1)) (not (c.pin 3)) 1 (cond (c.pin 4 && c.pin 2) 2 (cond c.edge 3 (cond c.static 4 0))),
        (
          λ c. refl,
          (
            λ c. refl,
            (
              λ c. ap (λ z. cond (not (c.pin 1)) 1 (cond (c.pin 4 && c.pin 2) 2 z)) (with_one_of (c.pin 3) (c.pin 6) c.edge 3 (cond c.static 4 0)),
              (
                λ c. refl,
                (
                  λ c. refl,
                  (
                    λ c. refl,
                    (
                      λ c. refl,
                      (
                        λ c. refl,
                        tt,
                      ),
                    ),
                  ),
                ),
              ),
            ),
          ),
        ),
      ),
    ),
  ),
)

enable_switch_states : of_states (ways_of EnableSwitch) EnableSwitch ≡ true
unfolding block
enable_switch_states = refl

enable_switch_each : EachOf (AreThose EnableSwitch) (states EnableSwitch)
unfolding block
enable_switch_each = (
  λ c. refl,
  (
    λ c. refl,
    (
      λ c. refl,
      (
        λ c. refl,
        (
          λ c. refl,
          (
            λ c. refl,
            (
              λ c. refl,
              (
                λ c. ap (λ z. cond (not (c.pin 1)) 1 z) (not_second_alone (c.pin 2) (c.pin 3) 2 (cond c.static 3 (cond (c.pin 4) 4 (cond c.edge 4 0))) ∙ ap (λ z. cond (not (not (c.pin 2) && c.pin 3)) 2 (cond c.static 3 z)) (one_of (c.pin 4) c.edge 4 0)),
                (
                  λ c. ap (λ z. cond (not (c.pin 1)) 1 z) (not_both (c.pin 2) (c.pin 3) 2 0),
                  (
                    λ c. ap (λ z. cond (not (c.pin 1)) 1 (cond (c.pin 2 && c.pin 3) 2 (cond c.static 3 z))) (one_of_with (c.pin 4) c.edge (not (c.pin 2) && c.pin 3) 4 (cond (c.pin 4) 5 (cond c.edge 5 0)) ∙ ap (λ z. cond ((c.pin 4 || c.edge) && (not (c.pin 2) && c.pin 3)) 4 z) (one_of (c.pin 4) c.edge 5 0)),
                    (
                      λ c. refl,
                      (
                        λ c. refl,
                        tt,
                      ),
                    ),
                  ),
                ),
              ),
            ),
          ),
        ),
      ),
    ),
  ),
)

safety_request_states : of_states (ways_of SafetyRequest) SafetyRequest ≡ true
unfolding block
safety_request_states = refl

safety_request_each : EachOf (AreThose SafetyRequest) (states SafetyRequest)
unfolding block
safety_request_each = (
  λ c. refl,
  (
    λ c. refl,
    (
      λ c. refl,
      (
        λ c. refl,
        (
          λ c. refl,
          (
            λ c. refl,
            (
              λ c. refl,
              (
                λ c. refl,
                (
                  λ c. refl,
                  (
                    λ c. refl,
                    (
                      λ c. refl,
                      tt,
                    ),
                  ),
                ),
              ),
            ),
          ),
        ),
      ),
    ),
  ),
)

out_control_states : of_states (ways_of OutControl) OutControl ≡ true
unfolding block
out_control_states = refl

out_control_each : EachOf (AreThose OutControl) (states OutControl)
unfolding block
out_control_each = (
  λ c. refl,
  (
    λ c. refl,
    (
      λ c. refl,
      (
        λ c. refl,
        (
          λ c. ap (λ z. cond (not (c.pin 1)) 1 z) (with_one_of (c.pin 2) (c.pin 3) c.rise 2 (cond (c.pin 2) 3 0)),
          (
            λ c. refl,
            (
              λ c. refl,
              (
                λ c. refl,
                (
                  λ c. refl,
                  tt,
                ),
              ),
            ),
          ),
        ),
      ),
    ),
  ),
)

edm_states : of_states (ways_of Edm) Edm ≡ true
unfolding block
edm_states = refl

edm_each : EachOf (AreThose Edm) (states Edm)
unfolding block
edm_each = (
  λ c. refl,
  (
    λ c. refl,
    (
      λ c. refl,
      (
        λ c. refl,
        (
          λ c. refl,
          (
            λ c. refl,
            (
              λ c. refl,
              (
                λ c. refl,
                (
                  λ c. refl,
                  (
                    λ c. refl,
                    (
                      λ c. refl,
                      (
                        λ c. refl,
                        (
                          λ c. refl,
                          (
                            λ c. refl,
                            (
                              λ c. refl,
                              (
                                λ c. refl,
                                (
                                  λ c. refl,
                                  (
                                    λ c. refl,
                                    (
                                      λ c. refl,
                                      (
                                        λ c. refl,
                                        (
                                          λ c. refl,
                                          (
                                            λ c. refl,
                                            (
                                              λ c. refl,
                                              tt,
                                            ),
                                          ),
                                        ),
                                      ),
                                    ),
                                  ),
                                ),
                              ),
                            ),
                          ),
                        ),
                      ),
                    ),
                  ),
                ),
              ),
            ),
          ),
        ),
      ),
    ),
  ),
)

pub each_kind : (kind : Kind) (q : ℕ) → AreThose kind q
each_kind Equivalent = in_all Equivalent equivalent_states equivalent_each
each_kind Antivalent = in_all Antivalent antivalent_states antivalent_each
each_kind EmergencyStop = in_all EmergencyStop emergency_stop_states emergency_stop_each
each_kind Espe = in_all Espe espe_states espe_each
each_kind ModeSelector = in_all ModeSelector mode_selector_states mode_selector_each
each_kind TwoHandTwo = in_all TwoHandTwo two_hand_two_states two_hand_two_each
each_kind TwoHandThree = in_all TwoHandThree two_hand_three_states two_hand_three_each
each_kind GuardMonitoring = in_all GuardMonitoring guard_monitoring_states guard_monitoring_each
each_kind GuardLocking = in_all GuardLocking guard_locking_states guard_locking_each
each_kind EnableSwitch = in_all EnableSwitch enable_switch_states enable_switch_each
each_kind SafetyRequest = in_all SafetyRequest safety_request_states safety_request_each
each_kind OutControl = in_all OutControl out_control_states out_control_each
each_kind Edm = in_all Edm edm_states edm_each

pub each_leads : (kind : Kind) → LeadAsTable kind
unfolding block
each_leads Equivalent = refl
each_leads Antivalent = refl
each_leads EmergencyStop = refl
each_leads Espe = refl
each_leads ModeSelector = refl
each_leads TwoHandTwo = refl
each_leads TwoHandThree = refl
each_leads GuardMonitoring = refl
each_leads GuardLocking = refl
each_leads EnableSwitch = refl
each_leads SafetyRequest = refl
each_leads OutControl = refl
each_leads Edm = refl
