-- The signals that the nodes of an application name are its own.
use Rattle.std.proofs.Common.{◌≡◌, ℕ, suc, zero, List, [], ◌∷◌, Some, ⊎_elim, subst}
use Rattle.std.specs.Prelude.{slice_get, All}
use Rattle.std.specs.List.{flat_map}
use Rattle.std.proofs.lemmas.List.Elements.{All-head}
use Rattle.ps_model.specs.Formula.{Formula, Formulas, signal, all_of, any_of, no_operand, operand}
use Rattle.ps_model.specs.Action.{Action, Actual, free, literal, time, wired, assigns, calls}
use Rattle.ps_model.specs.Network.{Network, signal_count}
use Rattle.ps_model.specs.Nodes.{nodes, nodes_below, nodes_at_pin, nodes_of_step, app_nodes}
use Rattle.ps_model.specs.NodeList.{shape_of}
use Rattle.ps_model.specs.Sound.{IsSound}
use Rattle.ps_model.specs.Values.{IsBelow, AreBelow, values_at_pin, values_of_step}
use Rattle.ps_flow.proofs.Walk.{all_before, all_after}
use Rattle.ps_checker.specs.Fitting.{IsKnown}
use Rattle.ps_model.proofs.NodePlaces.{in_either}

module _ (m : ℕ) where
  is_below : (f e : Formula) → f ≡ e → IsBelow m f → IsBelow m e
  is_below f e same b = subst (IsBelow m) same b

  mutual
    below_at : (f : Formula) → IsBelow m f → (k : ℕ) (e : Formula) → slice_get (nodes f) k ≡ Some e → IsBelow m e
    below_at (signal s) b zero e at = let same : signal s ≡ e = cc in is_below (signal s) e same b
    below_at (signal s) b (suc k) e at = cc
    below_at (all_of es) b zero e at = let same : all_of es ≡ e = cc in is_below (all_of es) e same b
    below_at (all_of es) b (suc k) e at = all_below es b k e at
    below_at (any_of es) b zero e at = let same : any_of es ≡ e = cc in is_below (any_of es) e same b
    below_at (any_of es) b (suc k) e at = all_below es b k e at

    all_below : (es : Formulas) → AreBelow m es → (k : ℕ) (e : Formula) → slice_get (nodes_below es) k ≡ Some e → IsBelow m e
    all_below no_operand b k e at = cc
    all_below (operand f es) b k e at =
        ⊎_elim (λ h. below_at f b.0 k e h) (λ h. all_below es b.1 h.0 e h.2) (in_either (nodes f) (nodes_below es) k e at)

  flat_below : {Y : Type 0} (values : Y → List Formula) (places : Y → List Formula) →
      ((y : Y) → All (IsBelow m) (values y) → (k : ℕ) (e : Formula) → slice_get (places y) k ≡ Some e → IsBelow m e) →
      (ys : List Y) → All (IsBelow m) (flat_map values ys) → (k : ℕ) (e : Formula) → slice_get (flat_map places ys) k ≡ Some e → IsBelow m e
  flat_below values places each [] all k e at = cc
  flat_below values places each (y ∷ ys) all k e at =
      ⊎_elim
      (λ h. each y (all_before (IsBelow m) (values y) (flat_map values ys) all) k e h)
      (λ h. flat_below values places each ys (all_after (IsBelow m) (values y) (flat_map values ys) all) h.0 e h.2)
      (in_either (places y) (flat_map places ys) k e at)

  pin_below : (a : Actual) → All (IsBelow m) (values_at_pin a) → (k : ℕ) (e : Formula) → slice_get (nodes_at_pin a) k ≡ Some e → IsBelow m e
  pin_below (wired f) all k e at = below_at f (All-head (IsBelow m) f [] all) k e at
  pin_below free all k e at = cc
  pin_below (literal b) all k e at = cc
  pin_below (time t) all k e at = cc

  step_below : (a : Action) → All (IsBelow m) (values_of_step a) → (k : ℕ) (e : Formula) → slice_get (nodes_of_step a) k ≡ Some e → IsBelow m e
  step_below (assigns t f) all k e at = below_at f (All-head (IsBelow m) f [] all) k e at
  step_below (calls i args) all k e at = flat_below values_at_pin nodes_at_pin pin_below args all k e at

  known_shape : (e : Formula) → IsBelow m e → IsKnown m (shape_of e)
  known_shape (signal s) b = b
  known_shape (all_of es) b = tt
  known_shape (any_of es) b = tt

pub known_node : (net : Network) → IsSound net → (n : ℕ) (e : Formula) → slice_get (app_nodes net) n ≡ Some e → IsKnown (signal_count net) (shape_of e)
known_node net sound n e at =
    known_shape (signal_count net) e (flat_below (signal_count net) values_of_step nodes_of_step (step_below (signal_count net)) net.steps sound.values_below n e at)
