-- Where the rows of a node's value stand among those of an application.
use Rattle.std.proofs.Common.{◌≡◌, ℕ, suc, zero, ◌+◌, ◌≤◌, List, [], ◌∷◌, ◌++◌, length, Some, sym, ap, ◌∙◌, refl, subst, ⊎_elim, arith, get_or}
use Rattle.std.specs.Prelude.{slice_get}
use Rattle.std.specs.List.{flat_map}
use Rattle.std.proofs.Common.{length-append}
use Rattle.std.proofs.lemmas.Option.{get_or_from_slice_get}
use Rattle.ps_model.specs.declared.node.Node.{Node}
use Rattle.ps_model.specs.Formula.{Formula, Formulas, signal, all_of, any_of, no_operand, operand}
use Rattle.ps_model.specs.Action.{Action, Actual, free, literal, time, wired, assigns, calls}
use Rattle.ps_model.specs.Network.{Network}
use Rattle.ps_model.specs.Nodes.{nodes, nodes_below, nodes_at_pin, nodes_of_step, app_nodes}
use Rattle.ps_model.specs.NodeList.{node_of, listed_at, listed_below, listed_at_pin, listed_of_step, node_list}
use Rattle.ps_model.specs.Standing.{StandsAt}
use Rattle.ps_model.proofs.NodePlaces.{whole_stands, stands_left, stands_right, stands_found, rest_stands, in_either}
use Rattle.ps_model.proofs.NodeLists.{one_each, listed_of_value, listed_of_operands}

-- the rows of e stand in these rows from place n on, at some depth
abbrev pub RowsStand : List Node → ℕ → Formula → Type 0
RowsStand rows n e = (depth : ℕ) × StandsAt rows n (listed_at depth e)

pub some_nodes : (e : Formula) → 1 ≤ length (nodes e)
some_nodes (signal s) = omega arith
some_nodes (all_of es) = omega arith
some_nodes (any_of es) = omega arith

pub length-rows_at : (depth : ℕ) (e : Formula) → length (listed_at depth e) ≡ length (nodes e)
length-rows_at depth e = one_each (listed_at depth e) (nodes e) (listed_of_value depth e)

pub length-rows_below : (depth : ℕ) (es : Formulas) → length (listed_below depth es) ≡ length (nodes_below es)
length-rows_below depth es = one_each (listed_below depth es) (nodes_below es) (listed_of_operands depth es)

left_rows : (rows more : List Node) (n : ℕ) (e : Formula) → RowsStand rows n e → RowsStand (rows ++ more) n e
left_rows rows more n e s = (s.0, stands_left rows more n (listed_at s.0 e) s.1)

right_rows : (before rows : List Node) (n m : ℕ) (e : Formula) → m ≡ length before + n → RowsStand rows n e → RowsStand (before ++ rows) m e
right_rows before rows n m e at s = (s.0, stands_right before rows n m (listed_at s.0 e) at s.1)

-- the rows of each node's value stand where the node does
mutual
  whole_rows : (depth : ℕ) (f : Formula) (k : ℕ) (e : Formula) → slice_get (nodes f) k ≡ Some e → RowsStand (listed_at depth f) k e
  whole_rows depth (signal s) zero e at = let same : signal s ≡ e = cc in (depth, subst (λ z. StandsAt (listed_at depth (signal s)) 0 (listed_at depth z)) same (whole_stands (listed_at depth (signal s))))
  whole_rows depth (signal s) (suc k) e at = cc
  whole_rows depth (all_of es) zero e at = let same : all_of es ≡ e = cc in (depth, subst (λ z. StandsAt (listed_at depth (all_of es)) 0 (listed_at depth z)) same (whole_stands (listed_at depth (all_of es))))
  whole_rows depth (all_of es) (suc k) e at = right_rows (node_of depth (all_of es) ∷ []) (listed_below (depth + 1) es) k (suc k) e (omega arith) (below_rows (depth + 1) es k e at)
  whole_rows depth (any_of es) zero e at = let same : any_of es ≡ e = cc in (depth, subst (λ z. StandsAt (listed_at depth (any_of es)) 0 (listed_at depth z)) same (whole_stands (listed_at depth (any_of es))))
  whole_rows depth (any_of es) (suc k) e at = right_rows (node_of depth (any_of es) ∷ []) (listed_below (depth + 1) es) k (suc k) e (omega arith) (below_rows (depth + 1) es k e at)

  below_rows : (depth : ℕ) (es : Formulas) (k : ℕ) (e : Formula) → slice_get (nodes_below es) k ≡ Some e → RowsStand (listed_below depth es) k e
  below_rows depth no_operand k e at = cc
  below_rows depth (operand f es) k e at =
      ⊎_elim
      (λ h. left_rows (listed_at depth f) (listed_below depth es) k e (whole_rows depth f k e h))
      (λ h. right_rows (listed_at depth f) (listed_below depth es) h.0 k e (h.1 ∙ ap (λ n. n + h.0) (sym (length-rows_at depth f))) (below_rows depth es h.0 e h.2))
      (in_either (nodes f) (nodes_below es) k e at)

flat_long : {Y : Type 0} (rows : Y → List Node) (places : Y → List Formula) → ((y : Y) → length (rows y) ≡ length (places y)) →
    (ys : List Y) → length (flat_map rows ys) ≡ length (flat_map places ys)
flat_long rows places long [] = refl
flat_long rows places long (y ∷ ys) =
    omega (arith, length-append (rows y) (flat_map rows ys), length-append (places y) (flat_map places ys), long y, flat_long rows places long ys)

flat_rows : {Y : Type 0} (rows : Y → List Node) (places : Y → List Formula) → ((y : Y) → length (rows y) ≡ length (places y)) →
    ((y : Y) (k : ℕ) (e : Formula) → slice_get (places y) k ≡ Some e → RowsStand (rows y) k e) →
    (ys : List Y) (k : ℕ) (e : Formula) → slice_get (flat_map places ys) k ≡ Some e → RowsStand (flat_map rows ys) k e
flat_rows rows places long each [] k e at = cc
flat_rows rows places long each (y ∷ ys) k e at =
    ⊎_elim
    (λ h. left_rows (rows y) (flat_map rows ys) k e (each y k e h))
    (λ h. right_rows (rows y) (flat_map rows ys) h.0 k e (h.1 ∙ ap (λ n. n + h.0) (sym (long y))) (flat_rows rows places long each ys h.0 e h.2))
    (in_either (places y) (flat_map places ys) k e at)

pin_long : (a : Actual) → length (listed_at_pin a) ≡ length (nodes_at_pin a)
pin_long (wired f) = length-rows_at 0 f
pin_long free = refl
pin_long (literal b) = refl
pin_long (time t) = refl

at_pin : (a : Actual) (k : ℕ) (e : Formula) → slice_get (nodes_at_pin a) k ≡ Some e → RowsStand (listed_at_pin a) k e
at_pin (wired f) k e at = whole_rows 0 f k e at
at_pin free k e at = cc
at_pin (literal b) k e at = cc
at_pin (time t) k e at = cc

step_long : (a : Action) → length (listed_of_step a) ≡ length (nodes_of_step a)
step_long (assigns t f) = length-rows_at 0 f
step_long (calls i args) = flat_long listed_at_pin nodes_at_pin pin_long args

of_step : (a : Action) (k : ℕ) (e : Formula) → slice_get (nodes_of_step a) k ≡ Some e → RowsStand (listed_of_step a) k e
of_step (assigns t f) k e at = whole_rows 0 f k e at
of_step (calls i args) k e at = flat_rows listed_at_pin nodes_at_pin pin_long at_pin args k e at

pub app_rows_at : (net : Network) (n : ℕ) (e : Formula) → slice_get (app_nodes net) n ≡ Some e → RowsStand (node_list net) n e
app_rows_at net n e at = flat_rows listed_of_step nodes_of_step step_long of_step net.steps n e at

-- the first row of a value is that of its root
pub first_row : (rows : List Node) (n depth : ℕ) (e : Formula) (d : Node) → StandsAt rows n (listed_at depth e) → get_or rows n d ≡ node_of depth e
first_row rows n depth (signal s) d r = get_or_from_slice_get rows n (node_of depth (signal s)) d (stands_found rows n (node_of depth (signal s)) [] r)
first_row rows n depth (all_of es) d r = get_or_from_slice_get rows n (node_of depth (all_of es)) d (stands_found rows n (node_of depth (all_of es)) (listed_below (depth + 1) es) r)
first_row rows n depth (any_of es) d r = get_or_from_slice_get rows n (node_of depth (any_of es)) d (stands_found rows n (node_of depth (any_of es)) (listed_below (depth + 1) es) r)

-- the operands of a value
abbrev pub operands_of : Formula → Formulas
operands_of (signal s) = no_operand
operands_of (all_of es) = es
operands_of (any_of es) = es

-- their rows follow that of the root, one deeper
pub operands_stand : (rows : List Node) (n depth : ℕ) (e : Formula) → StandsAt rows n (listed_at depth e) → StandsAt rows (n + 1) (listed_below (depth + 1) (operands_of e))
operands_stand rows n depth (signal s) r = rest_stands rows n (n + 1) (node_of depth (signal s) ∷ []) [] refl r
operands_stand rows n depth (all_of es) r = rest_stands rows n (n + 1) (node_of depth (all_of es) ∷ []) (listed_below (depth + 1) es) refl r
operands_stand rows n depth (any_of es) r = rest_stands rows n (n + 1) (node_of depth (any_of es) ∷ []) (listed_below (depth + 1) es) refl r
