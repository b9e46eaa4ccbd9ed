-- Where the nodes of a value stand among those of an application.
use Rattle.std.proofs.Common.{◌≡◌, ℕ, suc, zero, ◌+◌, List, [], ◌∷◌, ◌++◌, length, Some, sym, ap, ◌∙◌, refl, subst, inl, inr, ⊎_elim, arith, append_assoc, append-nil, length-append}
use Rattle.std.specs.Prelude.{slice_get, ◌⊎◌}
use Rattle.std.specs.List.{flat_map}
use Rattle.ps_model.specs.Standing.{StandsAt}
use Rattle.ps_model.specs.Formula.{Formula, Formulas, signal, all_of, any_of, no_operand, operand}
use Rattle.ps_model.specs.Action.{Action, Actual, free, literal, time, wired, assigns, calls}
use Rattle.ps_model.specs.Network.{Network}
use Rattle.ps_model.specs.Nodes.{nodes, nodes_below, nodes_at_pin, nodes_of_step, app_nodes}

module _ {X : Type 0} where
  pub whole_stands : (xs : List X) → StandsAt xs 0 xs
  whole_stands xs = record { before = []; after = []; split = sym (append-nil xs); place = refl }

  pub stands_left : (xs zs : List X) (n : ℕ) (ys : List X) → StandsAt xs n ys → StandsAt (xs ++ zs) n ys
  stands_left xs zs n ys s = record {
    before = s.before;
    after = s.after ++ zs;
    split = ap (λ z. z ++ zs) s.split ∙ simp append_assoc;
    place = s.place;
  }

  pub stands_right : (zs xs : List X) (n m : ℕ) (ys : List X) → m ≡ length zs + n → StandsAt xs n ys → StandsAt (zs ++ xs) m ys
  stands_right zs xs n m ys e s = record {
    before = zs ++ s.before;
    after = s.after;
    split = ap (λ z. zs ++ z) s.split ∙ sym (append_assoc zs s.before (ys ++ s.after));
    place = let l : length (zs ++ s.before) ≡ length zs + length s.before = length-append zs s.before in let p = s.place in omega arith;
  }

  pub first_stands : (xs : List X) (n : ℕ) (ys zs : List X) → StandsAt xs n (ys ++ zs) → StandsAt xs n ys
  first_stands xs n ys zs s = record {
    before = s.before;
    after = zs ++ s.after;
    split = s.split ∙ ap (λ z. s.before ++ z) (append_assoc ys zs s.after);
    place = s.place;
  }

  pub rest_stands : (xs : List X) (n m : ℕ) (ys zs : List X) → m ≡ n + length ys → StandsAt xs n (ys ++ zs) → StandsAt xs m zs
  rest_stands xs n m ys zs e s = record {
    before = s.before ++ ys;
    after = s.after;
    split = s.split ∙ ap (λ z. s.before ++ z) (append_assoc ys zs s.after) ∙ sym (append_assoc s.before ys (zs ++ s.after));
    place = let l : length (s.before ++ ys) ≡ length s.before + length ys = length-append s.before ys in let p = s.place in omega arith;
  }

  found_after : (before : List X) (y : X) (ys : List X) → slice_get (before ++ y ∷ ys) (length before) ≡ Some y
  found_after [] y ys = refl
  found_after (b ∷ before) y ys = found_after before y ys

  pub stands_found : (xs : List X) (n : ℕ) (y : X) (ys : List X) → StandsAt xs n (y ∷ ys) → slice_get xs n ≡ Some y
  stands_found xs n y ys s = ap (λ z. slice_get z n) s.split ∙ ap (slice_get (s.before ++ y ∷ (ys ++ s.after))) s.place ∙ found_after s.before y (ys ++ s.after)

  -- where an element of two lists put together stands
  pub in_either : (xs ys : List X) (k : ℕ) (e : X) → slice_get (xs ++ ys) k ≡ Some e →
      (slice_get xs k ≡ Some e) ⊎ ((j : ℕ) × (k ≡ length xs + j) × (slice_get ys j ≡ Some e))
  in_either [] ys k e at = inr (k, omega arith, at)
  in_either (x ∷ xs) ys zero e at = inl at
  in_either (x ∷ xs) ys (suc k) e at =
      ⊎_elim (λ h. inl h) (λ h. inr (h.0, (let p : k ≡ length xs + h.0 = h.1 in omega arith), h.2)) (in_either xs ys k e at)

-- the nodes of each node's value stand there
mutual
  pub whole_at : (f : Formula) (k : ℕ) (e : Formula) → slice_get (nodes f) k ≡ Some e → StandsAt (nodes f) k (nodes e)
  whole_at (signal s) zero e at = let same : signal s ≡ e = cc in subst (λ z. StandsAt (signal s ∷ []) 0 (nodes z)) same (whole_stands (signal s ∷ []))
  whole_at (signal s) (suc k) e at = cc
  whole_at (all_of es) zero e at = let same : all_of es ≡ e = cc in subst (λ z. StandsAt (nodes (all_of es)) 0 (nodes z)) same (whole_stands (nodes (all_of es)))
  whole_at (all_of es) (suc k) e at = stands_right (all_of es ∷ []) (nodes_below es) k (suc k) (nodes e) (omega arith) (below_at es k e at)
  whole_at (any_of es) zero e at = let same : any_of es ≡ e = cc in subst (λ z. StandsAt (nodes (any_of es)) 0 (nodes z)) same (whole_stands (nodes (any_of es)))
  whole_at (any_of es) (suc k) e at = stands_right (any_of es ∷ []) (nodes_below es) k (suc k) (nodes e) (omega arith) (below_at es k e at)

  pub below_at : (es : Formulas) (k : ℕ) (e : Formula) → slice_get (nodes_below es) k ≡ Some e → StandsAt (nodes_below es) k (nodes e)
  below_at no_operand k e at = cc
  below_at (operand f es) k e at =
      ⊎_elim
      (λ h. stands_left (nodes f) (nodes_below es) k (nodes e) (whole_at f k e h))
      (λ h. stands_right (nodes f) (nodes_below es) h.0 k (nodes e) h.1 (below_at es h.0 e h.2))
      (in_either (nodes f) (nodes_below es) k e at)

pub flat_at : {Y : Type 0} (f : Y → List Formula) → ((y : Y) (k : ℕ) (e : Formula) → slice_get (f y) k ≡ Some e → StandsAt (f y) k (nodes e)) →
    (ys : List Y) (k : ℕ) (e : Formula) → slice_get (flat_map f ys) k ≡ Some e → StandsAt (flat_map f ys) k (nodes e)
flat_at f each [] k e at = cc
flat_at f each (y ∷ ys) k e at =
    ⊎_elim
    (λ h. stands_left (f y) (flat_map f ys) k (nodes e) (each y k e h))
    (λ h. stands_right (f y) (flat_map f ys) h.0 k (nodes e) h.1 (flat_at f each ys h.0 e h.2))
    (in_either (f y) (flat_map f ys) k e at)

at_pin : (a : Actual) (k : ℕ) (e : Formula) → slice_get (nodes_at_pin a) k ≡ Some e → StandsAt (nodes_at_pin a) k (nodes e)
at_pin (wired f) k e at = whole_at f k e at
at_pin free k e at = cc
at_pin (literal b) k e at = cc
at_pin (time t) k e at = cc

of_step : (a : Action) (k : ℕ) (e : Formula) → slice_get (nodes_of_step a) k ≡ Some e → StandsAt (nodes_of_step a) k (nodes e)
of_step (assigns t f) k e at = whole_at f k e at
of_step (calls i args) k e at = flat_at nodes_at_pin at_pin args k e at

pub app_at : (net : Network) (n : ℕ) (e : Formula) → slice_get (app_nodes net) n ≡ Some e → StandsAt (app_nodes net) n (nodes e)
app_at net n e at = flat_at nodes_of_step of_step net.steps n e at
