-- Which nodes below a node are its operands: those whose rows are one deeper than its own.
use Rattle.std.proofs.Common.{◌≡◌, ℕ, ◌+◌, ◌-◌, ◌≤◌, ◌<◌, Bool, false, ◌||◌, List, [], ◌∷◌, ◌++◌, length, sym, ap, ◌∙◌, refl, ⊎_elim, arith, get_or, length-append}
use Rattle.std.specs.Prelude.{◌==◌, All}
use Rattle.std.specs.List.{list_any}
use Rattle.std.proofs.lemmas.Bool.{or_left, eq-eqb, ne_eqb, eqb-true, eqb-false, cases_Bool, cases_lt}
use Rattle.std.proofs.lemmas.List.{get_or_append_left}
use Rattle.std.proofs.lemmas.List.Elements.{All-cons, All-nil, All-append, All-get_or}
use Rattle.std.proofs.Math.Seq.{get_or-append_right}
use Rattle.ps_model.specs.declared.node.Node.{Node}
use Rattle.ps_model.specs.Formula.{Formula, Formulas, signal, all_of, any_of, no_operand, operand}
use Rattle.ps_model.specs.Nodes.{nodes, nodes_below, operand_places}
use Rattle.ps_model.specs.NodeList.{node_of, listed_at, listed_below}
use Rattle.ps_model.specs.Standing.{StandsAt}
use Rattle.ps_model.proofs.NodePlaces.{first_stands, rest_stands}
use Rattle.ps_checker.proofs.RowPlaces.{some_nodes, length-rows_at, length-rows_below, first_row}

-- this deep, or deeper
abbrev DeepFrom : ℕ → Node → Type 0
DeepFrom least r = least ≤ r.depth

-- the rows of a value are as deep as it stands, or deeper
mutual
  deep_at : (least depth : ℕ) (e : Formula) → least ≤ depth → All (DeepFrom least) (listed_at depth e)
  deep_at least depth (signal s) h = All-cons (DeepFrom least) (node_of depth (signal s)) [] h (All-nil (DeepFrom least))
  deep_at least depth (all_of es) h =
      All-cons (DeepFrom least) (node_of depth (all_of es)) (listed_below (depth + 1) es) h (deep_below least (depth + 1) es (omega arith))
  deep_at least depth (any_of es) h =
      All-cons (DeepFrom least) (node_of depth (any_of es)) (listed_below (depth + 1) es) h (deep_below least (depth + 1) es (omega arith))

  deep_below : (least depth : ℕ) (es : Formulas) → least ≤ depth → All (DeepFrom least) (listed_below depth es)
  deep_below least depth no_operand h = All-nil (DeepFrom least)
  deep_below least depth (operand e es) h =
      All-append (DeepFrom least) (listed_at depth e) (listed_below depth es) (deep_at least depth e h) (deep_below least depth es h)

-- an element of a list that stands in another
element_within : {X : Type 0} (xs : List X) (n : ℕ) (ys : List X) (k : ℕ) (d : X) → StandsAt xs n ys → n ≤ k → k < n + length ys → get_or xs k d ≡ get_or ys (k - n) d
element_within xs n ys k d s low high =
    let place = s.place in
    ap (λ z. get_or z k d) s.split
    ∙ get_or-append_right s.before (ys ++ s.after) k d (omega arith)
    ∙ get_or_append_left ys s.after d (k - length s.before) (omega arith)
    ∙ ap (λ b. get_or ys (k - b) d) (sym place)

-- what stands below a value's root is deeper than the root
below_root : (rows : List Node) (at depth : ℕ) (e : Formula) (k : ℕ) (d : Node) → StandsAt rows at (listed_at depth e) →
    at < k → k < at + length (nodes e) → depth + 1 ≤ (get_or rows k d).depth
below_root rows at depth e k d s low high =
    ap-le (element_within rows at (listed_at depth e) k d s (omega arith) (let n = length-rows_at depth e in omega arith)) (go e (k - at) (omega arith) (omega arith))
  where
    ap-le : {x y : Node} → x ≡ y → depth + 1 ≤ y.depth → depth + 1 ≤ x.depth
    ap-le e h = let same = ap (λ (r : Node). r.depth) e in omega arith

    inside : (r : Node) (es : Formulas) (j : ℕ) → 0 < j → j < 1 + length (nodes_below es) → depth + 1 ≤ (get_or (r ∷ listed_below (depth + 1) es) j d).depth
    inside r es j some few =
        ap-le (get_or-append_right (r ∷ []) (listed_below (depth + 1) es) j d (omega arith))
        (All-get_or (DeepFrom (depth + 1)) (listed_below (depth + 1) es) (j - 1) d (let n = length-rows_below (depth + 1) es in omega arith) (deep_below (depth + 1) (depth + 1) es (omega arith)))

    go : (e : Formula) (j : ℕ) → 0 < j → j < length (nodes e) → depth + 1 ≤ (get_or (listed_at depth e) j d).depth
    go (signal s) j some few = absurd (omega arith)
    go (all_of es) j some few = inside (node_of depth (all_of es)) es j some (omega arith)
    go (any_of es) j some few = inside (node_of depth (any_of es)) es j some (omega arith)

-- one deeper than another
pub one_deeper : (n depth difference : ℕ) → difference ≡ n - depth → (difference == 1) ≡ (n == depth + 1)
one_deeper n depth difference is =
    ⊎_elim
    (λ yes. let same : difference ≡ 1 = eqb-true difference 1 yes in yes ∙ sym (eq-eqb n (depth + 1) (omega arith)))
    (λ no. no ∙ sym (ne_eqb n (depth + 1) (λ e. eqb-false difference 1 no (omega arith))))
    (cases_Bool (difference == 1))

module _ (node : ℕ) where
  abbrev is_one : ℕ → Formulas → Bool
  is_one at es = list_any (λ m. m == node) (operand_places at es)

  -- a node before the operands is none of them
  pub before_operands : (at : ℕ) (es : Formulas) → node < at → false ≡ is_one at es
  before_operands at no_operand h = refl
  before_operands at (operand e es) h =
      before_operands (at + length (nodes e)) es (omega arith)
      ∙ ap (λ b. b || is_one (at + length (nodes e)) es) (sym (ne_eqb at node (λ same. omega arith)))

  -- nor is one after them
  pub behind_operands : (at : ℕ) (es : Formulas) → at + length (nodes_below es) ≤ node → false ≡ is_one at es
  behind_operands at no_operand h = refl
  behind_operands at (operand e es) h =
      let some = some_nodes e in
      let long = length-append (nodes e) (nodes_below es) in
      behind_operands (at + length (nodes e)) es (omega arith)
      ∙ ap (λ b. b || is_one (at + length (nodes e)) es) (sym (ne_eqb at node (λ same. omega arith)))

  -- among them it is one where its row is just as deep as theirs
  pub among_operands : (rows : List Node) (depth : ℕ) (at : ℕ) (es : Formulas) (d : Node) → StandsAt rows at (listed_below depth es) →
      at ≤ node → node < at + length (nodes_below es) → ((get_or rows node d).depth == depth) ≡ is_one at es
  among_operands rows depth at no_operand d s low high = absurd (omega arith)
  among_operands rows depth at (operand e es) d s low high =
      let some = some_nodes e in
      let long = length-append (nodes e) (nodes_below es) in
      let here = first_stands rows at (listed_at depth e) (listed_below depth es) s in
      let next = rest_stands rows at (at + length (nodes e)) (listed_at depth e) (listed_below depth es) (ap (λ n. at + n) (sym (length-rows_at depth e))) s in
      ⊎_elim
      (λ inside. ⊎_elim
      (λ below.
      let deep = below_root rows at depth e node d here below inside in
      ne_eqb (get_or rows node d).depth depth (λ same. omega arith)
      ∙ before_operands (at + length (nodes e)) es inside
      ∙ ap (λ b. b || is_one (at + length (nodes e)) es) (sym (ne_eqb at node (λ same. omega arith))))
      (λ first.
      let same : at ≡ node = omega arith in
      let row = first_row rows at depth e d here in
      eq-eqb (get_or rows node d).depth depth (ap (λ n. (get_or rows n d).depth) (sym same) ∙ ap (λ (r : Node). r.depth) row)
      ∙ sym (or_left (at == node) (is_one (at + length (nodes e)) es) (eq-eqb at node same)))
      (cases_lt at node))
      (λ past.
      among_operands rows depth (at + length (nodes e)) es d next past (omega arith)
      ∙ ap (λ b. b || is_one (at + length (nodes e)) es) (sym (ne_eqb at node (λ same. omega arith))))
      (cases_lt node (at + length (nodes e)))
