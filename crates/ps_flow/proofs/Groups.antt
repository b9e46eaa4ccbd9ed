-- The lines of an AND and of an OR, operand by operand.
use Rattle.std.proofs.Common.{◌≡◌, ℕ, ◌+◌, ◌<◌, ◌≤◌, ◌++◌, ◌∷◌, [], ◌&&◌, ◌||◌, true, false, cond, List, length, map, drop, take, get_or, sym, ap, ◌∙◌, refl, subst, arith, length-append, append-nil, append_assoc}
use Rattle.std.specs.Prelude.{Bool}
use Rattle.std.proofs.lemmas.Bool.{cond-true, cond-false}
use Rattle.std.proofs.lemmas.Grind.{common_steps}
use Rattle.ps_model.specs.declared.expr.Expr.{Expr}
use Rattle.ps_model.specs.Exprs.{formula, operands}
use Rattle.ps_model.specs.Formula.{Formula, Formulas, operand}
use Rattle.ps_model.specs.Network.{Network}
use Rattle.ps_model.specs.Nodes.{nodes, nodes_below}
use Rattle.ps_model.specs.Typing.{safe, some_safe, each_safe}
use Rattle.ps_model.specs.Values.{AreBelow}
use Rattle.ps_model.proofs.Rest.{rest_at}
use Rattle.ps_flow.specs.Derivation.{line, derivation, of_first_safe, of_each, last_lines}
use Rattle.ps_flow.specs.declared.certificate.CertLine.{CertLine}
use Rattle.ps_flow.specs.declared.certificate.LineRule.TheVariants.{And, Or}
use Rattle.ps_flow.proofs.Short.{short}

-- the operands from a place on: the one that stands there, and the others
pub operands_at : (all : List Expr) (i : ℕ) (x : Expr) → i < length all → x ≡ get_or all i x →
    operands (map formula (drop i all)) ≡ operand (formula x) (operands (map formula (drop (i + 1) all)))
operands_at all i x inside is = ap (λ es. operands (map formula es)) (rest_at all i x inside is)

pub nodes_left : (left more : Formulas) (e : Formula) → left ≡ operand e more → length (nodes_below left) ≡ length (nodes e) + length (nodes_below more)
nodes_left left more e next = ap (λ es. length (nodes_below es)) next ∙ length-append (nodes e) (nodes_below more)

pub below_left : (n : ℕ) (left more : Formulas) (e : Formula) → left ≡ operand e more → AreBelow n left → AreBelow n more
below_left n left more e next below = (subst (AreBelow n) next below).1

-- there is room for the lines of the operands that are left
pub room_left : (cert now written : List CertLine) (most : ℕ) (left more : Formulas) (e : Formula) → left ≡ operand e more → now ≡ cert ++ written →
    length written ≤ length (nodes e) → length cert + length (nodes_below left) < most → length now + length (nodes_below more) < most
room_left cert now written most left more e next is few room =
    omega (arith, nodes_left left more e next, ap length is, length-append cert written, few, room)

-- an AND of which an operand was safe stays safe, and an OR of which one was not stays plain
pub some_counted : (s all left more : Bool) → s ≡ true → all ≡ (s || left) → all ≡ (s || more)
some_counted s all left more on so_far = so_far ∙ ap (λ x. x || left) on ∙ sym (ap (λ x. x || more) on)

pub each_counted : (s all left more : Bool) → s ≡ false → all ≡ (s && left) → all ≡ (s && more)
each_counted s all left more off so_far = so_far ∙ ap (λ x. x && left) off ∙ sym (ap (λ x. x && more) off)

-- a flag that stayed is not the other one
pub stayed_on : {X : Type 0} (s d : Bool) (x y : X) → d ≡ s → s ≡ true → d ≡ false → x ≡ y
stayed_on s d x y is on off = cc

pub stayed_off : {X : Type 0} (s d : Bool) (x y : X) → d ≡ s → s ≡ false → d ≡ true → x ≡ y
stayed_off s d x y is off on = cc

-- where no operand is left, those before have decided
pub or_none : (s : Bool) → (s || false) ≡ s
or_none true = refl
or_none false = refl

pub and_all : (s : Bool) → (s && true) ≡ s
and_all true = refl
and_all false = refl

-- the first lines stay where more are written
pub kept_more : (old cert more : List CertLine) → take (length old) cert ≡ old → take (length old) (cert ++ more) ≡ old
kept_more old cert more kept = grind (arith, common_steps)

-- the line of the root of an AND
pub root_of_and : (s d : Bool) (old mid now first : List CertLine) (node : ℕ) → d ≡ s → mid ≡ old ++ cond s first [] →
    now ≡ mid ++ cond d (line node And (length mid ∷ []) ∷ []) [] → now ≡ old ++ cond s (first ++ line node And ((length old + length first) ∷ []) ∷ []) []
root_of_and true d old mid now first node same so_far more =
    more ∙ ap (λ x. mid ++ cond x (line node And (length mid ∷ []) ∷ []) []) same ∙ ap (λ m. m ++ line node And (length m ∷ []) ∷ []) so_far
    ∙ append_assoc old first (line node And (length (old ++ first) ∷ []) ∷ [])
    ∙ ap (λ k. old ++ (first ++ line node And (k ∷ []) ∷ [])) (length-append old first)
root_of_and false d old mid now first node same so_far more =
    more ∙ ap (λ x. mid ++ cond x (line node And (length mid ∷ []) ∷ []) []) same ∙ append-nil mid ∙ so_far

-- the line of the root of an OR
pub root_of_or : (s d : Bool) (old mid now each : List CertLine) (node before : ℕ) (premises last : List ℕ) → d ≡ s → before ≡ length old →
    take (length old) mid ≡ old → (s ≡ true → mid ≡ old ++ each) → (s ≡ true → premises ≡ last) →
    now ≡ cond d (mid ++ line node Or premises ∷ []) (take before mid) → now ≡ old ++ cond s (each ++ line node Or last ∷ []) []
root_of_or true d old mid now each node before premises last same held kept so_far known more =
    more ∙ ap (λ x. cond x (mid ++ line node Or premises ∷ []) (take before mid)) same ∙ ap (λ m. m ++ line node Or premises ∷ []) (so_far refl)
    ∙ append_assoc old each (line node Or premises ∷ []) ∙ ap (λ ps. old ++ (each ++ line node Or ps ∷ [])) (known refl)
root_of_or false d old mid now each node before premises last same held kept so_far known more =
    more ∙ ap (λ x. cond x (mid ++ line node Or premises ∷ []) (take before mid)) same ∙ ap (λ n. take n mid) held ∙ kept ∙ sym (append-nil old)

-- of two lists the one that is picked, where both are the same if it is the first
picked : (b : Bool) (xs ys : List CertLine) → (b ≡ true → ys ≡ xs) → cond b xs [] ≡ cond b ys []
picked true xs ys same = sym (same refl)
picked false xs ys same = refl

module _ (net : Network) where
  -- a value has no more lines than nodes
  pub few : (s : Bool) (b n : ℕ) (e : Formula) → length (cond s (derivation net b n e) []) ≤ length (nodes e)
  few true b n e = short net b n e
  few false b n e = omega arith

  -- ---- One operand more of an AND of which none was safe so far.
  pub some_more : (s d all : Bool) (left more : Formulas) (e : Formula) → left ≡ operand e more → s ≡ false → d ≡ safe net e →
      all ≡ (s || some_safe net left) → all ≡ (d || some_safe net more)
  some_more s d all left more e next off is so_far =
      so_far ∙ ap (λ x. x || some_safe net left) off ∙ ap (some_safe net) next ∙ ap (λ x. x || some_safe net more) (sym is)

  pub first_lines : (s d : Bool) (old cert now : List CertLine) (node after : ℕ) (all left more : Formulas) (e : Formula) → left ≡ operand e more → s ≡ false →
      d ≡ safe net e → cert ≡ old ++ cond s (of_first_safe net (length old) node all) [] →
      (s ≡ false → of_first_safe net (length old) node all ≡ of_first_safe net (length old) after left) →
      now ≡ cert ++ cond (safe net e) (derivation net (length cert) after e) [] → now ≡ old ++ cond d (of_first_safe net (length old) node all) []
  first_lines s d old cert now node after all left more e next off is so_far rest written =
      let first = of_first_safe net (length old) node all in
      let lines = derivation net (length old) after e in
      let none : cert ≡ old = so_far ∙ ap (λ x. old ++ cond x first []) off ∙ append-nil old in
      let here : safe net e ≡ true → first ≡ lines = λ on. rest off ∙ ap (of_first_safe net (length old) after) next
      ∙ cond-true (safe net e) lines (of_first_safe net (length old) (after + length (nodes e)) more) on in
      written ∙ ap (λ c. c ++ cond (safe net e) (derivation net (length c) after e) []) none ∙ ap (λ l. old ++ l) (picked (safe net e) lines first here)
      ∙ ap (λ x. old ++ cond x first []) (sym is)

  pub first_rest : (s d : Bool) (b node after following : ℕ) (all left more : Formulas) (e : Formula) → left ≡ operand e more → s ≡ false → d ≡ safe net e →
      following ≡ after + length (nodes e) → (s ≡ false → of_first_safe net b node all ≡ of_first_safe net b after left) → d ≡ false →
      of_first_safe net b node all ≡ of_first_safe net b following more
  first_rest s d b node after following all left more e next off is place rest plain =
      rest off ∙ ap (of_first_safe net b after) next
      ∙ cond-false (safe net e) (derivation net b after e) (of_first_safe net b (after + length (nodes e)) more) (sym is ∙ plain)
      ∙ ap (λ n. of_first_safe net b n more) (sym place)

  -- ---- One operand more of an OR of which all were safe so far.
  pub each_more : (s d all : Bool) (left more : Formulas) (e : Formula) → left ≡ operand e more → s ≡ true → d ≡ safe net e →
      all ≡ (s && each_safe net left) → all ≡ (d && each_safe net more)
  each_more s d all left more e next on is so_far =
      so_far ∙ ap (λ x. x && each_safe net left) on ∙ ap (each_safe net) next ∙ ap (λ x. x && each_safe net more) (sym is)

  -- what a safe operand has written
  written_by : (cert now : List CertLine) (after : ℕ) (e : Formula) → safe net e ≡ true → now ≡ cert ++ cond (safe net e) (derivation net (length cert) after e) [] →
      now ≡ cert ++ derivation net (length cert) after e
  written_by cert now after e on written = written ∙ ap (λ x. cert ++ cond x (derivation net (length cert) after e) []) on

  pub each_lines : (s d : Bool) (cert now whole : List CertLine) (after following : ℕ) (left more : Formulas) (e : Formula) → left ≡ operand e more → s ≡ true →
      d ≡ safe net e → following ≡ after + length (nodes e) → (s ≡ true → cert ++ of_each net (length cert) after left ≡ whole) →
      now ≡ cert ++ cond (safe net e) (derivation net (length cert) after e) [] → d ≡ true → now ++ of_each net (length now) following more ≡ whole
  each_lines s d cert now whole after following left more e next on is place so_far written safe_now =
      let lines = derivation net (length cert) after e in
      let adds : now ≡ cert ++ lines = written_by cert now after e (sym is ∙ safe_now) written in
      let long : length now ≡ length cert + length lines = ap length adds ∙ length-append cert lines in
      ap (λ c. c ++ of_each net (length now) following more) adds ∙ append_assoc cert lines (of_each net (length now) following more)
      ∙ ap (λ n. cert ++ (lines ++ of_each net n following more)) long ∙ ap (λ n. cert ++ (lines ++ of_each net (length cert + length lines) n more)) place
      ∙ sym (ap (λ es. cert ++ of_each net (length cert) after es) next) ∙ so_far on

  pub each_premises : (s d : Bool) (cert now : List CertLine) (premises known whole : List ℕ) (after following : ℕ) (left more : Formulas) (e : Formula) →
      left ≡ operand e more → s ≡ true → d ≡ safe net e → following ≡ after + length (nodes e) →
      (s ≡ true → premises ++ last_lines net (length cert) after left ≡ whole) →
      now ≡ cert ++ cond (safe net e) (derivation net (length cert) after e) [] → known ≡ premises ++ length now ∷ [] → d ≡ true →
      known ++ last_lines net (length now) following more ≡ whole
  each_premises s d cert now premises known whole after following left more e next on is place so_far written pushed safe_now =
      let lines = derivation net (length cert) after e in
      let adds : now ≡ cert ++ lines = written_by cert now after e (sym is ∙ safe_now) written in
      let long : length now ≡ length cert + length lines = ap length adds ∙ length-append cert lines in
      ap (λ ps. ps ++ last_lines net (length now) following more) pushed ∙ append_assoc premises (length now ∷ []) (last_lines net (length now) following more)
      ∙ ap (λ n. premises ++ n ∷ last_lines net n following more) long ∙ ap (λ n. premises ++ (length cert + length lines) ∷ last_lines net (length cert + length lines) n more) place
      ∙ sym (ap (λ es. premises ++ last_lines net (length cert) after es) next) ∙ so_far on
