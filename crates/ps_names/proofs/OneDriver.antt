-- Where no rule is broken, each signal has one driver and each instance one call.
use Rattle.std.proofs.Common.{◌≡◌, ℕ, zero, suc, ◌+◌, ◌<◌, ◌≤◌, Bool, true, cond, ◌⊎◌, inl, inr, List, [], ◌∷◌, Some, length, map, filter, take, slice_get, get_or, refl, sym, ap, subst, ◌∙◌, arith, nat_le, nat_lt, ◌&&◌}
use Rattle.std.specs.Prelude.{count_by, sum_by, ◌==◌}
use Rattle.std.proofs.lemmas.Bool.{false≢true, cases_order}
use Rattle.std.proofs.lemmas.Bool.Decides.{nat_tests}
use Rattle.std.proofs.lemmas.List.{length-map}
use Rattle.std.proofs.lemmas.List.Sums.{sum_by-cons, length-filter}
use Rattle.ps_parser.specs.declared.name.Name.{Name}
use Rattle.ps_names.specs.declared.entry.Entry.{Entry}
use Rattle.ps_names.proofs.Distinct.{none_left, unrepeated_differ, at_most_one}
use Rattle.ps_names.proofs.Unbroken.{IsUnbroken, none_inside}
use Rattle.ps_base.specs.declared.failing.Rule.TheVariants.{N7, N9}
use Rattle.ps_names.proofs.Targets.{IsTarget, target, one_name, target_range, IsInstance, callee, one_instance, instance_range, never_a_pin}
use Rattle.ps_model.specs.Network as net
use Rattle.ps_model.specs.Network.{Network}
use Rattle.ps_model.specs.Blocks.{output_count}
use Rattle.ps_model.specs.Action.{calls}
use Rattle.ps_model.specs.declared.kind.Kind.TheVariants.{Equivalent}
use Rattle.ps_names.specs.Names.{is_input, is_output, is_local, is_instance}
use Rattle.ps_parser.specs.Tree.{SumTree, ArgumentTree, StatementTree, Assign, Call}
use Rattle.ps_parser.specs.declared.statement.Target.TheVariants.{Name as Whole, Pin as OfPin}
use Rattle.ps_names.specs.Uses.{drives, drives_pin, runs, statement_uses, assigned, called}
use Rattle.ps_names.specs.Rules.{broken_by}
use Rattle.ps_names.specs.Stands.{number, action, network_of, signal_named, instance_named}

pub count_map : {X Y : Type 0} (p : Y → Bool) (f : X → Y) (xs : List X) → count_by p (map f xs) ≡ count_by (λ x. p (f x)) xs
count_map p f [] = refl
count_map p f (x ∷ xs) =
    sum_by-cons (λ y. cond (p y) 1 0) (f x) (map f xs) ∙ ap (λ n. cond (p (f x)) 1 0 + n) (count_map p f xs)
    ∙ sym (sum_by-cons (λ y. cond (p (f y)) 1 0) x xs)

sum_until : {X : Type 0} (f : X → ℕ) (xs : List X) (i j : ℕ) (d : X) → i < j → i < length xs → sum_by f (take i xs) + f (get_or xs i d) ≤ sum_by f (take j xs)
sum_until f [] i j d h w = absurd (omega arith)
sum_until f (x ∷ xs) zero zero d h w = absurd (omega arith)
sum_until f (x ∷ xs) (suc i) zero d h w = absurd (omega arith)
sum_until f (x ∷ xs) zero (suc j) d h w = omega (arith, sum_by-cons f x (take j xs))
sum_until f (x ∷ xs) (suc i) (suc j) d h w =
    omega (arith, sum_by-cons f x (take i xs), sum_by-cons f x (take j xs), sum_until f xs i j d (omega arith) (omega arith))

pub equal_of : (a b : ℕ) → (a == b) ≡ true → a ≡ b
equal_of a b h = grind (arith, nat_tests)

from_of : (a b s : ℕ) → (nat_le a s && nat_lt s b) ≡ true → a ≤ s
from_of a b s h = grind (arith, nat_tests)

upto_of : (a b s : ℕ) → (nat_le a s && nat_lt s b) ≡ true → s < b
upto_of a b s h = grind (arith, nat_tests)

-- the outputs of an instance come after the declared signals, and before those of a later instance
after_declared : (n : Network) (i : ℕ) → net.declared_count n ≤ net.first_pin n i
after_declared n i = omega arith

pins_apart : (n : Network) (i j : ℕ) → i < j → i < length n.instances → net.first_pin n i + output_count (net.kind_at n i) ≤ net.first_pin n j
pins_apart n i j h w =
    let less = sum_until (λ x. output_count x.kind) n.instances i j (record { name = []; kind = Equivalent }) h w in
    omega arith

module _ (name : List ℕ) (es : List Entry) (ss : List StatementTree) (clean : IsUnbroken es ss) where
  pub target_at : (k : ℕ) (n : Name) (v : SumTree) → slice_get ss k ≡ Some (Assign (Whole n) v) → IsTarget es n
  target_at k n v at = target es clean.typed n (none_left (broken_by es (drives n)) _ (none_inside (broken_by es) statement_uses ss k _ clean.uses at))

  pub callee_at : (k : ℕ) (n : Name) (args : List ArgumentTree) → slice_get ss k ≡ Some (Call n args) → IsInstance es n
  callee_at k n args at = callee es n (none_left (broken_by es (runs n)) _ (none_inside (broken_by es) statement_uses ss k _ clean.uses at))

  pub no_pin_at : (k : ℕ) (n q : Name) (v : SumTree) → slice_get ss k ≡ Some (Assign (OfPin n q) v) → ⊥
  no_pin_at k n q v at = never_a_pin n q _ (none_left (broken_by es (drives_pin n q)) _ (none_inside (broken_by es) statement_uses ss k _ clean.uses at))

  pub declared_is : net.declared_count (network_of name es ss) ≡ count_by (λ e. is_input e.sort) es + count_by (λ e. is_output e.sort) es + count_by (λ e. is_local e.sort) es
  declared_is =
      let a = length-map (filter (λ e. is_input e.sort) es) signal_named ∙ length-filter (λ e. is_input e.sort) es in
      let b = length-map (filter (λ e. is_output e.sort) es) signal_named ∙ length-filter (λ e. is_output e.sort) es in
      let c = length-map (filter (λ e. is_local e.sort) es) signal_named ∙ length-filter (λ e. is_local e.sort) es in
      omega arith

  pub instances_are : length (network_of name es ss).instances ≡ count_by (λ e. is_instance e.sort) es
  instances_are = length-map (filter (λ e. is_instance e.sort) es) instance_named ∙ length-filter (λ e. is_instance e.sort) es

  not_both : (s i j : ℕ) (m n : Name) (v : SumTree) (args : List ArgumentTree) → slice_get ss i ≡ Some (Assign (Whole m) v) → slice_get ss j ≡ Some (Call n args) →
      net.drives (network_of name es ss) s (action es (Assign (Whole m) v)) ≡ true → net.drives (network_of name es ss) s (action es (Call n args)) ≡ true → ⊥
  not_both s i j m n v args ax ay hx hy =
      let e : number es m ≡ s = equal_of (number es m) s hx in
      let r = (target_range es m (target_at i m v ax)).1 in
      let d = declared_is in
      let a = after_declared (network_of name es ss) (number es n) in
      let f = from_of (net.first_pin (network_of name es ss) (number es n)) _ s hy in
      omega arith

  outputs_are_disjoint : (s i j : ℕ) → i < j → i < length (network_of name es ss).instances →
      net.drives (network_of name es ss) s (calls i []) ≡ true → net.drives (network_of name es ss) s (calls j []) ≡ true → ⊥
  outputs_are_disjoint s i j h w hx hy =
      let a = pins_apart (network_of name es ss) i j h w in
      let b = upto_of _ (net.first_pin (network_of name es ss) i + output_count (net.kind_at (network_of name es ss) i)) s hx in
      let c = from_of (net.first_pin (network_of name es ss) j) _ s hy in
      omega arith

  -- two statements drive different signals
  apart_drivers : (s i j : ℕ) (x y : StatementTree) → i < j → slice_get ss i ≡ Some x → slice_get ss j ≡ Some y →
      net.drives (network_of name es ss) s (action es x) ≡ true → net.drives (network_of name es ss) s (action es y) ≡ true → ⊥
  apart_drivers s i j (Assign (OfPin n q) v) y ij ax ay hx hy = no_pin_at i n q v ax
  apart_drivers s i j x (Assign (OfPin n q) v) ij ax ay hx hy = no_pin_at j n q v ay
  apart_drivers s i j (Assign (Whole m) v) (Assign (Whole n) w) ij ax ay hx hy =
      false≢true (sym (unrepeated_differ assigned N7 [] ss i j _ _ m n ij clean.targets ax ay refl refl)
      ∙ one_name es m n (target_at i m v ax) (target_at j n w ay) (equal_of (number es m) s hx ∙ sym (equal_of (number es n) s hy)))
  apart_drivers s i j (Assign (Whole m) v) (Call n args) ij ax ay hx hy = not_both s i j m n v args ax ay hx hy
  apart_drivers s i j (Call m args) (Assign (Whole n) w) ij ax ay hx hy = not_both s j i n m w args ay ax hy hx
  apart_drivers s i j (Call m args) (Call n more) ij ax ay hx hy = by (cases_order (number es m) (number es n))
    where
      by : (number es m ≡ number es n) ⊎ ((number es m < number es n) ⊎ (number es n < number es m)) → ⊥
      by (inl e) =
          false≢true (sym (unrepeated_differ called N9 [] ss i j _ _ m n ij clean.called_names ax ay refl refl)
          ∙ one_instance es m n (callee_at i m args ax) (callee_at j n more ay) e)
      by (inr (inl l)) = outputs_are_disjoint s (number es m) (number es n) l (let r = instance_range es m (callee_at i m args ax) in let c = instances_are in omega arith) hx hy
      by (inr (inr l)) = outputs_are_disjoint s (number es n) (number es m) l (let r = instance_range es n (callee_at j n more ay) in let c = instances_are in omega arith) hy hx

  pub one_driver : (s : ℕ) → count_by (net.drives (network_of name es ss) s) (network_of name es ss).steps ≤ 1
  one_driver s =
      subst (λ n. n ≤ 1) (sym (count_map (net.drives (network_of name es ss) s) (action es) ss))
      (at_most_one (λ x. net.drives (network_of name es ss) s (action es x)) ss (apart_drivers s))
