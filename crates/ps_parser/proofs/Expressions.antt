-- The laws of names, targets, factors, products and sums.
use Rattle.std.proofs.Common.{◌≡◌, ℕ, zero, suc, ◌≤◌, ◌<◌, length, Bool, true, false, ◌||◌, List, [], ◌∷◌, ◌++◌, Some, take, refl, sym, ap, ◌∙◌, subst, append_assoc, arith}
use Rattle.std.specs.Prelude.{slice_index}
use Rattle.std.specs.List.{flat_map}
use Rattle.ps_parser.specs.declared.stop.Flaw.{Flaw}
use Rattle.ps_parser.specs.declared.stop.Flaw.TheVariants.{Unexpected, TooDeep}
use Rattle.ps_parser.specs.declared.sign.Sign.TheVariants.{And, Or, LeftBracket, RightBracket, Dot}
use Rattle.ps_parser.specs.declared.name.Name.{Name}
use Rattle.ps_parser.specs.declared.statement.Target.{Target}
use Rattle.ps_parser.specs.declared.statement.Target.TheVariants as target
use Rattle.ps_base.specs.declared.failing.Place.{Place}
use Rattle.ps_lexer.specs.Spelling.{IsName, continues_name}
use Rattle.ps_lexer.specs.declared.token.Word.TheVariants as word
use Rattle.ps_parser.specs.Names.{IsPlainName}
use Rattle.ps_parser.specs.Symbol.{Symbol, Mark, Named, Truth, Duration, is_mark, is_named, AllProper}
use Rattle.ps_parser.specs.Tree.{FactorTree, Signal, Pin, Literal, Time, Group, ProductTree, no_factor, factor, SumTree, no_product, product, factors, products, product_of, sum_of}
use Rattle.ps_parser.specs.Spelt.{factor_spelt, product_spelt, more_factors, sum_spelt, more_products, target_spelt}
use Rattle.ps_parser.specs.Phrase.{Phrase, Stops, next, Reads, Begins, Blocks, IsRuledOut, Deeper, Refuses, goes_on_many, ◌then◌, just, behind, joined}
use Rattle.ps_parser.specs.Grammar.{FactorFits, never, is_literal, is_other, factor_goes_on, a_factor, a_product, a_sum, a_name, a_target}
use Rattle.ps_parser.proofs.Signs.{of_mark, not_next}
use Rattle.ps_parser.proofs.Phrases.{proper_append, stops_alike, EndsAt, Lawful, Meets, just_lawful, joined_lawful, reads_just, refuses_here, ends_joined, joined_fit_deeper, ReadsSome, row_starts, row_more, row_reads, row_refuses_first, row_refuses, seen_lawful}
use Rattle.ps_parser.proofs.Joints.{Joint, Carries, in_first, in_second, reads_both}

-- a list of phrases does not go on with what goes on with none of them
pub goes_none : {X : Type 0} (goes : X → Symbol → Bool) (first : Symbol → Bool) (t : Symbol) → first t ≡ false → ((x : X) → goes x t ≡ false) → (xs : List X) → goes_on_many goes first xs t ≡ false
goes_none goes first t ef eg [] = ef
goes_none goes first t ef eg (x ∷ []) = ap (λ b. b || goes x t) ef ∙ eg x
goes_none goes first t ef eg (x ∷ y ∷ xs) = goes_none goes first t ef eg (y ∷ xs)

factor_goes : (f : FactorTree) (t : Symbol) → is_mark Dot t ≡ false → factor_goes_on f t ≡ false
factor_goes (Signal n) t e = e
factor_goes (Pin n q) t e = refl
factor_goes (Literal b p) t e = refl
factor_goes (Time u p) t e = refl
factor_goes (Group s) t e = refl

pub factor_parts : (f : FactorTree) (t : Symbol) → is_mark And t ≡ true → factor_goes_on f t ≡ false
factor_parts f t e = factor_goes f t (of_mark (is_mark Dot) And refl t e)

product_goes : (p : ProductTree) (t : Symbol) → is_mark Dot t ≡ false → is_mark And t ≡ false → a_product.goes_on p t ≡ false
product_goes p t ed ea = goes_none factor_goes_on (is_mark And) t ea (λ f. factor_goes f t ed) (factors p)

pub product_parts : (p : ProductTree) (t : Symbol) → is_mark Or t ≡ true → a_product.goes_on p t ≡ false
product_parts p t e = product_goes p t (of_mark (is_mark Dot) Or refl t e) (of_mark (is_mark And) Or refl t e)

-- only a dot, AND and OR go on with a sum
pub sum_goes : (s : SumTree) (t : Symbol) → is_mark Dot t ≡ false → is_mark And t ≡ false → is_mark Or t ≡ false → a_sum.goes_on s t ≡ false
sum_goes s t ed ea eo = goes_none a_product.goes_on (is_mark Or) t eo (λ p. product_goes p t ed ea) (products s)

more_factors_lem : (p : ProductTree) → more_factors p ≡ flat_map (behind (Mark And) a_factor).spell (factors p)
more_factors_lem no_factor = refl
more_factors_lem (factor f fs) = ap (λ l. Mark And ∷ (factor_spelt f ++ l)) (more_factors_lem fs)

pub product_spelt_lem : (p : ProductTree) → product_spelt p ≡ a_product.spell p
product_spelt_lem no_factor = refl
product_spelt_lem (factor f fs) = ap (λ l. factor_spelt f ++ l) (more_factors_lem fs)

more_products_lem : (s : SumTree) → more_products s ≡ flat_map (behind (Mark Or) a_product).spell (products s)
more_products_lem no_product = refl
more_products_lem (product p ps) = (λ i. Mark Or ∷ (product_spelt_lem p i ++ more_products_lem ps i))

pub sum_spelt_lem : (s : SumTree) → sum_spelt s ≡ a_sum.spell s
sum_spelt_lem no_product = refl
sum_spelt_lem (product p ps) = (λ i. product_spelt_lem p i ++ more_products_lem ps i)

pub factors-product_of : (fs : List FactorTree) → factors (product_of fs) ≡ fs
factors-product_of [] = refl
factors-product_of (f ∷ fs) = ap (λ l. f ∷ l) (factors-product_of fs)

pub products-sum_of : (ps : List ProductTree) → products (sum_of ps) ≡ ps
products-sum_of [] = refl
products-sum_of (p ∷ ps) = ap (λ l. p ∷ l) (products-sum_of ps)

pub product_of-factors : (p : ProductTree) → product_of (factors p) ≡ p
product_of-factors no_factor = refl
product_of-factors (factor f fs) = ap (factor f) (product_of-factors fs)

pub sum_of-products : (s : SumTree) → sum_of (products s) ≡ s
sum_of-products no_product = refl
sum_of-products (product p ps) = ap (product p) (sum_of-products ps)

no_dot : (r q : List Symbol) → Stops (is_mark Dot) r → r ≡ Mark Dot ∷ q → ⊥
no_dot [] q s e = cc
no_dot (t ∷ r) q s e = let same : t ≡ Mark Dot = cc in let d : is_mark Dot t ≡ true = ap (is_mark Dot) same in cc

ends_product_of : (n : ℕ) → EndsAt a_factor n → EndsAt a_product n
ends_product_of n ends x y r q fx fy sx sy e =
    let same = ends_joined (Mark And) (is_mark And) a_factor refl factor_parts tt n ends (factors x) (factors y) r q fx fy sx sy e in
    (sym (product_of-factors x) ∙ ap product_of same.0 ∙ product_of-factors y, same.1)

ends_sum_of : (n : ℕ) → EndsAt a_factor n → EndsAt a_sum n
ends_sum_of n ends x y r q fx fy sx sy e =
    let same = ends_joined (Mark Or) (is_mark Or) a_product refl product_parts tt n (ends_product_of n ends) (products x) (products y) r q fx fy sx sy e in
    (sym (sum_of-products x) ∙ ap sum_of same.0 ∙ sum_of-products y, same.1)

-- what stands after the opening bracket
pub group_spelt : (s : SumTree) (r : List Symbol) → factor_spelt (Group s) ++ r ≡ Mark LeftBracket ∷ (a_sum.spell s ++ (Mark RightBracket ∷ r))
group_spelt s r =
    ap (λ l. Mark LeftBracket ∷ l) (append_assoc (sum_spelt s) (Mark RightBracket ∷ []) r ∙ ap (λ l. l ++ (Mark RightBracket ∷ r)) (sum_spelt_lem s))

tail_equal : (t : Symbol) (xs ys : List Symbol) → t ∷ xs ≡ t ∷ ys → xs ≡ ys
tail_equal t xs ys e = cc

pub ends_factor : (n : ℕ) → EndsAt a_factor n
ends_factor n (Signal m) (Signal k) r q fx fy sx sy e = (cc, cc)
ends_factor n (Signal m) (Pin k l) r q fx fy sx sy e = absurd (no_dot r (Named l ∷ q) sx cc)
ends_factor n (Pin m j) (Signal k) r q fx fy sx sy e = absurd (no_dot q (Named j ∷ r) sy cc)
ends_factor n (Pin m j) (Pin k l) r q fx fy sx sy e = (cc, cc)
ends_factor n (Literal b p) (Literal c s) r q fx fy sx sy e = (cc, cc)
ends_factor n (Time b p) (Time c s) r q fx fy sx sy e = (cc, cc)
ends_factor zero (Group s) y r q fx fy sx sy e = absurd fx
ends_factor zero x (Group s) r q fx fy sx sy e = absurd fy
ends_factor (suc n) (Group s) (Group u) r q fx fy sx sy e =
    let inner = tail_equal (Mark LeftBracket) (a_sum.spell s ++ (Mark RightBracket ∷ r)) (a_sum.spell u ++ (Mark RightBracket ∷ q)) (sym (group_spelt s r) ∙ e ∙ group_spelt u q) in
    let same = ends_sum_of n (ends_factor n) s u (Mark RightBracket ∷ r) (Mark RightBracket ∷ q) fx fy (sum_goes s (Mark RightBracket) refl refl refl) (sum_goes u (Mark RightBracket) refl refl refl) inner in
    (ap Group same.0, tail_equal (Mark RightBracket) r q same.1)
ends_factor n x y r q fx fy sx sy e = absurd cc

fits_sum_of : (n m : ℕ) → ((f : FactorTree) → FactorFits n f → FactorFits m f) → (s : SumTree) → a_sum.fits n s → a_sum.fits m s
fits_sum_of n m fits_deeper s h =
    joined_fit_deeper (Mark Or) (is_mark Or) a_product refl product_parts tt n m (λ p. joined_fit_deeper (Mark And) (is_mark And) a_factor refl factor_parts tt n m fits_deeper (factors p)) (products s) h

factor_fits_deeper : (n m : ℕ) (f : FactorTree) → n ≤ m → FactorFits n f → FactorFits m f
factor_fits_deeper zero m (Group s) le h = absurd h
factor_fits_deeper (suc n) zero (Group s) le h = absurd (omega arith)
factor_fits_deeper (suc n) (suc m) (Group s) le h = fits_sum_of n m (λ f. factor_fits_deeper n m f (omega arith)) s h
factor_fits_deeper n m (Signal k) le h = tt
factor_fits_deeper n m (Pin k q) le h = tt
factor_fits_deeper n m (Literal b p) le h = tt
factor_fits_deeper n m (Time b p) le h = tt

-- the name `_`, for phrases that may stand where a text breaks off
pub some_name : Name
some_name = record { text = 95 ∷ []; place = record { line = 1; column = 1 } }

some_is_name : IsName (95 ∷ [])
some_is_name = record {
  identifier = record { some = omega arith; begins = refl; continues = one_byte };
  short = omega arith;
  no_keyword = elim [ word.Program ↦ λ e. cc | word.EndProgram ↦ λ e. cc | word.VarInput ↦ λ e. cc | word.VarOutput ↦ λ e. cc | word.Var ↦ λ e. cc | word.EndVar ↦ λ e. cc | word.And ↦ λ e. cc | word.Or ↦ λ e. cc | word.True ↦ λ e. cc | word.False ↦ λ e. cc ];
}
  where
    one_byte : (k : ℕ) → k < 1 → continues_name (slice_index (95 ∷ []) k) ≡ true
    one_byte zero h = refl
    one_byte (suc k) h = absurd (omega arith)

pub some_proper : IsPlainName some_name.text
unfolding some_name
some_proper = record { name = some_is_name; plain = refl }

pub name_law : Lawful a_name
name_law = record { fits_deeper = λ n m x le f. tt; ends = λ n x y r q fx fy sx sy e. (cc, cc); some = some_name; some_fits = tt; some_proper = (some_proper, tt) }

pub factor_law : Lawful a_factor
factor_law = record { fits_deeper = λ n m f. factor_fits_deeper n m f; ends = ends_factor; some = Signal some_name; some_fits = tt; some_proper = (some_proper, tt) }

pub product_law : Lawful a_product
product_law = seen_lawful factors product_of factors-product_of product_of-factors (joined (Mark And) (is_mark And) a_factor) (joined_lawful (Mark And) (is_mark And) a_factor refl factor_parts tt factor_law)

pub sum_law : Lawful a_sum
sum_law = seen_lawful products sum_of products-sum_of sum_of-products (joined (Mark Or) (is_mark Or) a_product) (joined_lawful (Mark Or) (is_mark Or) a_product refl product_parts tt product_law)

ends_target : (n : ℕ) → EndsAt a_target n
ends_target n (target.Name m) (target.Name k) r q fx fy sx sy e = (cc, cc)
ends_target n (target.Name m) (target.Pin k l) r q fx fy sx sy e = absurd (no_dot r (Named l ∷ q) sx cc)
ends_target n (target.Pin m j) (target.Name k) r q fx fy sx sy e = absurd (no_dot q (Named j ∷ r) sy cc)
ends_target n (target.Pin m j) (target.Pin k l) r q fx fy sx sy e = (cc, cc)

pub target_law : Lawful a_target
target_law = record { fits_deeper = λ n m x le f. tt; ends = ends_target; some = target.Name some_name; some_fits = tt; some_proper = (some_proper, tt) }

-- a sum, and the sign after it
pub sum_meets : (t : Symbol) → is_mark Dot t ≡ false → is_mark And t ≡ false → is_mark Or t ≡ false → Meets a_sum (just t)
sum_meets t ed ea eo n s y after f stops = sum_goes s t ed ea eo

pub never_stops : (ts : List Symbol) → Stops never ts
never_stops [] = tt
never_stops (t ∷ ts) = refl

pub just_meets : {X : Type 0} (t : Symbol) (b : Phrase X) → Meets (just t) b
just_meets t b n x y after f stops = never_stops (b.spell y ++ after)

pub name_meets : {X : Type 0} (b : Phrase X) → Meets a_name b
name_meets b n x y after f stops = never_stops (b.spell y ++ after)

pub refuses_just : (t : Symbol) → AllProper (t ∷ []) → (limit : ℕ) (ts : List Symbol) → (next ts ≡ Some t → ⊥) → Refuses (just t) limit Unexpected ts ts
refuses_just t proper limit ts differs = refuses_here (just t) (just_lawful t proper.0) limit ts (λ n x after other f stops e same. differs (sym same ∙ ap next (sym e)))

pub reads_sign : (t : Symbol) (limit : ℕ) (ts rest : List Symbol) → ts ≡ t ∷ rest → Reads (just t) limit ts tt rest
reads_sign t limit ts rest e = subst (λ l. Reads (just t) limit l tt rest) (sym e) (reads_just t limit rest)

pub reads_name : (limit : ℕ) (n : Name) (ts rest : List Symbol) → ts ≡ Named n ∷ rest → Reads a_name limit ts n rest
reads_name limit n ts rest e = record { whole = tt; spelled = e; longest = never_stops rest }

pub refuses_name : (limit : ℕ) (ts : List Symbol) → Stops is_named ts → Refuses a_name limit Unexpected ts ts
refuses_name limit ts absent = refuses_here a_name name_law limit ts (λ n x after other f stops e same. no_name x ts absent (sym same ∙ ap next (sym e)))
  where
    no_name : (x : Name) (ts : List Symbol) → Stops is_named ts → next ts ≡ Some (Named x) → ⊥
    no_name x [] s e = cc
    no_name x (t ∷ ts) s e = let same : t ≡ Named x = cc in let yes_named : is_named t ≡ true = ap is_named same in cc

-- a target without a dot, and with one
pub reads_target : (limit : ℕ) (n : Name) (ts rest : List Symbol) → Reads a_name limit ts n rest → (next rest ≡ Some (Mark Dot) → ⊥) → Reads a_target limit ts (target.Name n) rest
reads_target limit n ts rest h absent = record { whole = tt; spelled = h.spelled; longest = not_next Dot rest absent }

pub reads_pin : (limit : ℕ) (n q : Name) (ts mid after rest : List Symbol) → Reads a_name limit ts n mid → mid ≡ Mark Dot ∷ after → Reads a_name limit after q rest → Reads a_target limit ts (target.Pin n q) rest
reads_pin limit n q ts mid after rest h e k = record {
  whole = tt;
  spelled = h.spelled ∙ ap (λ l. Named n ∷ l) e ∙ ap (λ l. Named n ∷ Mark Dot ∷ l) k.spelled;
  longest = k.longest;
}

begins_target : (n : ℕ) (front : List Symbol) → Begins a_name n front → Begins a_target n front
begins_target n front h = record { tree = target.Name h.tree; more = h.more; whole = tt; proper = h.proper; spelled = h.spelled }

pub refuses_target : (limit : ℕ) (ts : List Symbol) → Carries a_name a_target limit limit ts ts
refuses_target limit ts flaw rest h = record {
  front = h.front;
  split = h.split;
  begins = begins_target limit h.front h.begins;
  blocks = λ n out. elim [
    | target.Name m ↦ λ after other f stops e same. h.blocks n out m after other tt (never_stops after) e same
    | target.Pin m q ↦ λ after other f stops e same. h.blocks n out m (Mark Dot ∷ Named q ∷ after) other tt refl e same
  ];
  bracket = h.bracket;
  deeper = elim flaw as (λ r. Deeper a_name r limit (h.front ++ take 1 rest) → Deeper a_target r limit (h.front ++ take 1 rest)) [ Unexpected ↦ λ d. tt | TooDeep ↦ λ d. begins_target (suc limit) (h.front ++ take 1 rest) d ] h.deeper;
}

begins_pin : (n : ℕ) (m : Name) (front : List Symbol) → Begins a_name n front → Begins a_target n (Named m ∷ Mark Dot ∷ front)
begins_pin n m front h = record { tree = target.Pin m h.tree; more = h.more; whole = tt; proper = h.proper; spelled = ap (λ l. Named m ∷ Mark Dot ∷ l) h.spelled }

tail_of : (t u : Symbol) (xs ys : List Symbol) → t ∷ xs ≡ u ∷ ys → xs ≡ ys
tail_of t u xs ys e = cc

pub refuses_pin : (limit : ℕ) (n : Name) (ts mid after : List Symbol) → Reads a_name limit ts n mid → mid ≡ Mark Dot ∷ after → Carries a_name a_target limit limit after ts
refuses_pin limit n ts mid after k is flaw rest h = record {
  front = Named n ∷ Mark Dot ∷ h.front;
  split = k.spelled ∙ ap (λ l. Named n ∷ l) is ∙ ap (λ l. Named n ∷ Mark Dot ∷ l) h.split;
  begins = begins_pin limit n h.front h.begins;
  blocks = λ d out. elim [
    | target.Name m ↦ λ more other f stops e same. no_dot more (h.front ++ other) stops (tail_of (Named m) (Named n) more (Mark Dot ∷ (h.front ++ other)) e)
    | target.Pin m q ↦ λ more other f stops e same. h.blocks d out q more other tt (never_stops more) (tail_of (Mark Dot) (Mark Dot) (Named q ∷ more) (h.front ++ other) (tail_of (Named m) (Named n) (Mark Dot ∷ Named q ∷ more) (Mark Dot ∷ (h.front ++ other)) e)) same
  ];
  bracket = h.bracket;
  deeper = elim flaw as (λ r. Deeper a_name r limit (h.front ++ take 1 rest) → Deeper a_target r limit (Named n ∷ Mark Dot ∷ (h.front ++ take 1 rest))) [ Unexpected ↦ λ d. tt | TooDeep ↦ λ d. begins_pin (suc limit) n (h.front ++ take 1 rest) d ] h.deeper;
}

or_both : (a b : Bool) → a ≡ false → b ≡ false → a || b ≡ false
or_both false b p q = q
or_both true b p q = p

pub stops_other : (ts : List Symbol) → (next ts ≡ Some (Mark LeftBracket) → ⊥) → Stops is_literal ts → Stops is_other ts
stops_other [] absent s = tt
stops_other (t ∷ ts) absent s = or_both (is_mark LeftBracket t) (is_literal t) (not_next LeftBracket (t ∷ ts) absent) s

pub reads_literal : (limit : ℕ) (b : Bool) (p : Place) (ts rest : List Symbol) → ts ≡ Truth b p ∷ rest → Reads a_factor limit ts (Literal b p) rest
reads_literal limit b p ts rest e = record { whole = tt; spelled = e; longest = never_stops rest }

pub reads_time : (limit : ℕ) (t : ℕ) (p : Place) (ts rest : List Symbol) → ts ≡ Duration t p ∷ rest → Reads a_factor limit ts (Time t p) rest
reads_time limit t p ts rest e = record { whole = tt; spelled = e; longest = never_stops rest }

-- a name, or a pin of an instance, as a factor
abbrev pub operand : Target → FactorTree
operand (target.Name n) = Signal n
operand (target.Pin n q) = Pin n q

pub reads_operand : (limit : ℕ) (x : Target) (f : FactorTree) (ts rest : List Symbol) → operand x ≡ f → Reads a_target limit ts x rest → Reads a_factor limit ts f rest
reads_operand limit x f ts rest e h = subst (λ z. Reads a_factor limit ts z rest) e (as_factor x h)
  where
    as_factor : (x : Target) → Reads a_target limit ts x rest → Reads a_factor limit ts (operand x) rest
    as_factor (target.Name n) h = record { whole = tt; spelled = h.spelled; longest = h.longest }
    as_factor (target.Pin n q) h = record { whole = tt; spelled = h.spelled; longest = h.longest }

begins_operand : (n : ℕ) (front : List Symbol) → Begins a_target n front → Begins a_factor n front
begins_operand n front h = of_target h.tree h.spelled
  where
    of_target : (x : Target) → target_spelt x ≡ front ++ h.more → Begins a_factor n front
    of_target (target.Name m) e = record { tree = Signal m; more = h.more; whole = tt; proper = h.proper; spelled = e }
    of_target (target.Pin m q) e = record { tree = Pin m q; more = h.more; whole = tt; proper = h.proper; spelled = e }

blocks_operand : (n : ℕ) (front rest : List Symbol) → Stops is_other (front ++ rest) → Blocks a_target n front rest → Blocks a_factor n front rest
blocks_operand n front rest other_stops blocks (Signal k) after other f stops e same = blocks (target.Name k) after other tt stops e same
blocks_operand n front rest other_stops blocks (Pin k q) after other f stops e same = blocks (target.Pin k q) after other tt stops e same
blocks_operand n front rest other_stops blocks (Literal b p) after other f stops e same = let s = subst (Stops is_other) (sym e) (stops_alike is_other front rest other other_stops same) in cc
blocks_operand n front rest other_stops blocks (Time t p) after other f stops e same = let s = subst (Stops is_other) (sym e) (stops_alike is_other front rest other other_stops same) in cc
blocks_operand n front rest other_stops blocks (Group u) after other f stops e same = let s = subst (Stops is_other) (sym e) (stops_alike is_other front rest other other_stops same) in cc

pub refuses_operand : (limit : ℕ) (ts : List Symbol) → Stops is_other ts → Carries a_target a_factor limit limit ts ts
refuses_operand limit ts other_stops flaw rest h = record {
  front = h.front;
  split = h.split;
  begins = begins_operand limit h.front h.begins;
  blocks = λ n out. blocks_operand n h.front rest (subst (Stops is_other) h.split other_stops) (h.blocks n out);
  bracket = h.bracket;
  deeper = elim flaw as (λ r. Deeper a_target r limit (h.front ++ take 1 rest) → Deeper a_factor r limit (h.front ++ take 1 rest)) [ Unexpected ↦ λ d. tt | TooDeep ↦ λ d. begins_operand (suc limit) (h.front ++ take 1 rest) d ] h.deeper;
}

-- a sum and its closing bracket
abbrev pub a_group : Phrase (SumTree × Unit {0})
a_group = a_sum then just (Mark RightBracket)

pub group_joint : Joint a_sum (just (Mark RightBracket))
group_joint = record { before = sum_law; behind = just_lawful (Mark RightBracket) tt; meets = sum_meets (Mark RightBracket) refl refl refl }

reads_group : (limit : ℕ) (s : SumTree) (ts inside rest : List Symbol) → ts ≡ Mark LeftBracket ∷ inside → Reads a_group limit inside (s, tt) rest → Reads a_factor (suc limit) ts (Group s) rest
reads_group limit s ts inside rest e h = record {
  whole = h.whole.0;
  spelled = e ∙ ap (λ l. Mark LeftBracket ∷ l) (h.spelled ∙ append_assoc (a_sum.spell s) (Mark RightBracket ∷ []) rest) ∙ sym (group_spelt s rest);
  longest = never_stops rest;
}

begins_group : (n : ℕ) (front : List Symbol) → Begins a_group n front → Begins a_factor (suc n) (Mark LeftBracket ∷ front)
begins_group n front h = record {
  tree = Group h.tree.0;
  more = h.more;
  whole = h.whole.0;
  proper = h.proper;
  spelled = ap (λ l. Mark LeftBracket ∷ l) (ap (λ l. l ++ (Mark RightBracket ∷ [])) (sum_spelt_lem h.tree.0) ∙ h.spelled);
}

blocks_group : (n : ℕ) (front rest : List Symbol) → ((d : ℕ) → suc d ≡ n → Blocks a_group d front rest) → Blocks a_factor n (Mark LeftBracket ∷ front) rest
blocks_group zero front rest blocks (Group s) after other f stops e same = absurd f
blocks_group (suc n) front rest blocks (Group s) after other f stops e same =
    blocks n refl (s, tt) after other (f, tt) (never_stops after) (append_assoc (a_sum.spell s) (Mark RightBracket ∷ []) after ∙ tail_equal (Mark LeftBracket) (a_sum.spell s ++ (Mark RightBracket ∷ after)) (front ++ other) (sym (group_spelt s after) ∙ e)) same
blocks_group n front rest blocks x after other f stops e same = cc

ruled_out : (flaw : Flaw) (limit n d : ℕ) → suc d ≡ n → IsRuledOut flaw (suc limit) n → IsRuledOut flaw limit d
ruled_out Unexpected limit n d e out = tt
ruled_out TooDeep limit n d e out = omega arith

refuses_group : (limit : ℕ) (ts inside : List Symbol) → ts ≡ Mark LeftBracket ∷ inside → Carries a_group a_factor limit (suc limit) inside ts
refuses_group limit ts inside is flaw rest h = record {
  front = Mark LeftBracket ∷ h.front;
  split = is ∙ ap (λ l. Mark LeftBracket ∷ l) h.split;
  begins = begins_group limit h.front h.begins;
  blocks = λ n out. blocks_group n h.front rest (λ d e. h.blocks d (ruled_out flaw limit n d e out));
  bracket = h.bracket;
  deeper = elim flaw as (λ r. Deeper a_group r limit (h.front ++ take 1 rest) → Deeper a_factor r (suc limit) (Mark LeftBracket ∷ (h.front ++ take 1 rest))) [ Unexpected ↦ λ d. tt | TooDeep ↦ λ d. begins_group (suc limit) (h.front ++ take 1 rest) d ] h.deeper;
}

no_group : (n : ℕ) (f : FactorTree) (r : List Symbol) → n ≤ 0 → FactorFits n f → next (factor_spelt f ++ r) ≡ Some (Mark LeftBracket) → ⊥
no_group zero (Group s) r le h e = absurd h
no_group (suc n) (Group s) r le h e = absurd (omega arith)
no_group n x r le h e = cc

-- with no more groups allowed
refuses_deep : (ts inside : List Symbol) → ts ≡ Mark LeftBracket ∷ inside → Refuses a_factor 0 TooDeep ts ts
refuses_deep ts inside is = record {
  front = [];
  split = refl;
  begins = record { tree = factor_law.some; more = factor_spelt factor_law.some; whole = factor_law.some_fits; proper = factor_law.some_proper; spelled = refl };
  blocks = λ n out x after other f stops e same. no_group n x after (omega arith) f (ap next e ∙ same ∙ ap next is);
  bracket = ap next is;
  deeper = subst (λ l. Begins a_factor 1 (take 1 l)) (sym is) (begins_group 0 [] (record {
    tree = (sum_law.some, tt);
    more = a_group.spell (sum_law.some, tt);
    whole = (sum_law.some_fits, tt);
    proper = proper_group;
    spelled = refl;
  }));
}
  where
    proper_group : AllProper (a_group.spell (sum_law.some, tt))
    proper_group = proper_append (a_sum.spell sum_law.some) (Mark RightBracket ∷ []) sum_law.some_proper (tt, tt)

pub deep_refuses : (limit : ℕ) (ts inside : List Symbol) → limit ≡ 0 → ts ≡ Mark LeftBracket ∷ inside → Refuses a_factor limit TooDeep ts ts
deep_refuses limit ts inside e opens = subst (λ n. Refuses a_factor n TooDeep ts ts) (sym e) (refuses_deep ts inside opens)

-- a group's parts, where one more group is allowed than in them
module _ (limit k : ℕ) (more : suc k ≡ limit) (ts inside : List Symbol) (opens : ts ≡ Mark LeftBracket ∷ inside) where
  in_group : Carries a_group a_factor k limit inside ts
  in_group flaw left h = subst (λ n. Refuses a_factor n flaw ts left) more (refuses_group k ts inside opens flaw left h)

  pub group_refuses_sum : Carries a_sum a_factor k limit inside ts
  group_refuses_sum flaw left h = in_group flaw left (in_first group_joint k inside flaw left h)

  pub group_refuses_end : (mid : List Symbol) (s : SumTree) → Reads a_sum k inside s mid → Carries (just (Mark RightBracket)) a_factor k limit mid ts
  group_refuses_end mid s r flaw left h = in_group flaw left (in_second group_joint k inside mid s r flaw left h)

  pub group_reads : (mid rest : List Symbol) (s : SumTree) (f : FactorTree) → f ≡ Group s → Reads a_sum k inside s mid → Reads (just (Mark RightBracket)) k mid tt rest → Reads a_factor limit ts f rest
  group_reads mid rest s f e r h = subst (λ z. Reads a_factor limit ts z rest) (sym e) (subst (λ n. Reads a_factor n ts (Group s) rest) more (reads_group k s ts inside rest opens (reads_both group_joint k inside mid rest s tt r h)))

pub product_starts : (limit : ℕ) (ts rest : List Symbol) (f : FactorTree) → Reads a_factor limit ts f rest → ReadsSome (behind (Mark And) a_factor) limit (Mark And ∷ ts) (f ∷ []) rest
product_starts = row_starts (Mark And) (is_mark And) a_factor factor_law refl factor_parts tt factors product_of factors-product_of product_of-factors

pub product_more : (limit : ℕ) (ts rest mid left : List Symbol) (fs : List FactorTree) (f : FactorTree) → ReadsSome (behind (Mark And) a_factor) limit (Mark And ∷ ts) fs rest → rest ≡ Mark And ∷ mid → Reads a_factor limit mid f left → ReadsSome (behind (Mark And) a_factor) limit (Mark And ∷ ts) (fs ++ f ∷ []) left
product_more = row_more (Mark And) (is_mark And) a_factor factor_law refl factor_parts tt factors product_of factors-product_of product_of-factors

pub product_reads : (limit : ℕ) (ts rest : List Symbol) (fs : List FactorTree) → 0 < length fs → ReadsSome (behind (Mark And) a_factor) limit (Mark And ∷ ts) fs rest → (next rest ≡ Some (Mark And) → ⊥) → Reads a_product limit ts (product_of fs) rest
product_reads limit ts rest fs some so_far absent = row_reads (Mark And) (is_mark And) a_factor factor_law refl factor_parts tt factors product_of factors-product_of product_of-factors limit ts rest fs some so_far (not_next And rest absent)

pub product_refuses_first : (limit : ℕ) (ts : List Symbol) → Carries a_factor a_product limit limit ts ts
product_refuses_first limit ts flaw rest h = row_refuses_first (Mark And) (is_mark And) a_factor factor_law refl factor_parts tt factors product_of factors-product_of product_of-factors limit flaw ts rest h

pub product_refuses : (limit : ℕ) (ts rest mid : List Symbol) (fs : List FactorTree) → ReadsSome (behind (Mark And) a_factor) limit (Mark And ∷ ts) fs rest → rest ≡ Mark And ∷ mid → Carries a_factor a_product limit limit mid ts
product_refuses limit ts rest mid fs so_far e flaw left h = row_refuses (Mark And) (is_mark And) a_factor factor_law refl factor_parts tt factors product_of factors-product_of product_of-factors limit flaw ts rest mid left fs so_far e h

pub sum_starts : (limit : ℕ) (ts rest : List Symbol) (p : ProductTree) → Reads a_product limit ts p rest → ReadsSome (behind (Mark Or) a_product) limit (Mark Or ∷ ts) (p ∷ []) rest
sum_starts = row_starts (Mark Or) (is_mark Or) a_product product_law refl product_parts tt products sum_of products-sum_of sum_of-products

pub sum_more : (limit : ℕ) (ts rest mid left : List Symbol) (ps : List ProductTree) (p : ProductTree) → ReadsSome (behind (Mark Or) a_product) limit (Mark Or ∷ ts) ps rest → rest ≡ Mark Or ∷ mid → Reads a_product limit mid p left → ReadsSome (behind (Mark Or) a_product) limit (Mark Or ∷ ts) (ps ++ p ∷ []) left
sum_more = row_more (Mark Or) (is_mark Or) a_product product_law refl product_parts tt products sum_of products-sum_of sum_of-products

pub sum_reads : (limit : ℕ) (ts rest : List Symbol) (ps : List ProductTree) → 0 < length ps → ReadsSome (behind (Mark Or) a_product) limit (Mark Or ∷ ts) ps rest → (next rest ≡ Some (Mark Or) → ⊥) → Reads a_sum limit ts (sum_of ps) rest
sum_reads limit ts rest ps some so_far absent = row_reads (Mark Or) (is_mark Or) a_product product_law refl product_parts tt products sum_of products-sum_of sum_of-products limit ts rest ps some so_far (not_next Or rest absent)

pub sum_refuses_first : (limit : ℕ) (ts : List Symbol) → Carries a_product a_sum limit limit ts ts
sum_refuses_first limit ts flaw rest h = row_refuses_first (Mark Or) (is_mark Or) a_product product_law refl product_parts tt products sum_of products-sum_of sum_of-products limit flaw ts rest h

pub sum_refuses : (limit : ℕ) (ts rest mid : List Symbol) (ps : List ProductTree) → ReadsSome (behind (Mark Or) a_product) limit (Mark Or ∷ ts) ps rest → rest ≡ Mark Or ∷ mid → Carries a_product a_sum limit limit mid ts
sum_refuses limit ts rest mid ps so_far e flaw left h = row_refuses (Mark Or) (is_mark Or) a_product product_law refl product_parts tt products sum_of products-sum_of sum_of-products limit flaw ts rest mid left ps so_far e h
