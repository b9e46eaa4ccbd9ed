-- Symbols are read as each phrase of the grammar, or refused.
use Rattle.std.proofs.Common.{◌≡◌, ℕ, zero, suc, inl, inr, Bool, true, false, List, [], ◌∷◌, refl, sym, subst}
use Rattle.ps_parser.specs.declared.stop.Flaw.TheVariants.{Unexpected, TooDeep}
use Rattle.ps_parser.specs.declared.sign.Sign.TheVariants as sign
use Rattle.ps_parser.specs.declared.name.Name.{Name}
use Rattle.ps_parser.specs.declared.section.Part.TheVariants as part
use Rattle.ps_parser.specs.declared.statement.Target.TheVariants as target
use Rattle.ps_parser.specs.declared.heads.Heads.{Heads}
use Rattle.ps_parser.specs.Symbol.{Symbol, Mark, Named, Truth, Duration, is_mark, is_named}
use Rattle.ps_parser.specs.Tree.{Literal, Time, Group, factors, products, product_of, sum_of}
use Rattle.ps_parser.specs.Spelt.{head_sign, foot_sign}
use Rattle.ps_parser.specs.Phrase.{Stops, Reads, just}
use Rattle.ps_parser.specs.Grammar.{is_other, a_factor, a_product, a_sum, a_name, a_target, a_value, pin_end, an_argument, arguments, any_arguments, call_end, a_tail, a_statement, names, a_declaration, a_part, is_part, declarations, a_section, sections, statements, a_source}
use Rattle.ps_parser.specs.Parses.{stands_next}
use Rattle.ps_parser.proofs.Choices.{refuses_present, reads_absent, reads_present}
use Rattle.ps_parser.proofs.Expressions.{factor_parts, product_parts, factors-product_of, products-sum_of, product_of-factors, sum_of-products, name_law, factor_law, product_law, refuses_name, reads_name, reads_target, reads_pin, refuses_target, refuses_pin, stops_other, reads_literal, reads_time, operand, reads_operand, refuses_operand, deep_refuses, group_refuses_sum, group_refuses_end, group_reads}
use Rattle.ps_parser.proofs.Rows.{first_next, stops_next}
use Rattle.ps_parser.proofs.Sentences.{value_end_joint, value_joint, value_twin, pin_end_joint, argument_end_joint, argument_joint, argument_twin, argument_law, argument_ends, open_arguments, some_argument, call_close_joint, call_end_joint, statement_joint, statement_twin, statement_law, statement_starts, name_ends, type_end_joint, names_end_joint, declaration_joint, declaration_twin, declaration_law, declaration_starts, reads_part, refuses_part, section_end_joint, section_joint, section_twin, section_law, section_starts, source_foot_joint, source_body_joint, source_name_joint, source_joint, source_twin}
use Rattle.ps_parser.proofs.Signs.{not_next}
use Rattle.ps_parser.proofs.Tails.{pin_refuses, pin_reads, call_refuses, call_reads, value_refuses, value_reads}
use Rattle.ps_language_laws.proofs.Deciding.{Decided, reads, refuses, carried, both_decided, seen_decided, IsNext, stands, absent, is_next, sign_decided, row_decided, many_decided}

-- ---- names and targets

pub name_decided : (n : ℕ) (ts : List Symbol) → Decided a_name n ts
name_decided n [] = refuses Unexpected [] (refuses_name n [] tt)
name_decided n (Named m ∷ ts) = reads m ts (reads_name n m (Named m ∷ ts) ts refl)
name_decided n (Mark s ∷ ts) = refuses Unexpected (Mark s ∷ ts) (refuses_name n (Mark s ∷ ts) refl)
name_decided n (Truth b p ∷ ts) = refuses Unexpected (Truth b p ∷ ts) (refuses_name n (Truth b p ∷ ts) refl)
name_decided n (Duration t p ∷ ts) = refuses Unexpected (Duration t p ∷ ts) (refuses_name n (Duration t p ∷ ts) refl)

target_decided : (n : ℕ) (ts : List Symbol) → Decided a_target n ts
target_decided n ts = carried a_name a_target n n ts ts (refuses_target n ts) (λ m mid r. behind_name m mid r (is_next sign.Dot mid)) (name_decided n ts)
  where
    behind_name : (m : Name) (mid : List Symbol) → Reads a_name n ts m mid → IsNext sign.Dot mid → Decided a_target n ts
    behind_name m mid r (absent none) = reads (target.Name m) mid (reads_target n m ts mid r none)
    behind_name m mid r (stands after e) =
        carried a_name a_target n n after ts (refuses_pin n m ts mid after r e) (λ q rest k. reads (target.Pin m q) rest (reads_pin n m q ts mid after rest r e k)) (name_decided n after)

-- ---- factors, products and sums

-- a name or the output of an instance, where neither a literal nor a bracket stands next
operand_decided : (n : ℕ) (ts : List Symbol) → Stops is_other ts → Decided a_factor n ts
operand_decided n ts other =
    carried a_target a_factor n n ts ts (refuses_operand n ts other) (λ x rest r. reads (operand x) rest (reads_operand n x (operand x) ts rest refl r)) (target_decided n ts)

-- a group, where one more is allowed
group_decided : (k : ℕ) → ((ts : List Symbol) → Decided a_sum k ts) → (inside : List Symbol) → Decided a_factor (suc k) (Mark sign.LeftBracket ∷ inside)
group_decided k sums inside =
    let ts = Mark sign.LeftBracket ∷ inside in
    carried a_sum a_factor k (suc k) inside ts (group_refuses_sum (suc k) k refl ts inside refl)
    (λ s mid r. carried (just (Mark sign.RightBracket)) a_factor k (suc k) mid ts (group_refuses_end (suc k) k refl ts inside refl mid s r)
    (λ u rest e. reads (Group s) rest (group_reads (suc k) k refl ts inside refl mid rest s (Group s) refl r e)) (sign_decided sign.RightBracket k mid)) (sums inside)

-- a factor, where a group is decided
factor_decided : (n : ℕ) → ((inside : List Symbol) → Decided a_factor n (Mark sign.LeftBracket ∷ inside)) → (ts : List Symbol) → Decided a_factor n ts
factor_decided n group [] = operand_decided n [] tt
factor_decided n group (Named m ∷ ts) = operand_decided n (Named m ∷ ts) refl
factor_decided n group (Truth b p ∷ ts) = reads (Literal b p) ts (reads_literal n b p (Truth b p ∷ ts) ts refl)
factor_decided n group (Duration t p ∷ ts) = reads (Time t p) ts (reads_time n t p (Duration t p ∷ ts) ts refl)
factor_decided n group (Mark s ∷ ts) = by (is_next sign.LeftBracket (Mark s ∷ ts))
  where
    by : IsNext sign.LeftBracket (Mark s ∷ ts) → Decided a_factor n (Mark s ∷ ts)
    by (stands inside e) = subst (Decided a_factor n) (sym e) (group inside)
    by (absent none) = operand_decided n (Mark s ∷ ts) (stops_other (Mark s ∷ ts) none refl)

product_decided : (n : ℕ) → ((ts : List Symbol) → Decided a_factor n ts) → (ts : List Symbol) → Decided a_product n ts
product_decided n each = row_decided sign.And a_factor factor_law refl factor_parts factors product_of factors-product_of product_of-factors n each

sum_of_products : (n : ℕ) → ((ts : List Symbol) → Decided a_factor n ts) → (ts : List Symbol) → Decided a_sum n ts
sum_of_products n each = row_decided sign.Or a_product product_law refl product_parts products sum_of products-sum_of sum_of-products n (product_decided n each)

pub sum_decided : (n : ℕ) (ts : List Symbol) → Decided a_sum n ts
sum_decided zero = sum_of_products zero (factor_decided zero (λ inside. refuses TooDeep (Mark sign.LeftBracket ∷ inside) (deep_refuses zero (Mark sign.LeftBracket ∷ inside) inside refl refl)))
sum_decided (suc k) = sum_of_products (suc k) (factor_decided (suc k) (group_decided k (sum_decided k)))

-- ---- statements

module _ (n : ℕ) where
  value_decided : (ts : List Symbol) → Decided a_value n ts
  value_decided ts =
      seen_decided value_twin n ts
      (both_decided value_joint n ts (sign_decided sign.Assign n ts) (λ mid. both_decided value_end_joint n mid (sum_decided n mid) (λ rest. sign_decided sign.Semicolon n rest)))

  pin_decided : (ts : List Symbol) → Decided pin_end n ts
  pin_decided ts = both_decided pin_end_joint n ts (name_decided n ts) value_decided

  argument_decided : (ts : List Symbol) → Decided an_argument n ts
  argument_decided ts =
      seen_decided argument_twin n ts
      (both_decided argument_joint n ts (name_decided n ts) (λ mid. both_decided argument_end_joint n mid (sign_decided sign.Assign n mid) (λ rest. sum_decided n rest)))

  arguments_decided : (ts : List Symbol) → Decided arguments n ts
  arguments_decided = row_decided sign.Comma an_argument argument_law refl argument_ends (λ xs. xs) (λ xs. xs) (λ xs. refl) (λ xs. refl) n argument_decided

  any_arguments_decided : (ts : List Symbol) → Decided any_arguments n ts
  any_arguments_decided ts = by (stands_next is_named ts) refl
    where
      by : (b : Bool) → stands_next is_named ts ≡ b → Decided any_arguments n ts
      by false is = reads [] ts (reads_absent arguments is_named open_arguments some_argument n ts (stops_next is_named ts is))
      by true is =
          carried arguments any_arguments n n ts ts (refuses_present arguments is_named open_arguments some_argument n ts (first_next is_named ts is))
          (λ xs rest r. reads xs rest (reads_present arguments is_named open_arguments some_argument n ts rest xs r)) (arguments_decided ts)

  call_decided : (ts : List Symbol) → Decided call_end n ts
  call_decided ts =
      both_decided call_end_joint n ts (any_arguments_decided ts)
      (λ mid. both_decided call_close_joint n mid (sign_decided sign.RightBracket n mid) (λ rest. sign_decided sign.Semicolon n rest))

  tail_decided : (ts : List Symbol) → Decided a_tail n ts
  tail_decided ts = by (is_next sign.Dot ts) (is_next sign.LeftBracket ts)
    where
      by : IsNext sign.Dot ts → IsNext sign.LeftBracket ts → Decided a_tail n ts
      by (stands after e) _ = carried pin_end a_tail n n after ts (pin_refuses n ts after e) (λ p rest r. reads (inl p) rest (pin_reads n ts after rest p e r)) (pin_decided after)
      by (absent no_dot) (stands after e) =
          carried call_end a_tail n n after ts (call_refuses n ts after e) (λ c rest r. reads (inr (inr c.0)) rest (call_reads n ts after rest c.0 e r)) (call_decided after)
      by (absent no_dot) (absent no_bracket) =
          carried a_value a_tail n n ts ts (value_refuses n ts (not_next sign.Dot ts no_dot) (not_next sign.LeftBracket ts no_bracket)) (λ s rest r. reads (inr (inl s)) rest (value_reads n ts rest s r)) (value_decided ts)

  statement_decided : (ts : List Symbol) → Decided a_statement n ts
  statement_decided ts = seen_decided statement_twin n ts (both_decided statement_joint n ts (name_decided n ts) tail_decided)

  statements_decided : (ts : List Symbol) → Decided statements n ts
  statements_decided = many_decided a_statement is_named statement_starts statement_law n statement_decided

  -- ---- declarations

  names_decided : (ts : List Symbol) → Decided names n ts
  names_decided = row_decided sign.Comma a_name name_law refl name_ends (λ xs. xs) (λ xs. xs) (λ xs. refl) (λ xs. refl) n (name_decided n)

  declaration_decided : (ts : List Symbol) → Decided a_declaration n ts
  declaration_decided ts =
      seen_decided declaration_twin n ts
      (both_decided declaration_joint n ts (names_decided ts)
      (λ mid. both_decided names_end_joint n mid (sign_decided sign.Colon n mid) (λ rest. both_decided type_end_joint n rest (name_decided n rest) (λ last. sign_decided sign.Semicolon n last))))

  declarations_decided : (ts : List Symbol) → Decided declarations n ts
  declarations_decided = many_decided a_declaration is_named declaration_starts declaration_law n declaration_decided

  part_decided : (ts : List Symbol) → Decided a_part n ts
  part_decided ts = by (is_next sign.VarInput ts) (is_next sign.VarOutput ts) (is_next sign.Var ts)
    where
      none_stands : (us : List Symbol) → Stops (is_mark sign.VarInput) us → Stops (is_mark sign.VarOutput) us → Stops (is_mark sign.Var) us → Stops is_part us
      none_stands [] a b c = tt
      none_stands (t ∷ us) a b c = cc

      by : IsNext sign.VarInput ts → IsNext sign.VarOutput ts → IsNext sign.Var ts → Decided a_part n ts
      by (stands rest e) _ _ = reads part.Input rest (reads_part n part.Input ts rest e)
      by (absent a) (stands rest e) _ = reads part.Output rest (reads_part n part.Output ts rest e)
      by (absent a) (absent b) (stands rest e) = reads part.Local rest (reads_part n part.Local ts rest e)
      by (absent a) (absent b) (absent c) =
          refuses Unexpected ts (refuses_part n ts (none_stands ts (not_next sign.VarInput ts a) (not_next sign.VarOutput ts b) (not_next sign.Var ts c)))

  section_decided : (ts : List Symbol) → Decided a_section n ts
  section_decided ts =
      seen_decided section_twin n ts
      (both_decided section_joint n ts (part_decided ts) (λ mid. both_decided section_end_joint n mid (declarations_decided mid) (λ rest. sign_decided sign.EndVar n rest)))

  sections_decided : (ts : List Symbol) → Decided sections n ts
  sections_decided = many_decided a_section is_part section_starts section_law n section_decided

  -- ---- sources

  pub source_decided : (h : Heads) (ts : List Symbol) → Decided (a_source h) n ts
  source_decided h ts =
      seen_decided source_twin n ts
      (both_decided (source_joint h) n ts (sign_decided (head_sign h) n ts)
      (λ a. both_decided (source_name_joint h) n a (name_decided n a)
      (λ b. both_decided (source_body_joint h) n b (sections_decided b)
      (λ c. both_decided (source_foot_joint h) n c (statements_decided c) (λ d. sign_decided (foot_sign h) n d)))))
