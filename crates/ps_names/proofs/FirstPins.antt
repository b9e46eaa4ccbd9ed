-- The first output of an instance has the number that the model gives it.
use Rattle.std.proofs.Common.{◌≡◌, ℕ, zero, suc, ◌+◌, Bool, true, false, cond, List, [], ◌∷◌, map, filter, take, refl, sym, ap, ◌∙◌, arith}
use Rattle.std.specs.Prelude.{count_by, sum_by}
use Rattle.std.proofs.lemmas.List.Sums.{sum_by-cons}
use Rattle.ps_names.specs.declared.entry.Entry.{Entry}
use Rattle.ps_names.specs.declared.entry.Sort.{Sort}
use Rattle.ps_names.specs.declared.entry.Sort.TheVariants.{InputSignal, OutputSignal, LocalSignal, Instance, Nothing}
use Rattle.ps_model.specs.declared.named.Instance as model_instance
use Rattle.ps_model.specs.Blocks.{output_count}
use Rattle.ps_names.specs.Names.{is_instance}
use Rattle.ps_names.specs.Stands.{instance_named, kind_of}
use Rattle.ps_names.specs.Limits.{outputs_of}

outputs_where : (s : Sort) → outputs_of s ≡ cond (is_instance s) (output_count (kind_of s)) 0
outputs_where (InputSignal t) = refl
outputs_where (OutputSignal t) = refl
outputs_where (LocalSignal t) = refl
outputs_where (Instance k) = refl
outputs_where Nothing = refl

abbrev brings : model_instance.Instance → ℕ
brings x = output_count x.kind

pub pins_before : (es : List Entry) (k : ℕ) →
    sum_by (λ e. outputs_of e.sort) (take k es) ≡ sum_by brings (take (count_by (λ e. is_instance e.sort) (take k es)) (map instance_named (filter (λ e. is_instance e.sort) es)))
pins_before [] zero = refl
pins_before [] (suc k) = refl
pins_before (e ∷ es) zero = refl
pins_before (e ∷ es) (suc k) = by (is_instance e.sort) refl (pins_before es k)
  where
    rest : List model_instance.Instance
    rest = map instance_named (filter (λ e. is_instance e.sort) es)

    n : ℕ
    n = count_by (λ e. is_instance e.sort) (take k es)

    by : (b : Bool) → is_instance e.sort ≡ b → sum_by (λ e. outputs_of e.sort) (take k es) ≡ sum_by brings (take (count_by (λ e. is_instance e.sort) (take k es)) (map instance_named (filter (λ e. is_instance e.sort) es))) →
        sum_by (λ e. outputs_of e.sort) (e ∷ take k es) ≡ sum_by brings (take (count_by (λ e. is_instance e.sort) (e ∷ take k es)) (map instance_named (filter (λ e. is_instance e.sort) (e ∷ es))))
    by true q h =
        let a : count_by (λ e. is_instance e.sort) (e ∷ take k es) ≡ suc (count_by (λ e. is_instance e.sort) (take k es)) =
        sum_by-cons (λ x. cond (is_instance x.sort) 1 0) e (take k es) ∙ ap (λ b. cond b 1 0 + count_by (λ e. is_instance e.sort) (take k es)) q ∙ omega arith in
        sum_by-cons (λ e. outputs_of e.sort) e (take k es) ∙ ap (λ m. m + sum_by (λ e. outputs_of e.sort) (take k es)) (outputs_where e.sort ∙ ap (λ b. cond b (output_count (kind_of e.sort)) 0) q)
        ∙ ap (λ m. output_count (kind_of e.sort) + m) h
        ∙ sym (ap (λ b. sum_by brings (take (count_by (λ e. is_instance e.sort) (e ∷ take k es)) (map instance_named (cond b (e ∷ filter (λ e. is_instance e.sort) es) (filter (λ e. is_instance e.sort) es))))) q
        ∙ ap (λ c. sum_by brings (take c (instance_named e ∷ map instance_named (filter (λ e. is_instance e.sort) es)))) a
        ∙ sum_by-cons brings (instance_named e) (take (count_by (λ e. is_instance e.sort) (take k es)) (map instance_named (filter (λ e. is_instance e.sort) es))))
    by false q h =
        let a : count_by (λ e. is_instance e.sort) (e ∷ take k es) ≡ count_by (λ e. is_instance e.sort) (take k es) =
        sum_by-cons (λ x. cond (is_instance x.sort) 1 0) e (take k es) ∙ ap (λ b. cond b 1 0 + count_by (λ e. is_instance e.sort) (take k es)) q ∙ omega arith in
        let z : outputs_of e.sort ≡ 0 = outputs_where e.sort ∙ ap (λ b. cond b (output_count (kind_of e.sort)) 0) q in
        sum_by-cons (λ e. outputs_of e.sort) e (take k es) ∙ ap (λ m. m + sum_by (λ e. outputs_of e.sort) (take k es)) z ∙ (let y : 0 + sum_by (λ e. outputs_of e.sort) (take k es) ≡ sum_by (λ e. outputs_of e.sort) (take k es) = omega arith in y)
        ∙ h
        ∙ sym (ap (λ b. sum_by brings (take (count_by (λ e. is_instance e.sort) (e ∷ take k es)) (map instance_named (cond b (e ∷ filter (λ e. is_instance e.sort) es) (filter (λ e. is_instance e.sort) es))))) q
        ∙ ap (λ c. sum_by brings (take c (map instance_named (filter (λ e. is_instance e.sort) es)))) a)
