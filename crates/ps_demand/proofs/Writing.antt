-- What is left to write of a group.
use Rattle.std.proofs.Common.{◌≡◌, ℕ, Bool, true, false, List, [], ◌++◌, sym, ap, ◌∙◌, refl, append_assoc}
use Rattle.std.specs.Prelude.{codes}
use Rattle.ps_model.specs.Network.{Network}
use Rattle.ps_demand.specs.declared.join.Join.{Join}
use Rattle.ps_demand.specs.Requirement.{Requirement, Requirements, no_part, part}
use Rattle.ps_demand.specs.Texts.{joining_word, is_group, where_wanted, in_brackets, text, parts_text, further_text}

-- the text of the parts that are left, where others stand before them or not
abbrev pub left_text : Network → Join → Bool → Requirements → List ℕ
left_text net join true ds = further_text net join ds
left_text net join false ds = parts_text net join ds

-- where no part is left, nothing is
pub nothing_left : (net : Network) (join : Join) (behind : Bool) → left_text net join behind no_part ≡ []
nothing_left net join true = refl
nothing_left net join false = refl

-- the text that is left begins with that of the next part
left_first : (net : Network) (join : Join) (behind : Bool) (d : Requirement) (ds : Requirements) →
    left_text net join behind (part d ds)
    ≡ where_wanted behind (joining_word join) ++ (in_brackets (is_group d) (text net d) ++ further_text net join ds)
left_first net join true d ds = refl
left_first net join false d ds = refl

-- a part is written in four steps: the word, an opening bracket, its text, and a closing bracket
pub part_written : (net : Network) (join : Join) (behind : Bool) (d : Requirement) (ds : Requirements) (start word opened inside closed whole : List ℕ) →
    word ≡ start ++ where_wanted behind (joining_word join) → opened ≡ word ++ where_wanted (is_group d) (codes "(") → inside ≡ opened ++ text net d →
    closed ≡ inside ++ where_wanted (is_group d) (codes ")") → start ++ left_text net join behind (part d ds) ≡ whole →
    closed ++ further_text net join ds ≡ whole
part_written net join behind d ds start word opened inside closed whole first second third fourth before =
    let w = where_wanted behind (joining_word join) in
    let o = where_wanted (is_group d) (codes "(") in
    let t = text net d in
    let e = where_wanted (is_group d) (codes ")") in
    let rest = further_text net join ds in
    ap (λ b. b ++ rest) (fourth ∙ ap (λ b. b ++ e) (third ∙ ap (λ b. b ++ t) (second ∙ ap (λ b. b ++ o) first)))
    ∙ append_assoc (((start ++ w) ++ o) ++ t) e rest ∙ append_assoc ((start ++ w) ++ o) t (e ++ rest) ∙ append_assoc (start ++ w) o (t ++ (e ++ rest))
    ∙ append_assoc start w (o ++ (t ++ (e ++ rest)))
    ∙ ap (λ b. start ++ (w ++ b)) (sym (append_assoc o (t ++ e) rest ∙ ap (λ b. o ++ b) (append_assoc t e rest)))
    ∙ ap (λ b. start ++ b) (sym (left_first net join behind d ds)) ∙ before
