-- The text of a certificate.
use Rattle.std.specs.Prelude.{ℕ, List, [], ◌∷◌, ◌++◌, codes, decimal, map}
use Rattle.std.specs.List.{flat_map, join_with_byte}
use Rattle.ps_flow.specs.declared.certificate.CertLine.{CertLine}
use Rattle.ps_flow.specs.declared.certificate.LineRule.{LineRule}
use Rattle.ps_flow.specs.declared.certificate.LineRule.TheVariants.{Src, And, Or}
use Rattle.ps_flow.specs.declared.text.TheConstants.{SPACE, LINE_FEED}

-- The word of a rule.
abbrev pub rule_word : LineRule → List ℕ
rule_word Src = codes "SRC"
rule_word And = codes "AND"
rule_word Or = codes "OR"

-- the words of a line: its node, its rule and its premises
abbrev pub words_of : CertLine → List (List ℕ)
words_of l = decimal l.node ∷ rule_word l.rule ∷ map decimal l.premises

-- one space stands between two words
abbrev pub line_text : CertLine → List ℕ
line_text l = join_with_byte SPACE (words_of l)

-- each line ends with a line feed
abbrev pub written : List CertLine → List ℕ
written lines = flat_map (λ l. line_text l ++ LINE_FEED ∷ []) lines
