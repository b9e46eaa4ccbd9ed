-- Apparatus: the parts of an idea, as the code puts them.
use Rattle.std.specs.Prelude.{ℕ, List, Option}
use Rattle.ps_ways.specs.declared.condition.Condition.{Condition}
use Rattle.ps_bench_cover.specs.Ideas.{literal_before, literal_now, literal_rest}
use Rattle.ps_bench_cover.specs.declared.ideas.Called.{Called}
use Rattle.ps_bench_cover.specs.declared.ideas.Share.{Share}
use Rattle.ps_bench_cover.specs.declared.ideas.Share.TheVariants.{Rest, Before, Now}

-- a share of what a literal asks
abbrev pub share_text : Called → Share → Option Condition → List ℕ
share_text c Rest o = literal_rest c.app.now c.kind c.args.now o
share_text c Before o = literal_before c.app.now c.kind c.args.now o
share_text c Now o = literal_now c.app.now c.kind c.args.now o
