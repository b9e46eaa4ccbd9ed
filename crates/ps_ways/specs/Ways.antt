-- What a way asks of a step, and which way is taken.
use Rattle.std.specs.Prelude.{ℕ, true, ◌+◌, ◌&&◌, ◌==◌, not, nat_le, List, [], ◌∷◌, if◌then◌else◌}
use Rattle.ps_model.specs.Table.{Conditions, Guard, Rule}
use Rattle.ps_ways.specs.declared.way.Ask.{Ask}
use Rattle.ps_ways.specs.declared.way.Ask.TheVariants.{Pin, Edge, Held, Rise, Elapsed, NoMode, OneMode}
use Rattle.ps_ways.specs.declared.way.Ask.TheVariants.{ManyModes, LatchedMode}
use Rattle.ps_ways.specs.declared.way.Literal.{Literal}
use Rattle.ps_ways.specs.declared.way.Literal.TheVariants.{Any, Is, Not}
use Rattle.ps_ways.specs.declared.way.Way.{Way}

-- what is asked holds of these conditions
abbrev pub asks : Ask → Guard
asks (Pin j) c = c.pin j
asks Edge c = c.edge
asks Held c = c.static
asks Rise c = c.rise
asks Elapsed c = c.elapsed
asks NoMode c = c.modes == 0
asks OneMode c = c.modes == 1
asks ManyModes c = nat_le 2 c.modes
asks LatchedMode c = c.exact

-- a literal holds
abbrev pub meets : Literal → Guard
meets Any c = true
meets (Is a) c = asks a c
meets (Not a) c = not (asks a c)

-- Up to three literals hold: nothing is asked from the first `Any` on.
abbrev pub meets_all : (first second third : Literal) → Guard
meets_all Any second third c = true
meets_all first Any third c = meets first c
meets_all first second Any c = meets first c && meets second c
meets_all first second third c = meets first c && (meets second c && meets third c)

-- all that a way asks holds
abbrev pub holds : Way → Guard
holds w = meets_all w.first w.second w.third

-- The number of the guard by which a state is left: that of the first way of the state that holds, and 0 where none
-- does.
abbrev pub taken : List Way → (state : ℕ) → Conditions → ℕ
taken [] q c = 0
taken (w ∷ ways) q c = if w.state == q && holds w c then w.number else taken ways q c

-- The number of the first rule whose guard holds, where the first of these has number n, and 0 where none does.
abbrev pub first_rule : (n : ℕ) → List Rule → Conditions → ℕ
first_rule n [] c = 0
first_rule n (r ∷ rules) c = if r.guard c then n else first_rule (1 + n) rules c
