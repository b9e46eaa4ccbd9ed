-- What is told of, as the code has it.
use Rattle.ps_cover.specs.Seen.{Known, known_in}
use Rattle.ps_cover.specs.declared.text.Told.{Told}

-- what is known by it
abbrev pub known_of : Told → Known
known_of t = known_in t.app.now t.exclusions.now.rows.items t.places.now t.cover.now
