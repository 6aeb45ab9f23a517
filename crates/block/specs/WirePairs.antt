-- What a wire pair means.
use Rattle.std.specs.Prelude.{ℕ, Bool, List}
use Rattle.block.specs.declared.line.Line.{Line}
use Rattle.block.specs.Fields.{is_locked}
use Rattle.block.specs.Meaning.{Meaning}
use Rattle.block.specs.Consents.{consents_meaning}

-- the station's field is locked while the consent is out
abbrev pub line_out : Line → Bool
line_out l = is_locked l.station

-- n lines, each with its consent
abbrev pub wire_meaning : ℕ → List Line → Bool → Meaning
wire_meaning n ls w = consents_meaning line_out n ls w
