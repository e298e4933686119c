-- "Each name shown is the part of the table file where it was declared."
-- Assumes nothing.
use Rattle.std.specs.Prelude.{◌+◌, length}
use Rattle.lines.specs.Parts.{Piece}
use Rattle.lines.specs.Part.{Part}
use Rattle.grammar.specs.Line.{field, name_in}

-- the name of an F, S or T line stands after the line's first field, the letter, and a tab
unfoldable pub part_of : Piece → Part
unfolding field name_in
part_of l = record { start = l.start + length (field l.bytes 0) + 1; size = length (name_in l.bytes) }
