-- The fields and forms that are left give the same as all of them.
use mathlib.Core.Path.{◌≡◌}
use lib.ListN.{drop}
use Rattle.lines.specs.Parts.{split}
use Rattle.grammar.specs.Byte.{tab}
use Rattle.grammar.specs.Line.{formed}
use Rattle.grammar.specs.Field.{forms_of}
use Rattle.grammar.proofs.Lines.{left_parts}
use Rattle.grammar.proofs.are_fields.Given as goal

abbrev pub invariant-loop-form : goal.invariant-loop-form
invariant-loop-form l = formed (left_parts l.left) (forms_of (drop l.form-index l.forms)) ≡ formed (split tab l.fn.fields) (forms_of l.fn.forms)
