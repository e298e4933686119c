use native.Mathlib.Omega.{arith}
use mathlib.Core.Path.{refl}
use Rattle.shape.specs.Views.{table_of}
use Rattle.text.proofs.Whole.{found_room, from_clause, behind, header_room, from_header}
use Rattle.text.proofs.put_text.Goals as goal

pub put_lines-requires : goal.put_lines-requires
put_lines-requires c = (
  c.seek.ensures.inside,
  omega arith,
  found_room c.args.line refl c.if-line-gt0.true c.seek.ensures c.requires.1 c.requires.2 c.requires.3,
)

pub returns-then-line-gt0 : goal.returns-then-line-gt0
returns-then-line-gt0 c = from_clause refl c.if-line-gt0.true c.seek.ensures c.put_lines.ensures

pub put_lines-requires-2 : goal.put_lines-requires-2
put_lines-requires-2 c = (
  c.seek-2.ensures.inside,
  behind (table_of c.args.e.now) c.requires.0 c.requires.1 c.header_size-n.ensures c.if-n-text.false c.put_header-at.ensures,
  header_room (table_of c.args.e.now) c.requires.0 c.requires.1 c.header_size-n.ensures c.if-n-text.false
      c.put_header-at.ensures c.seek-2.ensures c.requires.2,
)

pub returns : goal.returns
returns c =
    from_header (table_of c.args.e.now) c.requires.0 c.requires.1 c.header_size-n.ensures c.if-n-text.false c.put_header-at.ensures
    c.if-line-gt0.false c.seek-2.ensures c.put_lines-2.ensures
