use mathlib.Core.Path.{refl, ◌∙◌}
use Prim.Native.Nat.{◌-◌}
use native.Mathlib.Omega.{arith}
use lib.ListN.{length}
use Rattle.places.specs.ClausePlace.{literals, place_at}
use Rattle.shape.specs.Views.{source_of}
use Rattle.cursor.specs.Cursor.{pos_of}
use Rattle.text.proofs.Codes.{line_past, line_within, line_short, line_put}
use Rattle.text.proofs.put_line.Goals as goal

pub put_clause-requires : goal.put_clause-requires
put_clause-requires c =
    omega (
      arith,
      c.requires.1,
      line_within (literals (source_of c.args.e.now) (place_at (source_of c.args.e.now) (pos_of c.args.c)))
          (c.as_slice-clause.ensures.0 ∙ c.fill_codes.ensures) (length c.args.text.now - c.args.at) c.clause_fits.ensures c.if-clause_fits.true,
    )

pub returns-then-clause_fits : goal.returns-then-clause_fits
returns-then-clause_fits c = (
  line_short (literals (source_of c.args.e.now) (place_at (source_of c.args.e.now) (pos_of c.args.c)))
      (c.as_slice-clause.ensures.0 ∙ c.fill_codes.ensures) (length c.args.text.now - c.args.at) c.clause_fits.ensures c.if-clause_fits.true,
  line_put (literals (source_of c.args.e.now) (place_at (source_of c.args.e.now) (pos_of c.args.c)))
      (c.as_slice-clause.ensures.0 ∙ c.fill_codes.ensures) c.put_clause.ensures,
)

pub returns-else-clause_fits : goal.returns-else-clause_fits
returns-else-clause_fits c = (
  line_past (literals (source_of c.args.e.now) (place_at (source_of c.args.e.now) (pos_of c.args.c)))
      (c.as_slice-clause.ensures.0 ∙ c.fill_codes.ensures) (length c.args.text.now - c.args.at) c.clause_fits.ensures c.if-clause_fits.false,
  refl,
)
