use Rattle.std.proofs.Common.{◌∙◌, sym}
use Rattle.outline.proofs.Names.{new_out, new_more, new_none, within_rest}
use Rattle.outline.proofs.are_new.Goals as goal

pub returns-then-is_some : goal.returns-then-is_some
returns-then-is_some c =
    sym (new_out c.args.file.now c.loop-first.rest.now c.in-Some.behind.now c.in-Some.first.now c.in-Some.ensures.cases.0
    c.of.ensures c.find.ensures c.is_some.ensures c.if-is_some.true) ∙ c.loop-first.invariant.tells

pub loop-first-preserved : goal.loop-first-preserved
loop-first-preserved c =
    record {
      within = within_rest c.args.file.now c.in-Some.first.now c.loop-first.rest.now c.in-Some.behind.now c.in-Some.ensures.cases.0 c.loop-first.invariant.within;
      tells = sym (new_more c.args.file.now c.loop-first.rest.now c.in-Some.behind.now c.in-Some.first.now c.in-Some.ensures.cases.0
          c.of.ensures c.find.ensures c.is_some.ensures c.if-is_some.false) ∙ c.loop-first.invariant.tells;
    }

pub returns : goal.returns
returns c = sym (new_none c.args.file.now c.loop-first.rest.now c.in_default.ensures.cases) ∙ c.loop-first.invariant.tells
