use Rattle.std.proofs.Common.{◌≡◌, length}
use Rattle.outline.specs.Index.{Within, all_shown}
use Rattle.outline.specs.Names.{all_new}
use Rattle.outline.proofs.are_new.Given as goal

abbrev pub invariant-loop-first : goal.invariant-loop-first
invariant-loop-first l = record {
  within : Within l.file l.rest;
  tells : all_new (all_shown l.file l.rest) ≡ all_new (all_shown l.file l.names);
}

abbrev pub decreases-loop-first : goal.decreases-loop-first
decreases-loop-first l = length l.rest
