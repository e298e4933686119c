-- What is promised of the formula and its text.
-- By the laws of literals, numerals, calls and lines.
use Rattle.planning.specs.Promises.{Promises}
use Rattle.planning.proofs.Sizes.Small.{literal_range}
use Rattle.planning.proofs.Text.Numeral.{numeral}
use Rattle.planning.proofs.Text.Call.{call}
use Rattle.planning.proofs.Text.Length.{lines_of}

pub promises : Promises
promises = record { literals = literal_range; numerals = numeral; calls = call; lines_short = lines_of }
