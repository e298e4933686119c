-- Inside the listing, nothing to believe: what is lent stands for nodes and names.
-- Assumes nothing.
use Rattle.std.specs.Prelude.{ℕ}
use Rattle.table.specs.Layout.{name_parts_in}
use Rattle.places.specs.Flat.{Node}
use Rattle.places.specs.ClausePlace.{Source, node_at}
use Rattle.shape.specs.Views.{source_of as source_in}
use Rattle.listing.specs.Listing.{Names, shown_names}
use Rattle.listing.specs.declared.Lent.{Lent}

abbrev pub source_of : Lent → Source
source_of l = source_in l.encoded

abbrev pub node_of : Lent → ℕ → Node
node_of l n = node_at (source_of l) n

abbrev pub names_of : Lent → Names
names_of l = shown_names l.file.now (name_parts_in l.encoded.table.now)
