-- `write`: how its loop starts, goes on and ends.
-- By the laws of rows and of writes.
use mathlib.Core.Path.{◌≡◌, refl, sym, ap, ◌∙◌}
use mathlib.Core.List.{List}
use Prim.Native.Nat.{ℕ, ◌+◌, ◌≤◌, ◌<◌}
use native.Mathlib.Omega.{arith}
use lib.ListN.{length}
use Rattle.lists.specs.Written.{Wrote}
use Rattle.lists.proofs.Written.{wrote_same}
use Rattle.planning.specs.Table.{Table}
use Rattle.table.specs.Layout.{table_in, name_parts_in}
use Rattle.shape.specs.Shape.{Indexed}
use Rattle.index.specs.Index.{source}
use Rattle.shape.proofs.Nodes.{few_nodes}
use Rattle.listing.specs.Listing.{Names, shown_names, row_lines}
use Rattle.listing.specs.Walk.{rows_at, rows_to, walked, value_of, Listable, Ready, WroteRows}
use Rattle.listing.proofs.Rows.{rows_next, bytes_few, steps_done}
use Rattle.listing.proofs.Writes.{lists_none, lists_same, lists_append}

module _ (ws file values : List ℕ) where
  abbrev names : Names
  names = shown_names file (name_parts_in ws)

  -- the rows of the first n nodes are written
  pub record Went (o₀ o : List ℕ) (a k n : ℕ) : Type 0 where
    pub at : n ≤ length (source (table_in ws)).nodes
    pub room : 24576 ≤ length o₀
    pub same : length o ≡ length o₀
    pub lines : WroteRows names o₀ 0 0 (rows_to (table_in ws) (value_of values) n) o a k

module _ {ws file tree values : List ℕ} (l : Listable ws file tree values) {ix : List ℕ} (i : Indexed (table_in ws) ix) where
  abbrev T : Table
  T = table_in ws

  pub went_none : {o : List ℕ} → 24576 ≤ length o → Went ws file values o o 0 0 0
  went_none {o} h = record { at = omega arith; room = h; same = refl; lines = lists_none (shown_names file (name_parts_in ws)) o 0 0 }

  module _ {o₀ o : List ℕ} {a k n : ℕ} (u : Went ws file values o₀ o a k n) where
    pub went_ready : {c : ℕ} → c ≡ length (source T).nodes → n < c → Ready (source T) n o a k
    went_ready e h = record {
      there = omega arith;
      room = omega (
        arith,
        u.lines.text.end,
        bytes_few T i.accepted l.short (value_of values) n u.at,
        few_nodes T i.accepted,
        u.room,
        u.same,
      );
      few = omega (arith, u.lines.steps, steps_done T (value_of values) n, few_nodes T i.accepted);
    }

    pub went_more : {c a' k' : ℕ} {o' : List ℕ} → c ≡ length (source T).nodes → n < c → length o' ≡ length o
        → WroteRows (shown_names file (name_parts_in ws)) o a k (rows_at T (value_of values) n) o' a' k' → Went ws file values o₀ o' a' k' (n + 1)
    went_more e h s w = record {
      at = omega arith;
      room = u.room;
      same = s ∙ u.same;
      lines = lists_same (sym (rows_next T (value_of values) n)) (lists_append (omega arith) u.lines w);
    }

    pub went_all : {c : ℕ} → c ≡ length (source T).nodes → c ≤ n → Wrote o₀ 0 (walked T (shown_names file (name_parts_in ws)) (value_of values)) o a
    went_all e h =
        let z : n ≡ length (source T).nodes = omega (arith, u.at) in
        wrote_same (ap (λ (i : ℕ). row_lines (shown_names file (name_parts_in ws)) 0 (rows_to T (value_of values) i)) z) u.lines.text
