-- Document 01's example through both calls over records, and an answer for each question that turns one down.
-- By computing, for every tree that is the table's own and every buffer that is long enough.
use mathlib.Core.Path.{◌≡◌, ap, ap₂}
use mathlib.Core.Bool.{true, ◌&&◌}
use mathlib.Core.List.{List, [], ◌∷◌, ◌++◌}
use Prim.Native.Nat.{ℕ}
use lib.ListN.{length, drop}
use Rattle.lists.specs.Text.{bytes}
use Rattle.planning.specs.Place.{place, child_label, child_count}
use Rattle.planning.specs.Model.{given}
use Rattle.planning.specs.Marked.{shown as shownTable}
use Rattle.lines.specs.Bytes.{digit, same_bytes}
use Rattle.lines.specs.Parts.{split, ended}
use Rattle.table.specs.Reading.{NameParts, passed, reading}
use Rattle.table.specs.Examples.{shown_file}
use Rattle.table.proofs.Computed.{shown_reads}
use Rattle.nodes.specs.Tree.{enough_tree, met10}
use Rattle.nodes.specs.declared.Node.{Node}
use Rattle.solver.specs.File.{answer_of}
use Rattle.listing.specs.Listing.{Names, shown_names}
use Rattle.questions.specs.Questions.{turned_down, taken}
use Rattle.answer.specs.Calls.{enough_values, enough_listing, taking, values_after, lent, listing_of, showing, listing_after}

abbrev example : List ℕ
example = shown_file

abbrev names : NameParts
names = shown_reads.names

example_read : reading example ≡ passed shownTable names
example_read = shown_reads.read

-- `s SATISFIABLE`, and then this
abbrev after : List ℕ → List ℕ
after bs = bytes "s SATISFIABLE\n" ++ bs

module _ (tree : List Node) (values : List ℕ) (own : met10 shownTable tree ≡ true) (enough : (enough_tree tree && enough_values values) ≡ true) where
  -- "`s SATISFIABLE` and `v 1 2 3 -4 5 0`"
  pub example_taken : (taking example tree (after (bytes "v 1 2 3 -4 5 0\n")) values ≡ taken (5 ∷ [])) × (values_after example tree (after (bytes "v 1 2 3 -4 5 0\n")) values ≡ 1 ∷ 1 ∷ 1 ∷ 0 ∷ 1 ∷ drop 5 values)
  unfolding place child_label child_count answer_of ended split same_bytes digit
  example_taken = (
    rw (enough, example_read, own),
    rw (enough, example_read, own),
  )

  -- the 0 stands twice
  pub two_zeros : (taking example tree (after (bytes "v 1 2 3 -4 5 0\nv 0\n")) values ≡ turned_down 12) × (values_after example tree (after (bytes "v 1 2 3 -4 5 0\nv 0\n")) values ≡ values)
  unfolding place child_label child_count answer_of ended split same_bytes digit
  two_zeros = (
    rw (enough, example_read, own),
    rw (enough, example_read, own),
  )

  -- UNKNOWN
  pub unknown_word : (taking example tree (bytes "s UNKNOWN\n") values ≡ turned_down 13) × (values_after example tree (bytes "s UNKNOWN\n") values ≡ values)
  unfolding place child_label child_count answer_of ended split same_bytes digit
  unknown_word = (
    rw (enough, example_read, own),
    rw (enough, example_read, own),
  )

  -- variable 5 does not stand
  pub missing : (taking example tree (after (bytes "v 1 2 3 -4 0\n")) values ≡ turned_down 14) × (values_after example tree (after (bytes "v 1 2 3 -4 0\n")) values ≡ values)
  unfolding place child_label child_count answer_of ended split same_bytes digit
  missing = (
    rw (enough, example_read, own),
    rw (enough, example_read, own),
  )

  -- variable 5 stands twice
  pub twice : (taking example tree (after (bytes "v 1 2 3 -4 5 5 0\n")) values ≡ turned_down 14) × (values_after example tree (after (bytes "v 1 2 3 -4 5 5 0\n")) values ≡ values)
  unfolding place child_label child_count answer_of ended split same_bytes digit
  twice = (
    rw (enough, example_read, own),
    rw (enough, example_read, own),
  )

  -- open is not true at the start
  pub unmet_clause : (taking example tree (after (bytes "v 1 2 3 4 5 0\n")) values ≡ turned_down 15) × (values_after example tree (after (bytes "v 1 2 3 4 5 0\n")) values ≡ values)
  unfolding place child_label child_count answer_of ended split same_bytes digit
  unmet_clause = (
    rw (enough, example_read, own),
    rw (enough, example_read, own),
  )

example_names : shown_names example names ≡ record { steps = bytes "lift" ∷ []; jobs = bytes "serve" ∷ [] }
example_names = ap₂ (λ (s j : List (List ℕ)). record { steps = s; jobs = j }) shown_reads.step_names shown_reads.job_names

module _ (tree : List Node) (more text : List ℕ) (own : met10 shownTable tree ≡ true) where
  -- "program `procedure` writes two lines: `J`, 0, `serve`, 0; then `S`, 1, `lift`; tabs between"
  pub example_listed : (enough_tree tree && (enough_values (1 ∷ 1 ∷ 1 ∷ 0 ∷ 1 ∷ more) && enough_listing text)) ≡ true
      → (showing example tree (1 ∷ 1 ∷ 1 ∷ 0 ∷ 1 ∷ more) text ≡ taken (21 ∷ [])) × (listing_after example tree (1 ∷ 1 ∷ 1 ∷ 0 ∷ 1 ∷ more) text ≡ bytes "J\t0\tserve\t0\nS\t1\tlift\n" ++ drop 21 text)
  unfolding place child_label child_count answer_of ended split same_bytes digit
  example_listed enough = (
    rw (enough, example_read, own) (ap (λ (N : Names). taken (length (listing_of N (given shownTable (lent shownTable (1 ∷ 1 ∷ 1 ∷ 0 ∷ 1 ∷ more)))) ∷ [])) example_names),
    rw (enough, example_read, own)
        (ap (λ (N : Names). let l = listing_of N (given shownTable (lent shownTable (1 ∷ 1 ∷ 1 ∷ 0 ∷ 1 ∷ more))) in l ++ drop (length l) text) example_names),
  )

  -- a value of 2
  pub two_lent : (enough_tree tree && (enough_values (2 ∷ 1 ∷ 1 ∷ 0 ∷ 1 ∷ more) && enough_listing text)) ≡ true
      → (showing example tree (2 ∷ 1 ∷ 1 ∷ 0 ∷ 1 ∷ more) text ≡ turned_down 14) × (listing_after example tree (2 ∷ 1 ∷ 1 ∷ 0 ∷ 1 ∷ more) text ≡ text)
  unfolding place child_label child_count answer_of ended split same_bytes digit
  two_lent enough = (
    rw (enough, example_read, own),
    rw (enough, example_read, own),
  )

  -- open is not true at the start
  pub no_model_lent : (enough_tree tree && (enough_values (1 ∷ 1 ∷ 1 ∷ 1 ∷ 1 ∷ more) && enough_listing text)) ≡ true
      → (showing example tree (1 ∷ 1 ∷ 1 ∷ 1 ∷ 1 ∷ more) text ≡ turned_down 15) × (listing_after example tree (1 ∷ 1 ∷ 1 ∷ 1 ∷ 1 ∷ more) text ≡ text)
  unfolding place child_label child_count answer_of ended split same_bytes digit
  no_model_lent enough = (
    rw (enough, example_read, own),
    rw (enough, example_read, own),
  )
