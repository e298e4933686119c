-- An M line: its job, the size of its body, its tasks.
-- The body stands behind the two words before it.
use mathlib.Core.Path.{◌≡◌, ap, sym, ◌∙◌}
use mathlib.Core.Bool.{true}
use mathlib.Core.List.{List, [], ◌∷◌}
use Prim.Native.Nat.{ℕ, ◌+◌, ◌*◌, ◌≤◌, ◌<◌}
use native.Mathlib.Omega.{arith}
use lib.ListN.{length, get_or, set, length-set, length-map}
use lib.Seq.{get_or-set_same, get_or-set_other}
use Rattle.std.specs.Prelude.{Result, ⊤}
use Rattle.std.specs.Result.{result_and}
use Rattle.unmet.specs.declared.Unmet.{Unmet}
use Rattle.lists.specs.List.{all}
use Rattle.lists.proofs.Bool.{leb_sound}
use Rattle.lists.proofs.Place.{all_at, get_d_map_in}
use Rattle.planning.specs.Table.{most_in_body}
use Rattle.lines.specs.Parts.{Piece, no_line}
use Rattle.grammar.specs.Name.{Name, names_in}
use Rattle.grammar.specs.Line.{field, name_in, body_in}
use Rattle.outline.specs.Index.{bytes_of}
use Rattle.outline.specs.Names.{among, number_of}
use Rattle.outline.specs.Questions.{short}
use Rattle.rows.specs.Uses.{uses_tasks}
use Rattle.rows.specs.Words.{method_words, Kept}
use Rattle.rows.specs.Answers.{Asked, BodyStands, MethodStands}
use Rattle.rows.proofs.Counts.{asked_and}
use Rattle.rows.proofs.Walk.{Walking, walking_room, walking_line, walking_there}
use Rattle.rows.proofs.Words.{Has}

pub body_size : (l g : List ℕ) → g ≡ field l 2 → length (body_in l) ≡ length (names_in g)
unfolding body_in
body_size l g e = rw e

-- the two words put before the body
pub as_long : (o : List ℕ) (j n : ℕ) → length (set (set o 0 j) 1 n) ≡ length o
as_long o j n = length-set (set o 0 j) 1 n ∙ length-set o 0 j

module _ (o : List ℕ) (j n : ℕ) (h : 2 ≤ length o) where
  pub first_word : get_or (set (set o 0 j) 1 n) 0 0 ≡ j
  first_word = get_or-set_other (set o 0 j) 1 0 n 0 (λ q. omega arith) ∙ get_or-set_same o 0 j 0 (omega arith)

  pub second_word : get_or (set (set o 0 j) 1 n) 1 0 ≡ n
  second_word = get_or-set_same (set o 0 j) 1 n 0 (omega (arith, length-set o 0 j))

module _ (jobs tasks : List Name) (l : List ℕ) where
  pub method_asked : (f g : List ℕ) {A B : Type 0} (P : A → Type 0) (Q : B → Type 0) (r : Result A Unmet) (t : Result B Unmet) → f ≡ field l 1
      → g ≡ field l 2 → Asked (among jobs f) P r → Asked (all (among tasks) (names_in g)) Q t → Asked (uses_tasks jobs tasks l) (λ _. ⊤) (result_and r t)
  unfolding uses_tasks name_in body_in
  method_asked f g P Q r t d e u v = rw (← d, ← e) (asked_and _ _ P Q r t u v)

  -- the body stands in b, which is part of o from place 2 on
  pub method_stands : (f g b o : List ℕ) (j n : ℕ) → f ≡ field l 1 → g ≡ field l 2 → j ≡ number_of jobs f → n ≡ length (names_in g)
      → BodyStands tasks (names_in g) b → Has b 2 o → length (names_in g) ≤ length b → get_or o 0 0 ≡ j → get_or o 1 0 ≡ n → MethodStands jobs tasks l 0 o
  unfolding name_in body_in
  method_stands f g b o j n d e u v s w h x y = record {
    job = x ∙ u ∙ ap (number_of jobs) d;
    size = y ∙ v ∙ ap (λ (x : List ℕ). length (names_in x)) e;
    task = rw (← e) (λ i p. w.at i (omega arith) ∙ s.task i p);
  }

-- a method of a body that is short enough, which stays as long as its words do
pub record Method (jobs tasks : List Name) (l : List ℕ) (k : ℕ) (o : List ℕ) : Type 0 where
  pub few : length (body_in l) ≤ most_in_body
  pub stands : MethodStands jobs tasks l k o

pub method_keeps : (jobs tasks : List Name) (l : List ℕ) (k n : ℕ) (o o' : List ℕ) → k + method_words ≤ n → Kept n o o'
    → Method jobs tasks l k o → Method jobs tasks l k o'
method_keeps jobs tasks l k n o o' h w u = record {
  few = u.few;
  stands = record {
    job = w.at k (omega arith) ∙ u.stands.job;
    size = w.at (k + 1) (omega arith) ∙ u.stands.size;
    task = λ i g. w.at (k + 2 + i) (omega (arith, u.few)) ∙ u.stands.task i g;
  };
}

-- it stands in the whole where it stands in a part
pub method_in : {jobs tasks : List Name} {l : List ℕ} (xs o : List ℕ) (k p : ℕ) → Has xs k o → p + method_words ≤ length xs → length (body_in l) ≤ most_in_body
    → MethodStands jobs tasks l p xs → MethodStands jobs tasks l (k + p) o
method_in xs o k p w h f u = record {
  job = w.at p (omega arith) ∙ u.job;
  size = let z : k + p + 1 ≡ k + (p + 1) = omega arith in rw z (w.at (p + 1) (omega arith) ∙ u.size);
  task = λ i g. let z : k + p + 2 + i ≡ k + (p + 2 + i) = omega arith in rw z (w.at (p + 2 + i) (omega arith) ∙ u.task i g);
}

pub method_whole : {jobs tasks : List Name} {l : List ℕ} (xs o : List ℕ) (k : ℕ) → Has xs k o → length xs ≡ method_words → length (body_in l) ≤ most_in_body
    → MethodStands jobs tasks l 0 xs → Method jobs tasks l k o
method_whole xs o k w h f u = let z : k + 0 ≡ k = omega arith in record { few = f; stands = rw z at (method_in xs o k 0 w (omega (arith, h)) f u) }

-- "8 names in a body"
pub body_short : (ls : List Piece) → all short ls ≡ true → (i : ℕ) → i < length ls → length (body_in (get_or ls i no_line).bytes) ≤ most_in_body
unfolding short
body_short ls e i h = leb_sound (length (body_in (get_or ls i no_line).bytes)) most_in_body (all_at short ls i no_line e h)

pub line_short : (ls : List Piece) → all short ls ≡ true → (i : ℕ) → i < length ls → {l : List ℕ} → l ≡ get_or (bytes_of ls) i []
    → length (body_in l) ≤ most_in_body
line_short ls e i h d = rw (d ∙ get_d_map_in (λ (p : Piece). p.bytes) ls i no_line [] h) (body_short ls e i h)

-- a line of the M lines is left
module _ {A : Type 0} {jobs tasks : List Name} (ms : List Piece) {left rest : List (List ℕ)} {l o : List ℕ} {at : ℕ} {r : Result A Unmet}
    (u : Walking method_words (uses_tasks jobs tasks) (Method jobs tasks) (method_keeps jobs tasks) (bytes_of ms) left o at r) (e : left ≡ l ∷ rest) where
  pub method_room : {n m : ℕ} → n ≡ length ms → method_words * n ≤ m → at + method_words ≤ m
  method_room q h = walking_room _ _ _ _ u e (q ∙ sym (length-map ms (λ (p : Piece). p.bytes))) h

  pub method_short : all short ms ≡ true → length (body_in l) ≤ most_in_body
  method_short h = line_short ms h u.passed (omega (arith, walking_there _ _ _ _ u e, length-map ms (λ (p : Piece). p.bytes))) (walking_line _ _ _ _ u e)
