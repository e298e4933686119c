-- Which numbers a call turns down by: 1 where a buffer is wanted, 2 to 9, and those of the questions that it puts behind 9.
-- By the first question that is not met, which is one of those put.
use mathlib.Core.Path.{◌≡◌, refl, sym, ap, ◌∙◌}
use mathlib.Core.Bool.{Bool, true, false, ◌&&◌}
use mathlib.Core.List.{List, [], ◌∷◌}
use mathlib.Core.Logic.{◌⊎◌, inl, inr}
use Prim.Native.Nat.{ℕ, zero, suc, ◌≤◌}
use native.Mathlib.Omega.{arith}
use lib.ListN.{length}
use Rattle.lists.specs.List.{Every}
use Rattle.lists.specs.Question.{first_unmet}
use Rattle.planning.specs.Table.{Table}
use Rattle.planning.specs.Place.{root_place, nodes}
use Rattle.planning.specs.Variable.{variables}
use Rattle.planning.specs.Clause.{formula}
use Rattle.planning.specs.Text.{bytes_used, next_line}
use Rattle.nodes.specs.Tree.{enough_tree}
use Rattle.questions.specs.Questions.{Verdict, unmet, accepted, accepting, by_number, by_verdict, asked, HandedBack, turned_down, taken}
use Rattle.questions.proofs.Acceptance.{unmet_range}
use Rattle.encoding.specs.Calls.{enough_text, questions_writing, questions_of_line}
use Rattle.answer.specs.Calls.{enough_values, enough_listing, questions_taking, questions_listing, questions_of_answer, shown, shown_answer}
use Rattle.curdfuture.specs.Numbers.{question_of}
use Rattle.demands.specs.Ranges.{Within, Turns, Ranges}

down : {m n : ℕ} → turned_down m ≡ turned_down n → m ≡ n
down e = cc

never : {A : Type 0} {n : ℕ} {ns : List ℕ} → taken ns ≡ turned_down n → A
never e = let z : ◌≡◌ {A = ℕ} 0 1 = cc in absurd (omega arith)

-- a number that is not 0 is that of one of the questions
module _ (By : ℕ → Type 0) where
  one_of : (qs : List (ℕ × Bool)) → Every (λ (q : ℕ × Bool). By q.0) qs → (n : ℕ) → first_unmet qs ≡ suc n → By (suc n)
  one_of [] e n h = absurd (omega arith)
  one_of ((k, true) ∷ qs) e n h = one_of qs e.1 n h
  one_of ((k, false) ∷ qs) e n h = let z : k ≡ suc n = h in rw (← z) e.0

  -- by the number of the first that is not met
  by_number_lem : (qs : List (ℕ × Bool)) (ns : List ℕ) → Every (λ (q : ℕ × Bool). By q.0) qs → (n : ℕ) → by_number (first_unmet qs) turned_down (taken ns) ≡ turned_down n → By n
  by_number_lem qs ns e n h = go (first_unmet qs) refl h
    where
      go : (k : ℕ) → first_unmet qs ≡ k → by_number k turned_down (taken ns) ≡ turned_down n → By n
      go zero q f = never f
      go (suc k) q f = rw (← down f) (one_of qs e k q)

  module _ (file : List ℕ) (more : Table → List (ℕ × Bool)) (f : Table → List ℕ) (early : (n : ℕ) → Within 2 9 n → By n)
      (late : (T : Table) → Every (λ (q : ℕ × Bool). By q.0) (more T)) where
    by_verdict_lem : (n : ℕ) (v : Verdict) → accepting file ≡ v → by_verdict v more turned_down (λ T. taken (f T)) ≡ turned_down n → By n
    by_verdict_lem n (unmet m) e h = let z = down h in early n (rw z at (unmet_range file m e))
    by_verdict_lem n (accepted T) e h = by_number_lem (more T) (f T) (late T) n h

    by_asked : (By 1) → (b : Bool) (n : ℕ) → asked b file more turned_down (λ T. taken (f T)) ≡ turned_down n → By n
    by_asked first false n h = rw (← down h) first
    by_asked first true n h = by_verdict_lem n (accepting file) refl h

-- 0 is returned for values alone
zero_taken : (By : ℕ → Type 0) (h : HandedBack) → ((n : ℕ) → h ≡ turned_down n → By n) → ((n : ℕ) → By n → 1 ≤ n) → Turns h By
zero_taken By h f some = record { numbers = f; zero = (from h refl, λ r. ap question_of r.1) }
  where
    from : (k : HandedBack) → h ≡ k → question_of h ≡ 0 → (ns : List ℕ) × (h ≡ taken ns)
    from (taken ns) e q = (ns, e)
    from (turned_down n) e q = absurd (omega (arith, some n (f n e), sym (ap question_of e) ∙ q))

pub ranges : Ranges
ranges = record {
  check = λ file.
      let more : Table → List (ℕ × Bool) = λ T. [] in
      let f : Table → List ℕ = λ T. nodes (root_place T) ∷ variables T ∷ length (formula T) ∷ [] in
      zero_taken (Within 2 9) _ (λ n h. by_verdict_lem (Within 2 9) file more f (λ n w. w) (λ T. tt) n (accepting file) refl h) (λ n w. omega (arith, w.0));
  build = λ file tree.
      zero_taken (Within 1 9) _
      (by_asked (Within 1 9) file (λ T. []) (λ T. nodes (root_place T) ∷ []) (λ n w. (omega (arith, w.0), w.1)) (λ T. tt) (omega arith, omega arith) (enough_tree tree))
      (λ n w. w.0);
  write_text = λ file tree line text.
      zero_taken (Within 1 11) _
      (by_asked (Within 1 11) file (questions_writing tree line) (λ T. bytes_used T line (length text) ∷ next_line T line (length text) ∷ [])
      (λ n w. (omega (arith, w.0), omega (arith, w.1))) (λ T. ((omega arith, omega arith), ((omega arith, omega arith), tt))) (omega arith, omega arith)
      (enough_tree tree && enough_text text))
      (λ n w. w.0);
  write_formula = λ file line text.
      let By : ℕ → Type 0 = λ n. Within 1 9 n ⊎ (n ≡ 11) in
      zero_taken By _
      (by_asked By file (questions_of_line line) (λ T. bytes_used T line (length text) ∷ next_line T line (length text) ∷ [])
      (λ n w. inl (omega (arith, w.0), w.1)) (λ T. (inr refl, tt)) (inl (omega arith, omega arith)) (enough_text text))
      (λ n w. either n w);
  take_answer = λ file tree answer values.
      let By : ℕ → Type 0 = λ n. Within 1 10 n ⊎ Within 12 15 n in
      zero_taken By _
      (by_asked By file (questions_taking tree answer) (λ T. variables T ∷ []) (λ n w. inl (omega (arith, w.0), omega (arith, w.1)))
      (λ T. (inl (omega arith, omega arith), (inr (omega arith, omega arith), (inr (omega arith, omega arith), (inr (omega arith, omega arith), (inr (omega arith, omega arith), tt))))))
      (inl (omega arith, omega arith)) (enough_tree tree && enough_values values))
      (λ n w. one_range 10 12 15 n (omega arith) w);
  list_procedure = λ file tree values text.
      let By : ℕ → Type 0 = λ n. Within 1 10 n ⊎ Within 14 15 n in
      zero_taken By _
      (by_asked By file (questions_listing tree values) (λ T. length (shown file values T) ∷ []) (λ n w. inl (omega (arith, w.0), omega (arith, w.1)))
      (λ T. (inl (omega arith, omega arith), (inr (omega arith, omega arith), (inr (omega arith, omega arith), tt))))
      (inl (omega arith, omega arith)) (enough_tree tree && (enough_values values && enough_listing text)))
      (λ n w. one_range 10 14 15 n (omega arith) w);
  list_answer = λ file answer text.
      let By : ℕ → Type 0 = λ n. Within 1 9 n ⊎ Within 12 15 n in
      zero_taken By _
      (by_asked By file (questions_of_answer answer) (λ T. length (shown_answer file answer T) ∷ []) (λ n w. inl (omega (arith, w.0), w.1))
      (λ T. (inr (omega arith, omega arith), (inr (omega arith, omega arith), (inr (omega arith, omega arith), (inr (omega arith, omega arith), tt)))))
      (inl (omega arith, omega arith)) (enough_listing text))
      (λ n w. one_range 9 12 15 n (omega arith) w);
}
  where
    either : (n : ℕ) → Within 1 9 n ⊎ (n ≡ 11) → 1 ≤ n
    either n (inl w) = w.0
    either n (inr e) = omega arith

    one_range : (b c d n : ℕ) → 1 ≤ c → Within 1 b n ⊎ Within c d n → 1 ≤ n
    one_range b c d n h (inl w) = w.0
    one_range b c d n h (inr w) = omega (arith, w.0)
