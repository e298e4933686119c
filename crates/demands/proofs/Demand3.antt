-- Demand 3, whole, for every accepted file.
-- The answers from the questions of the calls, one by one; models and trees from crate `planning`.
use mathlib.Core.Path.{◌≡◌, refl, sym, ap, ◌∙◌, subst}
use mathlib.Core.Bool.{Bool, true, false, ◌&&◌}
use mathlib.Core.List.{List, [], ◌∷◌, ◌++◌}
use mathlib.Core.Logic.{◌↔◌}
use mathlib.Core.Option.{Option, none, some}
use Prim.Native.Nat.{ℕ, zero, suc, ◌≤◌}
use native.Mathlib.Omega.{arith}
use lib.Dec.{leb}
use lib.ListN.{length, get_or, take, drop, length-append, length-drop, get_or-append}
use lib.Seq.{take_at}
use Rattle.lists.specs.List.{all, up_to}
use Rattle.lists.specs.Question.{first_unmet}
use Rattle.lists.proofs.Bool.{leb_in, leb_sound, and_in, and_l, and_r, clash}
use Rattle.lists.proofs.Member.{all_in}
use Rattle.lists.proofs.Number.{up_to_range}
use Rattle.planning.specs.Table.{Table}
use Rattle.planning.specs.Tree.{Tree, TreeOf}
use Rattle.planning.specs.Variable.{variables}
use Rattle.planning.specs.Clause.{Lit, formula}
use Rattle.planning.specs.Model.{value, satisfies, Model, Gives, bits, truths_in}
use Rattle.planning.proofs.Demand3.{demand3}
use Rattle.nodes.specs.Tree.{blank}
use Rattle.nodes.specs.Tree.{tree_of, enough_tree, same_node, met10}
use Rattle.nodes.specs.declared.Node.{Node}
use Rattle.nodes.proofs.Same.{node_same}
use Rattle.solver.specs.Line.{Word, satisfiable, unsatisfiable, unknown}
use Rattle.solver.specs.File.{Answer, answer_of}
use Rattle.solver.specs.Questions.{is_some, says_satisfiable, numbers_said, met12, met13, met14, once_each, truths}
use Rattle.solver.proofs.Once.{once_out, once_in, truths_length}
use Rattle.solver.proofs.File.{answer_file, literals, file_length, file_says, file_met14, file_values}
use Rattle.listing.specs.Listing.{shown_names, listing}
use Rattle.listing.proofs.Walked.{walked_is}
use Rattle.listing.proofs.Fits.{walked_fits}
use Rattle.questions.specs.Questions.{Verdict, accepted, accepting, names_of, by_number, by_verdict, asked, turned_down, taken}
use Rattle.questions.proofs.Asked.{asked_accepted}
use Rattle.answer.specs.Calls.{enough_values, enough_listing, met15, answered, questions_of_answer, questions_taking, taking, values_after}
use Rattle.answer.specs.Calls.{own, lent14, lent, questions_listing, listing_of, shown, showing, shown_answer, showing_answer}
use Rattle.demands.specs.Demand3.{OwnTree, SaysSatisfiable, SetsAndSatisfies, Takes, listing_in, Lists, ListsAnswer, ForEveryAcceptedFile}
use Rattle.answer.proofs.Questions.{FourMet, four_met, four_of, behind_10, tenth_met, lent_three, lent_met}
use Rattle.questions.proofs.Acceptance.{accepted_table}
use Rattle.answer.proofs.Acceptance.{short_names}
use Rattle.answer.proofs.Answered.{answered_model}
use Rattle.answer.proofs.Bits.{bits_back, bits_same, bits_binary, bits_length}
use Rattle.answer.proofs.Showing.{lent_model}

-- A call on an accepted file -------------------------------------------------------------------------------------------------------
never : {A : Type 0} {n : ℕ} {ns : List ℕ} → turned_down n ≡ taken ns → A
never e = let z : ◌≡◌ {A = ℕ} 0 1 = cc in absurd (omega arith)

module _ (file : List ℕ) (T : Table) (a : accepting file ≡ accepted T) (more : Table → List (ℕ × Bool)) where
  pub all_asked : {A : Type 0} (refuse : ℕ → A) (succeed : Table → A) {b : Bool} → b ≡ true → first_unmet (more T) ≡ 0 → asked b file more refuse succeed ≡ succeed T
  all_asked refuse succeed e z = asked_accepted file more refuse succeed a e ∙ rw z

  -- what was taken was lent enough, and met every question
  pub was_taken : (f : Table → List ℕ) (b : Bool) {ns : List ℕ} → asked b file more turned_down (λ T. taken (f T)) ≡ taken ns → (b ≡ true) × (first_unmet (more T) ≡ 0)
  was_taken f false e = never e
  was_taken f true {ns} e = (refl, go (first_unmet (more T)) (sym (ap (λ (v : Verdict). by_verdict v more turned_down (λ T. taken (f T))) a) ∙ e))
    where
      go : (n : ℕ) → by_number n turned_down (taken (f T)) ≡ taken ns → n ≡ 0
      go zero q = refl
      go (suc n) q = never q

-- Answers --------------------------------------------------------------------------------------------------------------------------
-- what a formed answer is, where it says SATISFIABLE
said : (o : Option Answer) → is_some o ≡ true → says_satisfiable o ≡ true → o ≡ some (record { word = satisfiable; numbers = numbers_said o })
said none p q = clash q refl
said (some a) p q = go a.word a.numbers q
  where
    go : (w : Word) (ls : List Lit) → says_satisfiable (some (record { word = w; numbers = ls })) ≡ true
        → ◌≡◌ {A = Option Answer} (some (record { word = w; numbers = ls })) (some (record { word = satisfiable; numbers = ls }))
    go satisfiable ls q = refl
    go unsatisfiable ls q = clash q refl
    go unknown ls q = clash q refl

-- which answers those are
module _ (T : Table) (answer : List ℕ) where
  abbrev Met : Type 0
  Met = FourMet (met12 answer) (met13 answer) (met14 (variables T) answer) (met15 T (answered T answer))

  met_in : Met → first_unmet (questions_of_answer answer T) ≡ 0
  met_in m = four_of (met12 answer) (met13 answer) (met14 (variables T) answer) (met15 T (answered T answer)) m

  met_out : first_unmet (questions_of_answer answer T) ≡ 0 → Met
  met_out e = four_met (met12 answer) (met13 answer) (met14 (variables T) answer) (met15 T (answered T answer)) e

  says : Met → SaysSatisfiable answer (numbers_said (answer_of answer))
  says m = record {
    short = leb_sound (length answer) 65536 (and_l (leb (length answer) 65536) (is_some (answer_of answer)) m.twelfth);
    formed = said (answer_of answer) (and_r (leb (length answer) 65536) (is_some (answer_of answer)) m.twelfth) m.thirteenth;
  }

  module _ (ls : List Lit) (s : SaysSatisfiable answer ls) where
    said_numbers : numbers_said (answer_of answer) ≡ ls
    said_numbers = ap numbers_said s.formed

    sets_of : Met → SetsAndSatisfies T ls
    sets_of m =
        let r = once_out (variables T) ls (sym (ap (λ (ks : List Lit). once_each (variables T) ks) said_numbers) ∙ m.fourteenth) in
        record { once = r.0; no_other = r.1; satisfied = sym (ap (λ (ks : List Lit). satisfies (value (truths (variables T) ks)) (formula T)) said_numbers) ∙ m.fifteenth }

    met_of : SetsAndSatisfies T ls → Met
    met_of h = record {
      twelfth = and_in (leb (length answer) 65536) (is_some (answer_of answer)) (leb_in (length answer) 65536 s.short) (ap is_some s.formed);
      thirteenth = ap says_satisfiable s.formed;
      fourteenth = ap (λ (ks : List Lit). once_each (variables T) ks) said_numbers ∙ once_in (variables T) ls h.once h.no_other;
      fifteenth = ap (λ (ks : List Lit). satisfies (value (truths (variables T) ks)) (formula T)) said_numbers ∙ h.satisfied;
    }

module _ (file : List ℕ) (T : Table) (a : accepting file ≡ accepted T) where
  module _ (tree : List Node) (answer values : List ℕ) where
    abbrev enough : Bool
    enough = enough_tree tree && enough_values values

    met_takes : enough ≡ true → met10 T tree ≡ true → Met T answer → Takes file tree answer values T (answered T answer)
    met_takes e t m =
        let z : first_unmet (questions_taking tree answer T) ≡ 0 = behind_10 (questions_of_answer answer T) t ∙ met_in T answer m in
        record {
          handed_back = all_asked file T a (questions_taking tree answer) turned_down (λ T. taken (variables T ∷ [])) e z;
          left = all_asked file T a (questions_taking tree answer) (λ n. values) (λ T. bits (answered T answer) ++ drop (variables T) values) e z;
        }

    takes_met : {ns : List ℕ} → taking file tree answer values ≡ taken ns → (enough ≡ true) × (met10 T tree ≡ true) × Met T answer
    takes_met e =
        let r = was_taken file T a (questions_taking tree answer) (λ T. variables T ∷ []) enough e in
        let q = tenth_met (questions_of_answer answer T) (met10 T tree) r.1 in
        (r.0, q.0, met_out T answer q.1)

    pub takes : (ls : List Lit) → SaysSatisfiable answer ls → OwnTree T tree → 8191 ≤ length values
        → Takes file tree answer values T (truths (variables T) ls) ↔ SetsAndSatisfies T ls
    takes ls s o l =
        let e = and_in (enough_tree tree) (enough_values values) (leb_in 1024 (length tree) o.long) (leb_in 8191 (length values) l) in (
          λ t. sets_of T answer ls s (takes_met t.handed_back).2,
          λ h. subst (λ (ks : List Lit). Takes file tree answer values T (truths (variables T) ks)) (said_numbers T answer ls s) (met_takes e o.own (met_of T answer ls s h)),
        )

    pub takes_no_other : (ns : List ℕ) → taking file tree answer values ≡ taken ns
        → (ls : List Lit) × SaysSatisfiable answer ls × SetsAndSatisfies T ls × OwnTree T tree × (8191 ≤ length values) × Takes file tree answer values T (truths (variables T) ls)
    takes_no_other ns e =
        let r = takes_met e in
        let m = r.2 in
        let ls = numbers_said (answer_of answer) in
        let o : OwnTree T tree = record { long = leb_sound 1024 (length tree) (and_l (enough_tree tree) (enough_values values) r.0); own = r.1 } in
        let l = leb_sound 8191 (length values) (and_r (enough_tree tree) (enough_values values) r.0) in
        (ls, says T answer m, sets_of T answer ls (says T answer m) m, o, l, met_takes r.0 r.1 m)

    pub are_models : (ns : List ℕ) → taking file tree answer values ≡ taken ns → (vs : List Bool) × Model T vs × Takes file tree answer values T vs
    are_models ns e =
        let r = takes_no_other ns e in
        (truths (variables T) r.0, record { whole = truths_length (variables T) r.0; true_clauses = r.2.satisfied }, r.5)

  pub all_models : (vs : List Bool) → Model T vs → (tree : List Node) (values : List ℕ) → OwnTree T tree → 8191 ≤ length values → (answer : List ℕ) × Takes file tree answer values T vs
  all_models vs m tree values o l =
      let h : length vs ≤ 9999 = omega (arith, m.whole, (accepted_table file T a).few_variables) in
      let ls = literals 1 vs in
      let s : SaysSatisfiable (answer_file vs) ls = record { short = file_length vs h; formed = file_says vs h } in
      let k : truths (variables T) ls ≡ vs =
      ap (λ (n : ℕ). truths n ls) (sym m.whole) ∙ (sym (ap (λ (o : Option Answer). truths (length vs) (numbers_said o)) (file_says vs h)) ∙ file_values vs h) in
      let r = once_out (variables T) ls
      (ap (λ (n : ℕ). once_each n ls) (sym m.whole)
      ∙ (sym (ap (λ (o : Option Answer). once_each (length vs) (numbers_said o)) (file_says vs h)) ∙ file_met14 vs h)) in (
        answer_file vs,
        subst (λ (ws : List Bool). Takes file tree (answer_file vs) values T ws) k
            ((takes tree (answer_file vs) values ls s o l).1
            (record { once = r.0; no_other = r.1; satisfied = subst (λ (ws : List Bool). satisfies (value ws) (formula T) ≡ true) (sym k) m.true_clauses })),
      )

  -- Listings -------------------------------------------------------------------------------------------------------------------------
  fits : (vs : List Bool) (t : Tree) → Model T vs → Gives T vs t → length (listing (shown_names file (names_of file)) t) ≤ 24576
  fits vs t m g =
      let N = shown_names file (names_of file) in
      omega (arith, ap length (walked_is N m g), walked_fits (accepted_table file T a) (short_names file T a) (value vs))

  module _ (tree : List Node) (values text : List ℕ) where
    abbrev all_enough : Bool
    all_enough = enough_tree tree && (enough_values values && enough_listing text)

    shows : all_enough ≡ true → met10 T tree ≡ true → lent14 T values ≡ true → met15 T (lent T values) ≡ true → Model T (lent T values)
        → (t : Tree) → Gives T (lent T values) t → Lists file tree values text t
    shows e o p q m t g =
        let N = shown_names file (names_of file) in
        let z : first_unmet (questions_listing tree values T) ≡ 0 = lent_three (met10 T tree) (lent14 T values) (met15 T (lent T values)) o p q in
        let s : shown file values T ≡ listing N t = ap (listing_of N) g in
        record {
          handed_back = all_asked file T a (questions_listing tree values) turned_down (λ T. taken (length (shown file values T) ∷ [])) e z ∙ ap (λ (l : List ℕ). taken (length l ∷ [])) s;
          left =
              all_asked file T a (questions_listing tree values) (λ n. text) (λ T. shown file values T ++ drop (length (shown file values T)) text) e z
              ∙ ap (λ (l : List ℕ). l ++ drop (length l) text) s;
          fits = fits (lent T values) t m g;
        }

    pub lists_no_other : (ns : List ℕ) → showing file tree values text ≡ taken ns
        → (vs : List Bool) × (t : Tree) × Model T vs × Gives T vs t × (take (variables T) values ≡ bits vs) × OwnTree T tree × (8191 ≤ length values) × (24576 ≤ length text)
        × Lists file tree values text t
    lists_no_other ns e =
        let r = was_taken file T a (questions_listing tree values) (λ T. length (shown file values T) ∷ []) all_enough e in
        let q = lent_met (met10 T tree) (lent14 T values) (met15 T (lent T values)) r.1 in
        let b = and_r (enough_tree tree) (enough_values values && enough_listing text) r.0 in
        let l = leb_sound 8191 (length values) (and_l (enough_values values) (enough_listing text) b) in
        let o : OwnTree T tree = record { long = leb_sound 1024 (length tree) (and_l (enough_tree tree) (enough_values values && enough_listing text) r.0); own = q.0 } in
        let m = lent_model T (accepted_table file T a) values l q.2 in
        let g = (demand3 T (accepted_table file T a).sound).gives (lent T values) m in
        (lent T values, g.0, m, g.1, sym (bits_same (own T values) q.1), o, l, leb_sound 24576 (length text) (and_r (enough_values values) (enough_listing text) b), shows r.0 q.0 q.1 q.2 m g.0 g.1)

  pub lists : (tree : List Node) (more text : List ℕ) (vs : List Bool) (t : Tree) → OwnTree T tree → 8191 ≤ length (bits vs ++ more) → 24576 ≤ length text
      → Model T vs → Gives T vs t → Lists file tree (bits vs ++ more) text t
  lists tree more text vs t o l k m g =
      let values = bits vs ++ more in
      let w : own T values ≡ bits vs = take_at (bits vs) more (variables T) (bits_length vs ∙ m.whole) in
      let z : lent T values ≡ vs = ap truths_in w ∙ bits_back vs in
      shows tree values text
      (and_in (enough_tree tree) (enough_values values && enough_listing text) (leb_in 1024 (length tree) o.long) (and_in (enough_values values) (enough_listing text) (leb_in 8191 (length values) l) (leb_in 24576 (length text) k)))
      o.own (ap (all (λ v. leb v 1)) w ∙ bits_binary vs)
      (subst (λ (ws : List Bool). met15 T ws ≡ true) (sym z) m.true_clauses)
      (subst (λ (ws : List Bool). Model T ws) (sym z) m)
      t (subst (λ (ws : List Bool). Gives T ws t) (sym z) g)

  -- of an answer, with no tree and no values lent
  module _ (answer text : List ℕ) where
    answer_lists : enough_listing text ≡ true → Met T answer → (t : Tree) × Gives T (answered T answer) t × TreeOf T t × ListsAnswer file answer text t
    answer_lists e m =
        let z = met_in T answer m in
        let k = answered_model T answer m.fifteenth in
        let g = (demand3 T (accepted_table file T a).sound).gives (answered T answer) k in
        let t = g.0 in
        let s : shown_answer file answer T ≡ listing_in file t = ap (listing_of (shown_names file (names_of file))) g.1 in (
          t,
          g.1,
          g.2,
          record {
            handed_back = all_asked file T a (questions_of_answer answer) turned_down (λ T. taken (length (shown_answer file answer T) ∷ [])) e z ∙ ap (λ (l : List ℕ). taken (length l ∷ [])) s;
            left =
                all_asked file T a (questions_of_answer answer) (λ n. text) (λ T. shown_answer file answer T ++ drop (length (shown_answer file answer T)) text) e z
                ∙ ap (λ (l : List ℕ). l ++ drop (length l) text) s;
            fits = fits (answered T answer) t k g.1;
          },
        )

    lists_met : {ns : List ℕ} → showing_answer file answer text ≡ taken ns → (enough_listing text ≡ true) × Met T answer
    lists_met e =
        let r = was_taken file T a (questions_of_answer answer) (λ T. length (shown_answer file answer T) ∷ []) (enough_listing text) e in
        (r.0, met_out T answer r.1)

    pub lists_answers : (ls : List Lit) → 24576 ≤ length text → SaysSatisfiable answer ls
        → ((t : Tree) × Gives T (truths (variables T) ls) t × ListsAnswer file answer text t) ↔ SetsAndSatisfies T ls
    lists_answers ls l s = (
      λ r. sets_of T answer ls s (lists_met r.2.handed_back).1,
      λ h.
          let r = answer_lists (leb_in 24576 (length text) l) (met_of T answer ls s h) in
          (r.0, subst (λ (ks : List Lit). Gives T (truths (variables T) ks) r.0) (said_numbers T answer ls s) r.1, r.3),
    )

    pub lists_no_other_answer : (ns : List ℕ) → showing_answer file answer text ≡ taken ns
        → (ls : List Lit) × (t : Tree) × SaysSatisfiable answer ls × SetsAndSatisfies T ls × (24576 ≤ length text)
        × Gives T (truths (variables T) ls) t × TreeOf T t × ListsAnswer file answer text t
    lists_no_other_answer ns e =
        let r = lists_met e in
        let ls = numbers_said (answer_of answer) in
        let s = says T answer r.1 in
        let g = answer_lists r.0 r.1 in
        (ls, g.0, s, sets_of T answer ls s r.1, leb_sound 24576 (length text) r.0, g.1, g.2, g.3)

  -- an answer taken and then listed
  pub then_lists : (tree : List Node) (answer values text ns : List ℕ) → taking file tree answer values ≡ taken ns → 24576 ≤ length text
      → (vs : List Bool) × (t : Tree) × Model T vs × Gives T vs t × TreeOf T t × Takes file tree answer values T vs × Lists file tree (values_after file tree answer values) text t
  then_lists tree answer values text ns e k =
      let c = takes_no_other tree answer values ns e in
      let m = are_models tree answer values ns e in
      let g = (demand3 T (accepted_table file T a).sound).gives m.0 m.1 in
      let h : 8191 ≤ length (bits m.0 ++ drop (variables T) values) =
      omega (arith, length-append (bits m.0) (drop (variables T) values), length-drop (variables T) values, bits_length m.0, m.1.whole, c.4, (accepted_table file T a).few_variables) in
      (m.0, g.0, m.1, g.1, g.2, m.2, subst (λ (w : List ℕ). Lists file tree w text g.0) (sym m.2.left) (lists tree (drop (variables T) values) text m.0 g.0 c.3 h k m.1 g.1))

-- a table's own records, with anything behind them
own_trees : (T : Table) (more : List Node) → 1024 ≤ length (tree_of T ++ more) → OwnTree T (tree_of T ++ more)
own_trees T more l = record {
  long = l;
  own = all_in (λ i. same_node (get_or (tree_of T ++ more) i blank) (get_or (tree_of T) i blank)) (up_to (length (tree_of T)))
      (λ i h.
      subst (λ (n : Node). same_node n (get_or (tree_of T) i blank) ≡ true)
      (sym (get_or-append (tree_of T) more blank i (up_to_range i (length (tree_of T)) h)))
      (node_same (get_or (tree_of T) i blank)));
}

pub demand3_whole : ForEveryAcceptedFile
demand3_whole file T a =
    record {
      takes = λ tree answer values ls o l s. takes file T a tree answer values ls s o l;
      own_trees = own_trees T;
      takes_no_other = takes_no_other file T a;
      are_models = are_models file T a;
      all_models = all_models file T a;
      trees = demand3 T (accepted_table file T a).sound;
      then_lists = then_lists file T a;
      lists = lists file T a;
      lists_no_other = lists_no_other file T a;
      lists_answers = lists_answers file T a;
      lists_no_other_answer = lists_no_other_answer file T a;
    }
