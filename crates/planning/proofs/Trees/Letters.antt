-- Rule 2 at an inner node, letter by letter: its clauses are satisfied exactly when those of each letter are.
-- By the laws of clauses one after the other.
use mathlib.Core.Path.{◌≡◌}
use mathlib.Core.Bool.{true}
use mathlib.Core.List.{List, ◌++◌, map}
use Prim.Native.Nat.{ℕ}
use Rattle.lists.specs.List.{◌∈◌, concat_map}
use Rattle.planning.specs.Table.{Task, Table, body_of}
use Rattle.planning.specs.Clause.{Clause, pairs, job_clause, method_clause, body_clauses, step_clauses, up_clause, inner_clauses}
use Rattle.planning.specs.Model.{Valuation, clause_true, satisfies}
use Rattle.planning.proofs.Satisfy.{sat_l, sat_r, sat_in, map_out, map_in, concat_map_out, concat_map_in}

pub record Node (T : Table) (v : Valuation) (tasks : List (ℕ × Task)) (methods : List (ℕ × ℕ)) (children : List (List (ℕ × Task))) : Type 0 where
  pub a : satisfies v (pairs tasks) ≡ true
  pub b : satisfies v (pairs methods) ≡ true
  pub c : (x : ℕ × Task) → x ∈ tasks → satisfies v (job_clause T methods x) ≡ true
  pub d : (m : ℕ × ℕ) → m ∈ methods → clause_true v (method_clause T tasks m) ≡ true
  pub e : (m : ℕ × ℕ) → m ∈ methods → satisfies v (body_clauses m.0 (body_of T m.1) children) ≡ true
  pub f : (x : ℕ × Task) → x ∈ tasks → satisfies v (step_clauses children x) ≡ true
  pub g : (c : List (ℕ × Task)) → c ∈ children → (x : ℕ × Task) → x ∈ c → clause_true v (up_clause tasks x) ≡ true

module _ (T : Table) (v : Valuation) (tasks : List (ℕ × Task)) (methods : List (ℕ × ℕ)) (children : List (List (ℕ × Task))) where
  abbrev C : List Clause
  C = concat_map (job_clause T methods) tasks

  abbrev D : List Clause
  D = map (method_clause T tasks) methods

  abbrev E : List Clause
  E = concat_map (λ m. body_clauses m.0 (body_of T m.1) children) methods

  abbrev F : List Clause
  F = concat_map (step_clauses children) tasks

  abbrev G : List Clause
  G = concat_map (λ c. map (up_clause tasks) c) children

  pub node_out : satisfies v (inner_clauses T tasks methods children) ≡ true → Node T v tasks methods children
  node_out s =
      let sb = sat_r v (pairs tasks) (pairs methods ++ (C ++ (D ++ (E ++ (F ++ G))))) s in
      let sc = sat_r v (pairs methods) (C ++ (D ++ (E ++ (F ++ G)))) sb in
      let sd = sat_r v C (D ++ (E ++ (F ++ G))) sc in
      let se = sat_r v D (E ++ (F ++ G)) sd in
      let sf = sat_r v E (F ++ G) se in
      record {
        a = sat_l v (pairs tasks) (pairs methods ++ (C ++ (D ++ (E ++ (F ++ G))))) s;
        b = sat_l v (pairs methods) (C ++ (D ++ (E ++ (F ++ G)))) sb;
        c = concat_map_out v (job_clause T methods) tasks (sat_l v C (D ++ (E ++ (F ++ G))) sc);
        d = map_out v (method_clause T tasks) methods (sat_l v D (E ++ (F ++ G)) sd);
        e = concat_map_out v (λ m. body_clauses m.0 (body_of T m.1) children) methods (sat_l v E (F ++ G) se);
        f = concat_map_out v (step_clauses children) tasks (sat_l v F G sf);
        g = λ k m. map_out v (up_clause tasks) k (concat_map_out v (λ c. map (up_clause tasks) c) children (sat_r v F G sf) k m);
      }

  pub node_in : Node T v tasks methods children → satisfies v (inner_clauses T tasks methods children) ≡ true
  node_in n =
      sat_in v (pairs tasks) (pairs methods ++ (C ++ (D ++ (E ++ (F ++ G))))) n.a
      (sat_in v (pairs methods) (C ++ (D ++ (E ++ (F ++ G)))) n.b
      (sat_in v C (D ++ (E ++ (F ++ G))) (concat_map_in v (job_clause T methods) tasks n.c)
      (sat_in v D (E ++ (F ++ G)) (map_in v (method_clause T tasks) methods n.d)
      (sat_in v E (F ++ G) (concat_map_in v (λ m. body_clauses m.0 (body_of T m.1) children) methods n.e)
      (sat_in v F G (concat_map_in v (step_clauses children) tasks n.f)
      (concat_map_in v (λ c. map (up_clause tasks) c) children (λ k m. map_in v (up_clause tasks) k (n.g k m))))))))
