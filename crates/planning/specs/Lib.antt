-- The meaning of document 01, to be read in this order.
--
-- How to read it. `f x y` is f of x and y; `λ x. e` is the function that gives e for x; `(n, t)` is a pair, `x.0` its first part and
-- `x.1` its second; `r.f` is field f of a record. A list is `a ∷ b ∷ []`; `++` joins lists; `get_or l i d` is member i of l, counted from 0,
-- or d past the end, and `get_elem? l i` is `some` member or `none`. `suc n` is n + 1, and `n - m` is 0 where m is greater. Tests give
-- true or false: `eqb`, `leb`, `ltb` for equal, at most, less; `&&`, `||` and `not` for and, or, not. `cond b x y` is x if b is true, else y;
-- `elim e [ .. | .. ]` goes by cases. Several lines `f .. = ..` are the cases of one definition.
-- A statement is a type: `≡` is equality, `×` is "and", `(t : Tree) × P t` is "there is a tree t with P t", `→` is "if .. then" and
-- "for every", `↔` is "exactly when", `⊎` is "or", `⊥` is never so, `Unit` always. A record whose fields are statements says all of them.
-- `pub`, `abbrev`, `unfoldable`, `unfolding`, `mutual` and `{0}` tell the checker how to treat a definition and mean nothing here.
-- `let x = e in ..` names e. `map f l` is f of each member; `take n l` and `drop n l` are the first n members and the others; `slice a b l`
-- is the members from place a up to, not including, b; `set l i x` is l with x at place i; `replicate n x` is n times x. A field whose name
-- has `_` is written `r.a_b`. In a contract `⌜ .. ⌝` holds a statement, `λ r.` names the result, and `now s.entry` and
-- `now s.exit` are what a lent slice holds before and after the call.
--
-- what a table is, and what its reader promises of it
pub mod Table
-- what a procedure tree is, and what it is for its steps to be done
pub mod Tree
-- the tree of places, and its records
pub mod Place
pub mod Record
-- the formula: variables, clauses, models, and the tree that a model gives
pub mod Variable
pub mod Clause
pub mod Model
-- the solver's file
pub mod Text
-- what is known of an accepted table
pub mod Accepted
-- the statements: demand 3, the ten marked tables, and what is promised of formula and text
pub mod Demand3
pub mod Marked
pub mod Promises
