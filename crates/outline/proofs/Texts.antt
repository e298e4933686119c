-- The lines of a text: in front those that begin with a byte, then the others; and what the questions say of them by their bytes alone.
use mathlib.Core.Path.{◌≡◌, refl, sym, ap, ◌∙◌}
use mathlib.Core.Bool.{Bool, true, false, cond, not, ◌&&◌}
use mathlib.Core.List.{List, [], ◌∷◌, ◌++◌, append_assoc, append-nil}
use Prim.Native.Nat.{ℕ, ◌+◌, ◌≤◌, ◌<◌}
use native.Mathlib.Omega.{arith}
use lib.Dec.{eqb, leb}
use lib.ListN.{length, length-append, length-map}
use borrow.Author.Tests.{lt-leb, le-leb}
use Rattle.std.specs.Prelude.{Option, Some, None, is_some, MatchOption}
use Rattle.std.proofs.lemmas.List.{append_cancel_right}
use Rattle.lists.specs.List.{all, take_while, drop_while}
use Rattle.lines.specs.Bytes.{LF}
use Rattle.lines.specs.Parts.{Piece, ended, placed, lines_of, push, put_byte}
use Rattle.grammar.specs.Line.{begins, body_in, field}
use Rattle.grammar.specs.Name.{names_in}
use Rattle.outline.specs.Index.{bytes_of}
use Rattle.outline.specs.Questions.{short}
use Rattle.outline.specs.Sections.{is_end, leading, past}

-- Lines by their bytes --------------------------------------------------------------------------------------------------------
pub bytes_placed : (k : ℕ) (xs : List (List ℕ)) → bytes_of (placed k xs) ≡ xs
unfolding placed
bytes_placed k [] = refl
bytes_placed k (x ∷ xs) = ap (λ (l : List (List ℕ)). x ∷ l) (bytes_placed (k + length x + 1) xs)

pub bytes_all : (s : List ℕ) → bytes_of (lines_of s) ≡ ended LF s
unfolding lines_of
bytes_all s = bytes_placed 0 (ended LF s)

pub leading_bytes : (c : ℕ) (ls : List Piece) → bytes_of (leading c ls) ≡ take_while (begins c) (bytes_of ls)
unfolding leading
leading_bytes c [] = refl
leading_bytes c (l ∷ ls) = go (begins c l.bytes) (leading_bytes c ls)
  where
    go : (t : Bool) → bytes_of (take_while (λ l. begins c l.bytes) ls) ≡ take_while (begins c) (bytes_of ls)
        → bytes_of (cond t (l ∷ take_while (λ l. begins c l.bytes) ls) []) ≡ cond t (l.bytes ∷ take_while (begins c) (bytes_of ls)) []
    go true e = ap (λ (m : List (List ℕ)). l.bytes ∷ m) e
    go false e = refl

pub past_bytes : (c : ℕ) (ls : List Piece) → bytes_of (past c ls) ≡ drop_while (begins c) (bytes_of ls)
unfolding past
past_bytes c [] = refl
past_bytes c (l ∷ ls) = go (begins c l.bytes) (past_bytes c ls)
  where
    go : (t : Bool) → bytes_of (drop_while (λ l. begins c l.bytes) ls) ≡ drop_while (begins c) (bytes_of ls)
        → bytes_of (cond t (drop_while (λ l. begins c l.bytes) ls) (l ∷ ls)) ≡ cond t (drop_while (begins c) (bytes_of ls)) (l.bytes ∷ bytes_of ls)
    go true e = e
    go false e = refl

pub count_bytes : (ls : List Piece) (xs : List (List ℕ)) → xs ≡ bytes_of ls → length xs ≡ length ls
count_bytes ls xs e = ap length e ∙ length-map ls (λ (l : Piece). l.bytes)

-- question 4
pub end_of : List (List ℕ) → Bool
end_of [] = false
end_of (l ∷ []) = false
end_of (l ∷ m ∷ []) = begins 73 l && begins 82 m
end_of (l ∷ m ∷ n ∷ ls) = false

pub end_bytes : (ls : List Piece) → is_end ls ≡ end_of (bytes_of ls)
unfolding is_end end_of
end_bytes [] = refl
end_bytes (l ∷ []) = refl
end_bytes (l ∷ m ∷ []) = refl
end_bytes (l ∷ m ∷ n ∷ ls) = refl

pub end_text : (s : List ℕ) → is_end (lines_of s) ≡ end_of (ended LF s)
end_text s = end_bytes (lines_of s) ∙ ap end_of (bytes_all s)

abbrev pub is_nil : List (List ℕ) → Bool
is_nil [] = true
is_nil (l ∷ ls) = false

pub end_none : (s : List ℕ) → ended LF s ≡ [] → is_end (lines_of s) ≡ false
unfolding end_of
end_none s e = end_text s ∙ ap end_of e

pub end_one : (s l b : List ℕ) → ended LF s ≡ l ∷ ended LF b → ended LF b ≡ [] → is_end (lines_of s) ≡ false
unfolding end_of
end_one s l b e q = end_text s ∙ ap end_of (e ∙ ap (λ (x : List (List ℕ)). l ∷ x) q)

pub end_two : (s l m : List ℕ) (xs : List (List ℕ)) → ended LF s ≡ l ∷ m ∷ xs → is_end (lines_of s) ≡ (begins 73 l && (begins 82 m && is_nil xs))
unfolding end_of
end_two s l m xs e = end_text s ∙ ap end_of e ∙ go xs (begins 73 l) (begins 82 m)
  where
    go : (xs : List (List ℕ)) (a b : Bool) → elim xs as (λ _. Bool) [ [] ↦ a && b | ◌∷◌ y ys ↦ false ] ≡ (a && (b && is_nil xs))
    go [] true true = refl
    go [] true false = refl
    go [] false b = refl
    go (x ∷ xs) true true = refl
    go (x ∷ xs) true false = refl
    go (x ∷ xs) false b = refl

-- what is asked of the two lines, and of the text behind them
pub end_said : (s l m : List ℕ) (xs : List (List ℕ)) {a b n : Bool} (t : Bool) → ended LF s ≡ l ∷ m ∷ xs → a ≡ begins 73 l → b ≡ begins 82 m → n ≡ is_nil xs
    → t ≡ (a && (b && n)) → t ≡ is_end (lines_of s)
end_said s l m xs t e p q r d = d ∙ sym (end_two s l m xs e ∙ rw (p, q, r))

pub nil_said : {A : Type 0} (f : A → List ℕ) (g : A → List (List ℕ)) (xs : List (List ℕ)) (r : Option A) (t : Bool)
    → MatchOption r (xs ≡ []) (λ x. xs ≡ f x ∷ g x)
    → is_some r ≡ not t → t ≡ is_nil xs
nil_said f g xs None true h e = sym (ap is_nil h)
nil_said f g xs None false h e = absurd (cc)
nil_said f g xs (Some x) true h e = absurd (cc)
nil_said f g xs (Some x) false h e = sym (ap is_nil h)

-- question 5, of bodies
abbrev pub is_short : List ℕ → Bool
is_short l = leb (length (body_in l)) 8

pub short_bytes : (ls : List Piece) → all short ls ≡ all is_short (bytes_of ls)
unfolding short
short_bytes [] = refl
short_bytes (l ∷ ls) = ap (λ (t : Bool). is_short l.bytes && t) (short_bytes ls)

pub short_text : (s : List ℕ) → all short (lines_of s) ≡ all is_short (ended LF s)
short_text s = short_bytes (lines_of s) ∙ ap (all is_short) (bytes_all s)

pub short_none : (s : List ℕ) → ended LF s ≡ [] → all short (lines_of s) ≡ true
short_none s e = short_text s ∙ ap (all is_short) e

module _ (s l b : List ℕ) {n : ℕ} (e : ended LF s ≡ l ∷ ended LF b) (q : n ≡ length (body_in l)) where
  short_first : all short (lines_of s) ≡ (leb n 8 && all short (lines_of b))
  short_first = short_text s ∙ ap (all is_short) e ∙ rw (← q, short_text b)

  pub short_out : 8 < n → all short (lines_of s) ≡ false
  short_out h = rw (short_first, lt-leb n 8 h)

  pub short_more : n ≤ 8 → all short (lines_of s) ≡ all short (lines_of b)
  short_more h = rw (short_first, le-leb n 8 h)

-- the size of a body
pub body_size : (l f : List ℕ) {n : ℕ} → n ≡ length (names_in f) → f ≡ field l 2 → n ≡ length (body_in l)
unfolding body_in
body_size l f e q = e ∙ ap (λ (g : List ℕ). length (names_in g)) q

-- The lines in front that begin with a byte --------------------------------------------------------------------------------------
-- what an LF ends, whatever stands behind
ends : (a : List ℕ) → (f : List ℕ) × (m : List (List ℕ)) × ((b : List ℕ) → ended LF (a ++ LF ∷ b) ≡ f ∷ (m ++ ended LF b))
unfolding ended
ends [] = ([], [], λ b. refl)
ends (x ∷ a) = go (eqb x LF) (ends a)
  where
    go : (t : Bool) → (f : List ℕ) × (m : List (List ℕ)) × ((b : List ℕ) → ended LF (a ++ LF ∷ b) ≡ f ∷ (m ++ ended LF b))
        → (f : List ℕ) × (m : List (List ℕ)) × ((b : List ℕ) → put_byte t x (ended LF (a ++ LF ∷ b)) ≡ f ∷ (m ++ ended LF b))
    go true (f, m, e) = ([], f ∷ m, λ b. ap (λ (l : List (List ℕ)). [] ∷ l) (e b))
    go false (f, m, e) = (x ∷ f, m, λ b. ap (push x) (e b))

ended_append : (a b : List ℕ) → ended LF (a ++ LF ∷ b) ≡ ended LF (a ++ LF ∷ []) ++ ended LF b
unfolding ended
ended_append a b = go (ends a)
  where
    go : (f : List ℕ) × (m : List (List ℕ)) × ((b : List ℕ) → ended LF (a ++ LF ∷ b) ≡ f ∷ (m ++ ended LF b))
        → ended LF (a ++ LF ∷ b) ≡ ended LF (a ++ LF ∷ []) ++ ended LF b
    go (f, m, e) = e b ∙ sym (ap (λ (l : List (List ℕ)). l ++ ended LF b) (e []) ∙ simp append-nil)

-- the walk over them: `taken` is the text that is done, which is whole lines
pub record Led (c : ℕ) (text rest : List ℕ) (n : ℕ) : Type 0 where
  pub taken : List ℕ
  pub parts : text ≡ taken ++ rest
  pub whole : (b : List ℕ) → ended LF (taken ++ b) ≡ ended LF taken ++ ended LF b
  pub lead : take_while (begins c) (ended LF text) ≡ ended LF taken ++ take_while (begins c) (ended LF rest)
  pub past : drop_while (begins c) (ended LF text) ≡ drop_while (begins c) (ended LF rest)
  pub lines : (k : ℕ) (xs : List (List ℕ)) → placed k (ended LF taken ++ xs) ≡ placed k (ended LF taken) ++ placed (k + length taken) xs
  pub count : n ≡ length (ended LF taken)
  pub few : n + length rest ≤ length text

pub led_first : (c : ℕ) (text : List ℕ) → Led c text text 0
unfolding ended placed
led_first c text = record {
  taken = [];
  parts = refl;
  whole = λ b. refl;
  lead = refl;
  past = refl;
  lines = λ k xs. let z : k + 0 ≡ k = omega arith in rw z;
  count = refl;
  few = omega arith;
}

-- one line more
placed_more : (ls : List (List ℕ)) (line : List ℕ) (k n : ℕ) (xs : List (List ℕ))
    → ((xs : List (List ℕ)) → placed k (ls ++ xs) ≡ placed k ls ++ placed (k + n) xs)
    → placed k ((ls ++ line ∷ []) ++ xs) ≡ placed k (ls ++ line ∷ []) ++ placed (k + (n + (length line + 1))) xs
unfolding placed
placed_more ls line k n xs h =
    let z : k + (n + (length line + 1)) ≡ k + n + length line + 1 = omega arith in
    rw (z, append_assoc, h (line ∷ xs), h (line ∷ []), append_assoc)

module _ {c : ℕ} {text rest : List ℕ} {n : ℕ} (u : Led c text rest n) where
  pub led_more : {line behind : List ℕ} → rest ≡ line ++ LF ∷ behind → ended LF rest ≡ line ∷ ended LF behind → begins c line ≡ true
      → Led c text behind (n + 1)
  led_more {line} {behind} p e b =
      let full : List ℕ = line ++ LF ∷ [] in
      let one : ended LF full ≡ line ∷ [] =
      append_cancel_right (ended LF full) (line ∷ []) (ended LF behind) (sym (ended_append line behind) ∙ ap (ended LF) (sym p) ∙ e) in
      let done : ended LF (u.taken ++ full) ≡ ended LF u.taken ++ line ∷ [] = u.whole full ∙ ap (λ (l : List (List ℕ)). ended LF u.taken ++ l) one in
      record {
        taken = u.taken ++ full;
        parts = u.parts ∙ ap (λ (l : List ℕ). u.taken ++ l) p ∙ simp append_assoc;
        whole = λ w. simp append_assoc
            (u.whole (line ++ LF ∷ w) ∙ ap (λ (l : List (List ℕ)). ended LF u.taken ++ l) (ended_append line w) ∙ sym (append_assoc (ended LF u.taken) (ended LF full) (ended LF w))
            ∙ ap (λ (l : List (List ℕ)). l ++ ended LF w) (sym (u.whole full)));
        lead = u.lead ∙ rw (e, b, done, append_assoc);
        past = u.past ∙ rw (e, b);
        lines = λ k xs.
            let z : length (u.taken ++ full) ≡ length u.taken + (length line + 1) = omega (arith, length-append u.taken full, length-append line (LF ∷ [])) in
            rw (done, z) (placed_more (ended LF u.taken) line k (length u.taken) xs (u.lines k));
        count = omega (arith, u.count, ap length done, length-append (ended LF u.taken) (line ∷ []));
        few = omega (arith, u.few, ap length p, length-append line (LF ∷ behind));
      }
