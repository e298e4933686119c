-- What comes of the questions that a call puts, for every call.
-- By the definition of `asked`.
use mathlib.Core.Path.{◌≡◌, refl, sym, ap}
use mathlib.Core.Bool.{Bool, true, false}
use mathlib.Core.List.{List, ◌∷◌}
use Prim.Native.Nat.{ℕ, zero, suc}
use native.Mathlib.Omega.{arith}
use Rattle.lists.specs.Question.{first_unmet}
use Rattle.planning.specs.Table.{Table}
use Rattle.questions.specs.Questions.{Verdict, unmet, accepted, accepting, by_number, by_verdict, asked, HandedBack, turned_down, taken}

-- A call of these questions hands back these values and leaves this, or leaves what it was lent as it was ---------------------------
module _ {L : Type 0} (enough : Bool) (file : List ℕ) (more : Table → List (ℕ × Bool)) (values : Table → List ℕ) (old : L) (left : Table → L) where
  abbrev Came : HandedBack → L → Type 0
  Came back new = (back ≡ asked enough file more turned_down (λ T. taken (values T))) × (new ≡ asked enough file more (λ n. old) left)

  -- what is lent is too short
  pub came_short : enough ≡ false → Came (turned_down 1) old
  came_short e = (rw e, rw e)

  -- 1 is met, and one of 2 to 9 is not
  pub came_unmet : enough ≡ true → {q : ℕ} → accepting file ≡ unmet q → Came (turned_down q) old
  came_unmet e a = (rw (e, a), rw (e, a))

  -- 1 to 9 are met, and one behind 9 is not, or all are
  module _ (e : enough ≡ true) {T : Table} (a : accepting file ≡ accepted T) where
    pub came_by : {back : HandedBack} {new : L} → back ≡ by_number (first_unmet (more T)) turned_down (taken (values T))
        → new ≡ by_number (first_unmet (more T)) (λ n. old) (left T) → Came back new
    came_by b n = (rw (e, a) b, rw (e, a) n)

    pub came_refused : {q : ℕ} → first_unmet (more T) ≡ q → (q ≡ 0 → ⊥) → Came (turned_down q) old
    came_refused {q = zero} u n = absurd (n refl)
    came_refused {q = suc q} u n = came_by (sym (rw u)) (sym (rw u))

    pub came_met : first_unmet (more T) ≡ 0 → Came (taken (values T)) (left T)
    came_met u = came_by (sym (rw u)) (sym (rw u))

-- What comes of questions that are met up to 9
module _ {A : Type 0} (file : List ℕ) (more : Table → List (ℕ × Bool)) (refuse : ℕ → A) (succeed : Table → A) where
  pub asked_accepted : {T : Table} → accepting file ≡ accepted T → {b : Bool} → b ≡ true → asked b file more refuse succeed ≡ by_number (first_unmet (more T)) refuse (succeed T)
  asked_accepted a e = rw (e, a)

-- A question in front of others that is met, or not
module _ (n : ℕ) (qs : List (ℕ × Bool)) where
  pub front_met : {b : Bool} → b ≡ true → first_unmet ((n, b) ∷ qs) ≡ first_unmet qs
  front_met e = rw e

  pub front_unmet : {b : Bool} → b ≡ false → first_unmet ((n, b) ∷ qs) ≡ n
  front_unmet e = rw e

-- What was handed back tells what comes of the same questions otherwise --------------------------------------------------------
module _ (file : List ℕ) (more : Table → List (ℕ × Bool)) (f : Table → List ℕ) (b : Bool) where
  abbrev handed : HandedBack
  handed = asked b file more turned_down (λ T. taken (f T))

  down : {m n : ℕ} → turned_down m ≡ turned_down n → m ≡ n
  down e = cc

  never : {A : Type 0} {n : ℕ} {ns : List ℕ} → turned_down n ≡ taken ns → A
  never e = let z : ◌≡◌ {A = ℕ} 0 1 = cc in absurd (omega arith)

  module _ {A : Type 0} (refuse : ℕ → A) (succeed : Table → A) where
    -- the refusal is by that number
    pub asked_refused : {q : ℕ} → turned_down q ≡ handed → asked b file more refuse succeed ≡ refuse q
    asked_refused {q} e = short b e
      where
        put : (n : ℕ) (a : A) (ns : List ℕ) → turned_down q ≡ by_number n turned_down (taken ns) → by_number n refuse a ≡ refuse q
        put zero a ns h = never h
        put (suc n) a ns h = ap refuse (sym (down h))

        by : (v : Verdict) → turned_down q ≡ by_verdict v more turned_down (λ T. taken (f T)) → by_verdict v more refuse succeed ≡ refuse q
        by (unmet n) h = ap refuse (sym (down h))
        by (accepted T) h = put (first_unmet (more T)) (succeed T) (f T) h

        short : (c : Bool) → turned_down q ≡ asked c file more turned_down (λ T. taken (f T)) → asked c file more refuse succeed ≡ refuse q
        short true h = by (accepting file) h
        short false h = ap refuse (sym (down h))

  -- values were handed back for this table
  pub record Handed (ns : List ℕ) : Type 0 where
    pub table : Table
    pub accepts : accepting file ≡ accepted table
    pub enough : b ≡ true
    pub met : first_unmet (more table) ≡ 0
    pub values : ns ≡ f table

  pub asked_handed : {ns : List ℕ} → taken ns ≡ handed → Handed ns
  asked_handed {ns} e = short b refl e
    where
      put : (T : Table) (n : ℕ) → accepting file ≡ accepted T → b ≡ true → first_unmet (more T) ≡ n → taken ns ≡ by_number n turned_down (taken (f T)) → Handed ns
      put T zero a c q h = record { table = T; accepts = a; enough = c; met = q; values = cc }
      put T (suc n) a c q h = never (sym h)

      by : (v : Verdict) → accepting file ≡ v → b ≡ true → taken ns ≡ by_verdict v more turned_down (λ T. taken (f T)) → Handed ns
      by (unmet n) a c h = never (sym h)
      by (accepted T) a c h = put T (first_unmet (more T)) a c refl h

      short : (c : Bool) → b ≡ c → taken ns ≡ asked c file more turned_down (λ T. taken (f T)) → Handed ns
      short true c h = by (accepting file) refl c h
      short false c h = never (sym h)
