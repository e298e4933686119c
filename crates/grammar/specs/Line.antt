-- Lines of a table file: the letter, the form of the fields after it, and what each field says.
-- Assumes nothing.
use Rattle.std.specs.Prelude.{Bool, true, false, ◌&&◌, List, [], ◌∷◌, ℕ, ◌-◌, eqb, length, get_or}
use Rattle.lists.specs.List.{any}
use Rattle.lines.specs.Parts.{split}
use Rattle.grammar.specs.Byte.{tab, of_depth}
use Rattle.grammar.specs.Name.{Name, is_name, is_list, names_in}

-- "The first field is one of six letters"; any other byte is none of them
pub data Letter : Type 0 where
  F S T M I R other : Letter

abbrev pub pick_letter : Bool → Letter → Letter → Letter
pick_letter true l m = l
pick_letter false l m = m

-- the letter's byte; no line is told by that of `other`
abbrev pub byte_of : Letter → ℕ
byte_of F = 70
byte_of S = 83
byte_of T = 84
byte_of M = 77
byte_of I = 73
byte_of R = 82
byte_of other = 0

-- does the line begin with the byte c?
unfoldable pub begins : ℕ → List ℕ → Bool
begins c [] = false
begins c (b ∷ l) = eqb b c

-- the letter whose byte b is
unfoldable pub letter_of : ℕ → Letter
letter_of b =
    pick_letter (eqb b (byte_of F)) F (pick_letter (eqb b (byte_of S)) S (pick_letter (eqb b (byte_of T)) T (pick_letter (eqb b (byte_of M)) M
    (pick_letter (eqb b (byte_of I)) I (pick_letter (eqb b (byte_of R)) R other)))))

-- the letter of a line: its first byte's
unfoldable pub letter : List ℕ → Letter
unfolding letter_of
letter l = letter_of (get_or l 0 0)

-- what a field has to be
pub data Form : Type 0 where
  name list depth : Form

-- the forms that a line may have after its letter: each is a list of fields, and the line must fit one
abbrev pub forms : Letter → List (List Form)
forms F = (name ∷ []) ∷ []
forms S = (name ∷ list ∷ list ∷ list ∷ []) ∷ []
forms T = (name ∷ []) ∷ []
forms M = (name ∷ list ∷ []) ∷ []
forms I = (list ∷ []) ∷ []
forms R = (name ∷ depth ∷ []) ∷ []
forms other = []

-- "depth: one digit 1 to 8"
unfoldable pub is_depth : List ℕ → Bool
unfolding of_depth
is_depth f = eqb (length f) 1 && of_depth (get_or f 0 0)

unfoldable pub has_form : Form → List ℕ → Bool
unfolding is_name is_list is_depth
has_form name f = is_name f
has_form list f = is_list f
has_form depth f = is_depth f

-- "with its field count, names, lists and digit formed as above"
unfoldable pub formed : List (List ℕ) → List Form → Bool
unfolding has_form
formed [] [] = true
formed [] (k ∷ ks) = false
formed (f ∷ fs) [] = false
formed (f ∷ fs) (k ∷ ks) = has_form k f && formed fs ks

-- the first field is one byte, the letter, and the others have one of its forms
unfoldable pub formed_as : Letter → List (List ℕ) → Bool
unfolding formed
formed_as c [] = false
formed_as c (f ∷ fs) = eqb (length f) 1 && any (formed fs) (forms c)

-- "of a known letter, with its field count, names, lists and digit formed as above"
unfoldable pub is_line : List ℕ → Bool
unfolding letter split formed_as
is_line l = formed_as (letter l) (split tab l)

-- field i of a line; field 0 is the letter
unfoldable pub field : List ℕ → ℕ → List ℕ
unfolding split
field l i = get_or (split tab l) i []

-- F, S, T: the name declared; M: the name of its job; R: the name of the root job
unfoldable pub name_in : List ℕ → Name
unfolding field
name_in l = field l 1

-- S: facts needed, facts set, facts cleared
unfoldable pub needs_in : List ℕ → List Name
unfolding field names_in
needs_in l = names_in (field l 2)

unfoldable pub sets_in : List ℕ → List Name
unfolding field names_in
sets_in l = names_in (field l 3)

unfoldable pub clears_in : List ℕ → List Name
unfolding field names_in
clears_in l = names_in (field l 4)

-- M: "body: a list of steps and jobs"
unfoldable pub body_in : List ℕ → List Name
unfolding field names_in
body_in l = names_in (field l 2)

-- I: "facts true at the start"
unfoldable pub start_in : List ℕ → List Name
unfolding field names_in
start_in l = names_in (field l 1)

-- R: depth
unfoldable pub depth_in : List ℕ → ℕ
unfolding field
depth_in l = get_or (field l 2) 0 0 - 48
