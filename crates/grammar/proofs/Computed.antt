-- Names, lists and lines of document 01's table and around its edges.
-- Each is computed.
use mathlib.Core.Path.{◌≡◌, refl}
use mathlib.Core.Bool.{true, false}
use mathlib.Core.List.{[], ◌∷◌}
use Rattle.lists.specs.Text.{bytes}
use Rattle.grammar.specs.Name.{is_name, is_list, names_in}
use Rattle.grammar.specs.Line.{is_line}
use Rattle.grammar.specs.File.{met2}

-- "A name is 1 to 12 characters"
pub twelve : is_name (bytes "a23456789-bc") ≡ true
unfolding is_name
twelve = refl

pub thirteen : is_name (bytes "a23456789-bcd") ≡ false
unfolding is_name
thirteen = refl

-- "names parted by single commas, or a lone hyphen for the empty list"
pub trailing_comma : is_list (bytes "open,") ≡ false
unfolding is_list
trailing_comma = refl

pub double_comma : is_list (bytes "open,,shut") ≡ false
unfolding is_list
double_comma = refl

pub hyphen_among : is_list (bytes "open,-") ≡ false
unfolding is_list
hyphen_among = refl

pub hyphen_alone : names_in (bytes "-") ≡ []
unfolding names_in
hyphen_alone = refl

pub two_names : names_in (bytes "open,shut") ≡ bytes "open" ∷ bytes "shut" ∷ []
unfolding names_in
two_names = refl

-- "fields parted by one tab. The first field is one of six letters."
pub step_line_lem : is_line (bytes "S\tlift\t-\topen\t-") ≡ true
unfolding is_line
step_line_lem = refl

pub step_line_short : is_line (bytes "S\tlift\t-\topen") ≡ false
unfolding is_line
step_line_short = refl

pub root_line_lem : is_line (bytes "R\tserve\t9") ≡ false
unfolding is_line
root_line_lem = refl

pub other_letter : is_line (bytes "f\topen") ≡ false
unfolding is_line
other_letter = refl

pub empty_line : is_line [] ≡ false
unfolding is_line
empty_line = refl

-- "is its last byte LF"
pub no_last_LF : met2 (bytes "F\topen") ≡ false
unfolding met2
no_last_LF = refl
