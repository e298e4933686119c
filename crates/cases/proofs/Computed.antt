-- Small examples. The checksums of the three texts are those that FNV's authors publish.
-- Each is computed.
use Rattle.std.proofs.Common.{◌≡◌, [], get_or, refl}
use Rattle.lists.specs.Text.{bytes}
use Rattle.lines.specs.Parts.{split}
use Rattle.cases.specs.Number.{spelled}
use Rattle.cases.specs.Checksum.{basis, of_bytes}

pub field_last : get_or (split 9 (bytes "call\tx.tab\t\t12")) 3 [] ≡ bytes "12"
unfolding split
field_last = refl

pub field_empty : get_or (split 9 (bytes "call\tx.tab\t\t12")) 2 [] ≡ []
unfolding split
field_empty = refl

pub field_none : get_or (split 9 (bytes "call\tx.tab\t\t12")) 4 [] ≡ []
unfolding split
field_none = refl

pub spelled_none : spelled [] ≡ 0
spelled_none = refl

pub spelled_most : spelled (bytes "18446744073709551615") ≡ 18446744073709551615
spelled_most = refl

pub checksum_none : of_bytes basis (bytes "") ≡ 14695981039346656037
checksum_none = refl

pub checksum_a : of_bytes basis (bytes "a") ≡ 12638187200555641996
checksum_a = refl

pub checksum_foobar : of_bytes basis (bytes "foobar") ≡ 9625390261332436968
checksum_foobar = refl
