-- The nine properties by Unicode 17.0.0's lists: a number has one exactly if some range of its list holds it. The lists of
-- five stand beside their tables; White_Space and Cc stand here. Assumes nothing: these are definitions.
use Rattle.std.specs.Prelude.{ℕ, Bool, ◌||◌, List, drop}
use Rattle.sets.specs.Lists.{holds}
use Rattle.table_alphabetic.specs.Unicode as Alphabetic
use Rattle.table_lowercase.specs.Unicode as Lowercase
use Rattle.table_uppercase.specs.Unicode as Uppercase
use Rattle.table_titlecase.specs.Unicode as Lt
use Rattle.table_numeric.specs.Unicode as N
use Rattle.properties.specs.WhiteSpace as White_Space
use Rattle.properties.specs.Control as Cc

abbrev pub alphabetic : ℕ → Bool
alphabetic = holds Alphabetic.unicode

abbrev pub lowercase : ℕ → Bool
lowercase = holds Lowercase.unicode

abbrev pub uppercase : ℕ → Bool
uppercase = holds Uppercase.unicode

-- titlecase is category Lt
abbrev pub titlecase : ℕ → Bool
titlecase = holds Lt.unicode

-- numeric Nd, Nl or No
abbrev pub numeric : ℕ → Bool
numeric = holds N.unicode

abbrev pub whitespace : ℕ → Bool
whitespace = holds White_Space.unicode

-- control Cc
abbrev pub control : ℕ → Bool
control = holds Cc.unicode

-- cased is lowercase, uppercase or titlecase
abbrev pub cased : ℕ → Bool
cased x = lowercase x || (uppercase x || titlecase x)

-- alphanumeric is alphabetic or numeric
abbrev pub alphanumeric : ℕ → Bool
alphanumeric x = alphabetic x || numeric x

-- whitespace past ASCII: all ranges but the first two
abbrev pub other_spaces : List ℕ
other_spaces = drop 4 White_Space.unicode
