-- The five properties that have a table: an ASCII part, and the table from its floor on. Assumes nothing.
use Rattle.std.specs.Prelude.{◌≡◌, ℕ, ◌||◌, ◌&&◌, leb}
use mathlib.Core.Bool.{or-false}
use Rattle.scalar.specs.Scalars.{ascii_digit, ascii_upper, ascii_lower}
use Rattle.sets.specs.Lists.{holds}
use Rattle.unicode_laws.proofs.Parts.{in_parts}
use Rattle.properties.specs.Properties.{alphabetic, lowercase, uppercase, titlecase, numeric}
use Rattle.table_alphabetic.specs.Flat as Alphabetic
use Rattle.table_alphabetic.proofs.Whole as alphabetic_whole
use Rattle.table_lowercase.specs.Flat as Lowercase
use Rattle.table_lowercase.proofs.Whole as lowercase_whole
use Rattle.table_uppercase.specs.Flat as Uppercase
use Rattle.table_uppercase.proofs.Whole as uppercase_whole
use Rattle.table_titlecase.specs.Flat as Titlecase
use Rattle.table_titlecase.proofs.Whole as titlecase_whole
use Rattle.table_numeric.specs.Flat as Numeric
use Rattle.table_numeric.proofs.Whole as numeric_whole

module _ (x : ℕ) where
  pub alphabetic_by : alphabetic x ≡ ((ascii_upper x || ascii_lower x) || (leb 0xAA x && holds Alphabetic.flat x))
  unfolding holds
  alphabetic_by = simp or-false at (in_parts _ _ _ _ alphabetic_whole.parts x)

  pub lowercase_by : lowercase x ≡ (ascii_lower x || (leb 0xAA x && holds Lowercase.flat x))
  unfolding holds
  lowercase_by = simp or-false at (in_parts _ _ _ _ lowercase_whole.parts x)

  pub uppercase_by : uppercase x ≡ (ascii_upper x || (leb 0xC0 x && holds Uppercase.flat x))
  unfolding holds
  uppercase_by = simp or-false at (in_parts _ _ _ _ uppercase_whole.parts x)

  pub titlecase_by : titlecase x ≡ (leb 0x1C5 x && holds Titlecase.flat x)
  unfolding holds
  titlecase_by = in_parts _ _ _ _ titlecase_whole.parts x

  pub numeric_by : numeric x ≡ (ascii_digit x || (leb 0xB2 x && holds Numeric.flat x))
  unfolding holds
  numeric_by = simp or-false at (in_parts _ _ _ _ numeric_whole.parts x)
