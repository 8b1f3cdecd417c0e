-- How a plane's rows are laid out for reading: each single row packed into a word, and for each page of 256 numbers the single
-- rows that can hold them. Assumes nothing: these are definitions.
use Rattle.std.specs.Prelude.{◌≡◌, ℕ, suc, ◌+◌, ◌*◌, ◌/◌, ◌%◌, ◌<◌, ◌≤◌, Bool, true, false, cond, ◌&&◌, List, [], ◌∷◌, length, ◌==◌, nat_le, nat_lt, slice_index, Option, Some, None}
use Rattle.casing.specs.declared.Mapping.{Mapping}
use Rattle.casing.specs.Answers.{made}
use Rattle.casing.specs.Rows.{Rows, Row, covers, moved, singles, apart, tidy_singles, tidy_multis}

-- the numbers that were found, as an answer, or else other
abbrev pub or_else : Option (ℕ × ℕ × ℕ) → Mapping → Mapping
or_else (Some (a, b, c)) other = made a b c
or_else None other = other

-- what was found is what these rows say, whatever stands under them
abbrev pub Says : Option (ℕ × ℕ × ℕ) → (Mapping → Mapping) → Type 0
Says found rows = (other : Mapping) → or_else found other ≡ rows other

-- where one single row sends a number
abbrev pub row_says : Row → ℕ → ℕ → Option (ℕ × ℕ × ℕ)
row_says q plane x = cond (covers q.0 q.1 q.2 x) (Some (moved plane x q.3, 0, 0)) None

-- the four numbers of a row in a word, 16 bits each, the start lowest
abbrev pub word_of : Row → ℕ
word_of q = q.0 + (q.1 + (q.2 + q.3 * 65536) * 65536) * 65536

abbrev pub unpacked : ℕ → Row
unpacked word = (word % 65536, word / 65536 % 65536, word / 65536 / 65536 % 65536, word / 65536 / 65536 / 65536 % 65536)

unfoldable pub packed : List Row → List ℕ
packed [] = []
packed (q ∷ qs) = word_of q ∷ packed qs

-- the words four by four, and 0 past the last
abbrev pub four_at : List ℕ → ℕ → List ℕ
four_at words k =
    slice_index words (k * 4) ∷ slice_index words (k * 4 + 1) ∷ slice_index words (k * 4 + 2) ∷ slice_index words (k * 4 + 3) ∷ []

-- r is the word at i, if the four are those that hold it
abbrev pub RowOf : List ℕ → ℕ → ℕ → Type 0
RowOf four i r = (words : List ℕ) → four ≡ four_at words (i / 4) → r ≡ slice_index words i

-- a flat list, page by page: the page, its first row, the row after its last; a page that is not listed is empty
unfoldable pub page_of : List ℕ → ℕ → Option (ℕ × ℕ)
page_of [] x = None
page_of (p ∷ []) x = None
page_of (p ∷ (a ∷ [])) x = None
page_of (p ∷ (a ∷ (b ∷ l))) x = cond (p == x) (Some (a, b)) (page_of l x)

-- what halving finds among the rows from first to before last
pub record Halved (ends : List ℕ) (first last x r : ℕ) : Type 0 where
  pub from : first ≤ r
  pub upto : r ≤ last
  pub below : (j : ℕ) → first ≤ j → j < r → slice_index ends j < x
  pub reached : r < last → x ≤ slice_index ends r

-- the row at j is one of the page's
abbrev pub among : Option (ℕ × ℕ) → ℕ → Bool
among (Some (a, b)) j = nat_le a j && nat_lt j b
among None j = false

abbrev pub in_use : Option (ℕ × ℕ) → Bool
in_use (Some rows) = true
in_use None = false

-- each single row, from the one at j on, is among the rows of the page where it starts and of the page where it ends: the same or the next
unfoldable pub singles_paged : List ℕ → ℕ → List ℕ → List ℕ → Bool
singles_paged pages j [] es = true
singles_paged pages j (s ∷ ss) [] = true
singles_paged pages j (s ∷ ss) (e ∷ es) =
    among (page_of pages (s / 256)) j && (among (page_of pages (e / 256)) j && (nat_le (e / 256) (suc (s / 256)) && singles_paged pages (suc j) ss es))

-- no multi row is in an empty page
unfoldable pub multis_paged : List ℕ → List ℕ → Bool
multis_paged pages [] = true
multis_paged pages (m ∷ ms) = in_use (page_of pages (m / 256)) && multis_paged pages ms

-- the pages' rows are some of n rows
unfoldable pub pages_fit : ℕ → List ℕ → Bool
pages_fit n [] = true
pages_fit n (p ∷ []) = true
pages_fit n (p ∷ (a ∷ [])) = true
pages_fit n (p ∷ (a ∷ (b ∷ l))) = nat_le a b && (nat_le b n && pages_fit n l)

-- every number of a row fits its 16 bits of the word
unfoldable pub rows_fit : List Row → Bool
rows_fit [] = true
rows_fit (q ∷ qs) = nat_lt q.0 65536 && (nat_lt q.1 65536 && (nat_lt q.2 65536 && (nat_lt q.3 65536 && rows_fit qs)))

-- what the reader needs of a plane's rows and pages: one test, computed for each plane of a table
unfoldable pub readable : Rows → List ℕ → Bool
readable rows pages =
    tidy_singles rows.starts rows.ends rows.steps rows.deltas && (tidy_multis rows.multi rows.first rows.second rows.third
    && (apart 0 rows.ends rows.ends && (singles_paged pages 0 rows.starts rows.ends && (multis_paged pages rows.multi
    && (pages_fit (length rows.ends) pages && rows_fit (singles rows))))))
