-- Document 01's "Printable", as Rust's tables say it. Assumes nothing: these are definitions.
use Rattle.std.specs.Prelude.{ℕ, ◌%◌, List, [], ◌∷◌, Bool, true, false, cond, not, ◌&&◌, ◌||◌, leb, ltb}
use Rattle.runs.specs.Tables.{printable_by}
use Rattle.printable.specs.Table.{singletons0_high, singletons0_count, singletons0_low, normal0, singletons1_high, singletons1_count, singletons1_low, normal1}

-- the nine half-open spans of 001, from 0x20000 on: first and end of each
unfoldable pub spans : List ℕ
spans =
    0x2A6E0 ∷ 0x2A700 ∷ 0x2B81E ∷ 0x2B820 ∷ 0x2CEAE ∷ 0x2CEB0 ∷ 0x2EBE1 ∷ 0x2EBF0 ∷ 0x2EE5E ∷ 0x2F800 ∷ 0x2FA1E ∷ 0x30000 ∷
    0x3134B ∷ 0x31350 ∷ 0x3347A ∷ 0xE0100 ∷ 0xE01F0 ∷ 0x110000 ∷ []

abbrev pub in_span : ℕ → ℕ → ℕ → Bool
in_span first end x = leb first x && ltb x end

-- some span holds x
unfoldable pub in_spans : List ℕ → ℕ → Bool
in_spans [] x = false
in_spans (first ∷ []) x = false
in_spans (first ∷ (end ∷ l)) x = in_span first end x || in_spans l x

-- what the tables of planes 0 and 1 say of the low 16 bits
abbrev pub plane0 : ℕ → Bool
plane0 low = printable_by singletons0_high singletons0_count singletons0_low normal0 low

abbrev pub plane1 : ℕ → Bool
plane1 low = printable_by singletons1_high singletons1_count singletons1_low normal1 low

-- "Below 32 no; 32 to 126 yes. From 127 to 0x1FFFF, by the low 16 bits and the plane's tables .. From 0x20000 on, no in
-- the nine half-open spans of 001, else yes."
unfoldable pub by_tables : ℕ → Bool
by_tables x =
    cond (ltb x 32) false
    (cond (ltb x 127) true
    (cond (ltb x 0x10000) (plane0 (x % 0x10000))
    (cond (ltb x 0x20000) (plane1 (x % 0x10000))
    (not (in_spans spans x)))))
