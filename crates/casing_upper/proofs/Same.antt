-- The packed rows, written out with the ASCII letters under them, are Unicode's list: one comparison and the tests of the rows,
-- computed. So the upper mapping is what Unicode's list says. Assumes nothing.
-- A lemma that no proof cites any more stands because docs/PORT.md names it.
use Rattle.std.specs.Prelude.{◌≡◌, ℕ, true, []}
use mathlib.Core.Path.{◌∙◌, refl, sym, ap}
use lib.Dec.{lit≤}
use Rattle.scalar.specs.Scalars.{scalar_else}
use Rattle.casing.specs.declared.Mapping.{Mapping}
use Rattle.casing.specs.Answers.{made, ascii_uppered}
use Rattle.casing.specs.Rows.{zip, from_floor}
use Rattle.casing.specs.Listed.{quads, row_of}
use Rattle.casing.proofs.Expand.{scan, expand_singles, expand_multis, merge, rising, spans, lies}
use Rattle.casing.proofs.Whole.{written, sound, list_maps}
use Rattle.casing.proofs.Scalars.{scalars}
use Rattle.casing.proofs.Letters.{letters, upper_letters}
use Rattle.casing_upper.specs.Table.{starts0, ends0, steps0, deltas0, multi0, multi0_first, multi0_second, multi0_third, starts1, ends1, steps1, deltas1, multi1, multi1_first, multi1_second, multi1_third}
use Rattle.casing_upper.specs.Unicode.{rows}
use Rattle.casing_upper.specs.Planes.{plane0, plane1}

pub no_multi1 : plane1.multi ≡ []
unfolding multi1
no_multi1 = refl

right : written plane0 plane1 (letters 0x61 0x7A 0xFFE0) ≡ quads rows
unfolding starts0 ends0 steps0 deltas0 multi0 multi0_first multi0_second multi0_third starts1 ends1 steps1 deltas1 multi1 multi1_first multi1_second multi1_third rows zip quads scan expand_singles expand_multis merge
right = refl

tests : sound 0xB5 plane0 plane1 ≡ true
unfolding starts0 ends0 steps0 deltas0 multi0 multi0_first multi0_second multi0_third starts1 ends1 steps1 deltas1 multi1 multi1_first multi1_second multi1_third zip scan expand_singles expand_multis rising spans lies
tests = refl

-- no row maps to a surrogate or past 0x10FFFF
pub all_scalars : scalars (quads rows) ≡ true
unfolding rows quads scalars scalar_else
all_scalars = refl

-- the upper mapping of document 01 is Unicode's
pub unicode : (n : ℕ) (other : Mapping) → other ≡ made (ascii_uppered n) 0 0
    → from_floor 0xB5 plane0 plane1 n other ≡ row_of rows n
unicode n other e =
    ap (λ (z : Mapping). from_floor 0xB5 plane0 plane1 n z) (e ∙ sym (upper_letters n))
    ∙ sym (list_maps 0xB5 plane0 plane1 (letters 0x61 0x7A 0xFFE0) (lit≤ tt) tests rows right n)
