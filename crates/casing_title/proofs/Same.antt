-- The packed rows, written out with the upper mapping's list under them, are Unicode's list: one comparison and the tests of the
-- rows, computed. So the title mapping is what Unicode's list says. Assumes nothing.
-- A lemma that no proof cites any more stands because docs/PORT.md names it.
use Rattle.std.specs.Prelude.{◌≡◌, ℕ, true}
use mathlib.Core.Path.{◌∙◌, refl, sym, ap}
use lib.Dec.{lit≤}
use Rattle.scalar.specs.Scalars.{scalar_else}
use Rattle.casing.specs.declared.Mapping.{Mapping}
use Rattle.casing.specs.Answers.{made}
use Rattle.casing.specs.Rows.{zip, first_row, single, multiple, looked, from_floor}
use Rattle.casing.specs.Listed.{quads, row_of}
use Rattle.casing.proofs.Expand.{find, scan, expand_singles, expand_multis, merge, rising, spans, lies}
use Rattle.casing.proofs.Whole.{made_row, written, sound, list_maps}
use Rattle.casing.proofs.Scalars.{scalars}
use Rattle.casing_upper.specs.Unicode as upper
use Rattle.casing_title.specs.Table.{starts0, ends0, steps0, deltas0, multi0, multi0_first, multi0_second, multi0_third, starts1, ends1, steps1, deltas1, multi1, multi1_first, multi1_second, multi1_third}
use Rattle.casing_title.specs.Unicode.{rows}
use Rattle.casing_title.specs.Planes.{plane0, plane1}

right : written plane0 plane1 (quads upper.rows) ≡ quads rows
unfolding upper.rows starts0 ends0 steps0 deltas0 multi0 multi0_first multi0_second multi0_third starts1 ends1 steps1 deltas1 multi1 multi1_first multi1_second multi1_third rows zip quads scan expand_singles expand_multis merge
right = refl

tests : sound 0xB5 plane0 plane1 ≡ true
unfolding starts0 ends0 steps0 deltas0 multi0 multi0_first multi0_second multi0_third starts1 ends1 steps1 deltas1 multi1 multi1_first multi1_second multi1_third zip scan expand_singles expand_multis rising spans lies
tests = refl

-- no row maps to a surrogate or past 0x10FFFF
pub all_scalars : scalars (quads rows) ≡ true
unfolding rows quads scalars scalar_else
all_scalars = refl

-- what stands under the rows is the upper mapping
under : (n : ℕ) → row_of upper.rows n ≡ find n made_row (quads upper.rows) (made n 0 0)
unfolding row_of
under n = refl

-- plane 1 has no rows
pub plane1_none : (x : ℕ) (other : Mapping) → looked plane1 1 x other ≡ other
unfolding single multiple first_row zip starts1 ends1 steps1 deltas1 multi1 multi1_first multi1_second multi1_third
plane1_none x other = refl

-- the title mapping of document 01 is Unicode's
pub unicode : (n : ℕ) (other : Mapping) → other ≡ row_of upper.rows n → from_floor 0xB5 plane0 plane1 n other ≡ row_of rows n
unicode n other e =
    ap (λ (z : Mapping). from_floor 0xB5 plane0 plane1 n z) (e ∙ under n)
    ∙ sym (list_maps 0xB5 plane0 plane1 (quads upper.rows) (lit≤ tt) tests rows right n)
