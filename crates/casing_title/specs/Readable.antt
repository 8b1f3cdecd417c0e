-- The reader may read both planes: one test for each, computed. Assumes nothing.
use Rattle.std.specs.Prelude.{◌≡◌, true}
use mathlib.Core.Path.{refl}
use Rattle.casing.specs.Reading.{page_of, singles_paged, multis_paged, pages_fit, rows_fit, readable}
use Rattle.casing.specs.Rows.{zip, apart, tidy_singles, tidy_multis}
use Rattle.casing_title.specs.Table.{starts0, ends0, steps0, deltas0, multi0, multi0_first, multi0_second, multi0_third, pages0, starts1, ends1, steps1, deltas1, multi1, multi1_first, multi1_second, multi1_third, pages1}
use Rattle.casing_title.specs.Planes.{plane0, plane1}

pub readable0 : readable plane0 pages0 ≡ true
unfolding readable tidy_singles tidy_multis apart singles_paged multis_paged pages_fit rows_fit page_of zip starts0 ends0 steps0 deltas0 multi0 multi0_first multi0_second multi0_third pages0
readable0 = refl

pub readable1 : readable plane1 pages1 ≡ true
unfolding readable tidy_singles tidy_multis apart singles_paged multis_paged pages_fit rows_fit page_of zip starts1 ends1 steps1 deltas1 multi1 multi1_first multi1_second multi1_third pages1
readable1 = refl
