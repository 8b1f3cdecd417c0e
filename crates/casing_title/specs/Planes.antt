-- The packed rows of each plane. Assumes nothing: these are definitions.
use Rattle.casing.specs.Rows.{Rows}
use Rattle.casing_title.specs.Table as table

abbrev pub plane0 : Rows
plane0 =
    record {
      starts = table.starts0;
      ends = table.ends0;
      steps = table.steps0;
      deltas = table.deltas0;
      multi = table.multi0;
      first = table.multi0_first;
      second = table.multi0_second;
      third = table.multi0_third;
    }

abbrev pub plane1 : Rows
plane1 =
    record {
      starts = table.starts1;
      ends = table.ends1;
      steps = table.steps1;
      deltas = table.deltas1;
      multi = table.multi1;
      first = table.multi1_first;
      second = table.multi1_second;
      third = table.multi1_third;
    }
