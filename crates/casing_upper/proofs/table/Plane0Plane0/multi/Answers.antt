-- Generated from library/core/src/unicode/unicode_data.rs of Rust 1.97.0 by `oracle/make`; do not edit.
-- `casing_upper::table::Plane0Plane0::multi` meets its contract: what is no arm's number is in no multi row. Assumes nothing.
use Rattle.casing.specs.Rows.{zip, first_row, multiple}
use Rattle.casing.proofs.Arms.{Unmapped, no_multi}
use Rattle.casing_upper.specs.Table.{multi0, multi0_first, multi0_second, multi0_third}
use Rattle.casing_upper.proofs.table.Plane0Plane0.multi.Goals as goal

pub returns-in_default : goal.returns-in_default
unfolding zip first_row multiple Unmapped multi0 multi0_first multi0_second multi0_third
returns-in_default c = no_multi multi0 multi0_first multi0_second multi0_third 0 _ c.in_default.in_default-own.rest
