-- Packing the flat list gives the built-in table, by computing. Assumes nothing.
use Rattle.std.specs.Prelude.{◌≡◌}
use mathlib.Core.Path.{sym, refl, ◌∙◌}
use Rattle.sets.specs.Lists.{edges}
use Rattle.pack.specs.Packing as packing
use Rattle.pack.proofs.Fast.{fast_headers, fast}
use Rattle.table_numeric.specs.Table.{headers, offsets}
use Rattle.table_numeric.specs.Flat.{flat}

fast_headers_lem : fast_headers 0 0 0 (edges flat) ≡ headers
unfolding flat headers edges fast_headers
fast_headers_lem = refl

pub headers_packed : packing.headers flat ≡ headers
headers_packed = sym (fast 0 0 0 (edges flat)) ∙ fast_headers_lem

pub offsets_packed : packing.offsets flat ≡ offsets
unfolding flat offsets edges packing.offsets_of
offsets_packed = refl
