-- The titlecase table keeps the rules and answers as its flat list, by computed tests; so does the table with the closing
-- sum of the Rust. Assumes nothing.
use Rattle.std.specs.Prelude.{◌≡◌, ℕ, ◌≤◌, None}
use mathlib.Core.Path.{refl}
use lib.Dec.{lit<}
use Rattle.sets.specs.Boundaries.{member}
use Rattle.sets.specs.Lists.{edges, holds}
use Rattle.sets.proofs.Members.{rising}
use Rattle.skip.specs.Table.{boundaries}
use Rattle.skip.specs.Rules.{W3, W4, broken}
use Rattle.skip.proofs.Fast.{fast_walk, fast_w5}
use Rattle.unicode_laws.proofs.Walked.{Walked, keeps, answers}
use Rattle.table_titlecase.specs.Table.{headers, rust_headers, offsets}
use Rattle.table_titlecase.specs.Flat.{flat}

walked : Walked headers offsets flat 21 0x1FFFFF
unfolding headers offsets flat edges rising fast_walk fast_w5 W3 W4
walked =
    record {
      size = refl;
      walks = refl;
      rises = refl;
      closes = lit< tt;
      W1-kept = refl;
      W2-kept = refl;
      W3-kept = refl;
      W4-kept = refl;
      W5-kept = refl;
    }

rust_walked : Walked rust_headers offsets flat 21 1122301
unfolding rust_headers offsets flat edges rising fast_walk fast_w5 W3 W4
rust_walked =
    record {
      size = refl;
      walks = refl;
      rises = refl;
      closes = lit< tt;
      W1-kept = refl;
      W2-kept = refl;
      W3-kept = refl;
      W4-kept = refl;
      W5-kept = refl;
    }

-- the table keeps W1 to W5
pub table_keeps : broken headers offsets ≡ None
table_keeps = keeps headers offsets flat 21 0x1FFFFF walked

pub table_right : (x : ℕ) → x ≤ 0x10FFFF → member (boundaries headers offsets) x ≡ holds flat x
table_right = answers headers offsets flat 21 0x1FFFFF walked

-- and so it does with the closing sum of the Rust
pub rust_keeps : broken rust_headers offsets ≡ None
rust_keeps = keeps rust_headers offsets flat 21 1122301 rust_walked

pub rust_right : (x : ℕ) → x ≤ 0x10FFFF → member (boundaries rust_headers offsets) x ≡ holds flat x
rust_right = answers rust_headers offsets flat 21 1122301 rust_walked
