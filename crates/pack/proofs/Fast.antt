-- The headers of a packing in a form that computes: a number is worked out before it is handed on. Data crates cite `fast`.
-- Assumes nothing.
use Prim.Native.Nat.{ℕ, ◌+◌, ◌-◌}
use mathlib.Core.Path.{◌≡◌, ◌∙◌, refl}
use mathlib.Core.List.{List, [], ◌∷◌}
use mathlib.Core.Bool.{cond}
use lib.Dec.{leb}
use Rattle.skip.proofs.Fast.{force, forced}
use Rattle.pack.specs.Packing.{word, headers_of}

unfoldable pub fast_headers : ℕ → ℕ → ℕ → List ℕ → List ℕ
fast_headers i s p [] = word s 0x1FFFFF ∷ []
fast_headers i s p (b ∷ bs) = force (i + 1) (λ j. cond (leb (b - p) 255) (fast_headers j s b bs) (word s b ∷ fast_headers j j b bs))

pub fast : (i s p : ℕ) (bs : List ℕ) → fast_headers i s p bs ≡ headers_of i s p bs
unfolding fast_headers headers_of
fast i s p [] = refl
fast i s p (b ∷ bs) =
    forced (i + 1) (λ j. cond (leb (b - p) 255) (fast_headers j s b bs) (word s b ∷ fast_headers j j b bs))
    ∙ rw (fast (i + 1) s b bs, fast (i + 1) (i + 1) b bs) refl
