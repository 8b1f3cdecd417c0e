-- Any two results that a promise of this crate allows are equal, and so is what the lent buffer holds. Assumes nothing.
use Rattle.std.specs.Prelude.{◌≡◌}
use mathlib.Core.Path.{◌∙◌, sym}
use Rattle.unpack.proofs.unpack.Reads as unpack

unpack_fixed : (κs : _) (a : _) (r r' : _) (s s' : _) → unpack.Post κs a r s → unpack.Post κs a r' s'
    → (r ≡ r') × (s.1.1.0.now ≡ s'.1.1.0.now)
unpack_fixed κs a r r' s s' p q = (p.answers ∙ sym q.answers, p.leaves ∙ sym q.leaves)
