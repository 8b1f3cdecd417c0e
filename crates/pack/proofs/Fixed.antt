-- Any two results that a promise of this crate allows are equal, and so is what the lent buffers hold. Assumes nothing.
use mathlib.Core.Path.{◌≡◌, ◌∙◌, sym}
use Rattle.pack.proofs.pack.Reads as pack

pack_fixed : (κs : _) (a : _) (r r' : _) (s s' : _) → pack.Post κs a r s → pack.Post κs a r' s'
    → (r ≡ r') × (s.1.0.now ≡ s'.1.0.now) × (s.1.1.0.now ≡ s'.1.1.0.now)
pack_fixed κs a r r' s s' p q =
    (p.answers ∙ sym q.answers, p.leaves_headers ∙ sym q.leaves_headers, p.leaves_offsets ∙ sym q.leaves_offsets)
