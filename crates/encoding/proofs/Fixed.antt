-- Any two results that a promise of this crate allows are equal, and so is what memory holds. Assumes nothing.
use mathlib.Core.Path.{◌≡◌, ◌∙◌, sym}
use Rattle.encoding.proofs.utf8.len_utf8.Reads as len_utf8
use Rattle.encoding.proofs.utf8.encode_utf8.Reads as encode_utf8
use Rattle.encoding.proofs.utf16.len_utf16.Reads as len_utf16
use Rattle.encoding.proofs.utf16.encode_utf16.Reads as encode_utf16

len_utf8_fixed : (κs : _) (a : _) (r r' : _) (s s' : _) → len_utf8.Post κs a r s → len_utf8.Post κs a r' s' → r ≡ r'
len_utf8_fixed κs a r r' s s' p q = p ∙ sym q

len_utf16_fixed : (κs : _) (a : _) (r r' : _) (s s' : _) → len_utf16.Post κs a r s → len_utf16.Post κs a r' s' → r ≡ r'
len_utf16_fixed κs a r r' s s' p q = p ∙ sym q

encode_utf8_fixed : (κs : _) (a : _) (r r' : _) (s s' : _) → encode_utf8.Post κs a r s → encode_utf8.Post κs a r' s'
    → (r ≡ r') × (s.1.0.now ≡ s'.1.0.now)
encode_utf8_fixed κs a r r' s s' p q = (p.answers ∙ sym q.answers, p.leaves ∙ sym q.leaves)

encode_utf16_fixed : (κs : _) (a : _) (r r' : _) (s s' : _) → encode_utf16.Post κs a r s → encode_utf16.Post κs a r' s'
    → (r ≡ r') × (s.1.0.now ≡ s'.1.0.now)
encode_utf16_fixed κs a r r' s s' p q = (p.answers ∙ sym q.answers, p.leaves ∙ sym q.leaves)
