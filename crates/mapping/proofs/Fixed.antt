-- Any two results that a promise of this crate allows are equal. Assumes nothing.
use Rattle.std.specs.Prelude.{◌≡◌}
use mathlib.Core.Path.{◌∙◌, sym}
use Rattle.mapping.proofs.to_lowercase.Reads as to_lowercase
use Rattle.mapping.proofs.to_uppercase.Reads as to_uppercase
use Rattle.mapping.proofs.to_titlecase.Reads as to_titlecase

to_lowercase_fixed : (κs : _) (a : _) (r r' : _) (s s' : _) → to_lowercase.Post κs a r s → to_lowercase.Post κs a r' s' → r ≡ r'
to_lowercase_fixed κs a r r' s s' p q = p ∙ sym q

to_uppercase_fixed : (κs : _) (a : _) (r r' : _) (s s' : _) → to_uppercase.Post κs a r s → to_uppercase.Post κs a r' s' → r ≡ r'
to_uppercase_fixed κs a r r' s s' p q = p ∙ sym q

to_titlecase_fixed : (κs : _) (a : _) (r r' : _) (s s' : _) → to_titlecase.Post κs a r s → to_titlecase.Post κs a r' s' → r ≡ r'
to_titlecase_fixed κs a r r' s s' p q = p ∙ sym q
