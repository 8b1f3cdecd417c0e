-- Any two results that a promise of this crate allows are equal. Assumes nothing.
use Rattle.std.specs.Prelude.{◌≡◌}
use mathlib.Core.Path.{◌∙◌, sym}
use Rattle.properties.proofs.is_alphabetic.Reads as is_alphabetic
use Rattle.properties.proofs.is_lowercase.Reads as is_lowercase
use Rattle.properties.proofs.is_uppercase.Reads as is_uppercase
use Rattle.properties.proofs.is_titlecase.Reads as is_titlecase
use Rattle.properties.proofs.is_cased.Reads as is_cased
use Rattle.properties.proofs.is_numeric.Reads as is_numeric
use Rattle.properties.proofs.is_alphanumeric.Reads as is_alphanumeric
use Rattle.properties.proofs.whitespace.is_whitespace.Reads as is_whitespace
use Rattle.properties.proofs.control.is_control.Reads as is_control

is_alphabetic_fixed : (κs : _) (a : _) (r r' : _) (s s' : _) → is_alphabetic.Post κs a r s → is_alphabetic.Post κs a r' s' → r ≡ r'
is_alphabetic_fixed κs a r r' s s' p q = p ∙ sym q

is_lowercase_fixed : (κs : _) (a : _) (r r' : _) (s s' : _) → is_lowercase.Post κs a r s → is_lowercase.Post κs a r' s' → r ≡ r'
is_lowercase_fixed κs a r r' s s' p q = p ∙ sym q

is_uppercase_fixed : (κs : _) (a : _) (r r' : _) (s s' : _) → is_uppercase.Post κs a r s → is_uppercase.Post κs a r' s' → r ≡ r'
is_uppercase_fixed κs a r r' s s' p q = p ∙ sym q

is_titlecase_fixed : (κs : _) (a : _) (r r' : _) (s s' : _) → is_titlecase.Post κs a r s → is_titlecase.Post κs a r' s' → r ≡ r'
is_titlecase_fixed κs a r r' s s' p q = p ∙ sym q

is_cased_fixed : (κs : _) (a : _) (r r' : _) (s s' : _) → is_cased.Post κs a r s → is_cased.Post κs a r' s' → r ≡ r'
is_cased_fixed κs a r r' s s' p q = p ∙ sym q

is_numeric_fixed : (κs : _) (a : _) (r r' : _) (s s' : _) → is_numeric.Post κs a r s → is_numeric.Post κs a r' s' → r ≡ r'
is_numeric_fixed κs a r r' s s' p q = p ∙ sym q

is_alphanumeric_fixed : (κs : _) (a : _) (r r' : _) (s s' : _) → is_alphanumeric.Post κs a r s → is_alphanumeric.Post κs a r' s' → r ≡ r'
is_alphanumeric_fixed κs a r r' s s' p q = p ∙ sym q

is_whitespace_fixed : (κs : _) (a : _) (r r' : _) (s s' : _) → is_whitespace.Post κs a r s → is_whitespace.Post κs a r' s' → r ≡ r'
is_whitespace_fixed κs a r r' s s' p q = p ∙ sym q

is_control_fixed : (κs : _) (a : _) (r r' : _) (s s' : _) → is_control.Post κs a r s → is_control.Post κs a r' s' → r ≡ r'
is_control_fixed κs a r r' s s' p q = p ∙ sym q
