-- Any two results that a promise of this crate allows are equal. Assumes nothing.
use mathlib.Core.Path.{◌≡◌, ◌∙◌, sym}
use Rattle.scalar.proofs.Same.{same_made, same_points, same_point}
use Rattle.scalar.proofs.Scalar.new.Reads as new
use Rattle.scalar.proofs.point.CodePoint.new.Reads as point_new
use Rattle.scalar.proofs.point.CodePointFromScalar.from.Reads as point_from
use Rattle.scalar.proofs.ascii.is_ascii_digit.Reads as is_ascii_digit
use Rattle.scalar.proofs.ascii.is_ascii_uppercase.Reads as is_ascii_uppercase
use Rattle.scalar.proofs.ascii.is_ascii_lowercase.Reads as is_ascii_lowercase
use Rattle.scalar.proofs.ascii.is_between.Reads as is_between
use Rattle.scalar.proofs.refusal.Refusal.number.Reads as refusal_number
use Rattle.scalar.proofs.refusal.Refusal.carried.Reads as refusal_carried
use Rattle.scalar.proofs.refusal.Rule.number.Reads as rule_number
use Rattle.scalar.proofs.ScalarTryFromU32.try_from.Reads as try_from

new_fixed : (κs : _) (a : _) (r r' : _) (s s' : _) → new.Post κs a r s → new.Post κs a r' s' → r ≡ r'
new_fixed κs a r r' s s' p q = same_made _ r r' p q

is_between_fixed : (κs : _) (a : _) (r r' : _) (s s' : _) → is_between.Post κs a r s → is_between.Post κs a r' s' → r ≡ r'
is_between_fixed κs a r r' s s' p q = p ∙ sym q

is_ascii_digit_fixed : (κs : _) (a : _) (r r' : _) (s s' : _) → is_ascii_digit.Post κs a r s → is_ascii_digit.Post κs a r' s' → r ≡ r'
is_ascii_digit_fixed κs a r r' s s' p q = p ∙ sym q

is_ascii_uppercase_fixed : (κs : _) (a : _) (r r' : _) (s s' : _)
    → is_ascii_uppercase.Post κs a r s → is_ascii_uppercase.Post κs a r' s' → r ≡ r'
is_ascii_uppercase_fixed κs a r r' s s' p q = p ∙ sym q

is_ascii_lowercase_fixed : (κs : _) (a : _) (r r' : _) (s s' : _)
    → is_ascii_lowercase.Post κs a r s → is_ascii_lowercase.Post κs a r' s' → r ≡ r'
is_ascii_lowercase_fixed κs a r r' s s' p q = p ∙ sym q

refusal_number_fixed : (κs : _) (a : _) (r r' : _) (s s' : _) → refusal_number.Post κs a r s → refusal_number.Post κs a r' s' → r ≡ r'
refusal_number_fixed κs a r r' s s' p q = p ∙ sym q

refusal_carried_fixed : (κs : _) (a : _) (r r' : _) (s s' : _) → refusal_carried.Post κs a r s → refusal_carried.Post κs a r' s' → r ≡ r'
refusal_carried_fixed κs a r r' s s' p q = p ∙ sym q

rule_number_fixed : (κs : _) (a : _) (r r' : _) (s s' : _) → rule_number.Post κs a r s → rule_number.Post κs a r' s' → r ≡ r'
rule_number_fixed κs a r r' s s' p q = p ∙ sym q

try_from_fixed : (κs : _) (a : _) (r r' : _) (s s' : _) → try_from.Post κs a r s → try_from.Post κs a r' s' → r ≡ r'
try_from_fixed κs a r r' s s' p q = same_made _ r r' p q

point_new_fixed : (κs : _) (a : _) (r r' : _) (s s' : _) → point_new.Post κs a r s → point_new.Post κs a r' s' → r ≡ r'
point_new_fixed κs a r r' s s' p q = same_points _ r r' p q

point_from_fixed : (κs : _) (a : _) (r r' : _) (s s' : _) → point_from.Post κs a r s → point_from.Post κs a r' s' → r ≡ r'
point_from_fixed κs a r r' s s' p q = same_point r r' (p ∙ sym q)
