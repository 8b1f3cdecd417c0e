-- Any two results that a promise of this crate allows are equal. Assumes nothing.
use mathlib.Core.Path.{◌≡◌, ◌∙◌, sym}
use Rattle.runs.proofs.Plane.check.Reads as check
use Rattle.runs.proofs.length_list.starts_yes.Reads as starts_yes
use Rattle.runs.proofs.singletons.is_singleton.Reads as is_singleton

check_fixed : (κs : _) (a : _) (r r' : _) (s s' : _) → check.Post κs a r s → check.Post κs a r' s' → r ≡ r'
check_fixed κs a r r' s s' p q = p ∙ sym q

starts_yes_fixed : (κs : _) (a : _) (r r' : _) (s s' : _) → starts_yes.Post κs a r s → starts_yes.Post κs a r' s' → r ≡ r'
starts_yes_fixed κs a r r' s s' p q = p ∙ sym q

is_singleton_fixed : (κs : _) (a : _) (r r' : _) (s s' : _) → is_singleton.Post κs a r s → is_singleton.Post κs a r' s' → r ≡ r'
is_singleton_fixed κs a r r' s s' p q = p ∙ sym q
