-- Any two results that a promise of this crate allows are equal. Assumes nothing.
use Rattle.std.specs.Prelude.{◌≡◌}
use mathlib.Core.Path.{◌∙◌, sym}
use Rattle.sets.proofs.check_list.Reads as check_list
use Rattle.sets.proofs.search_list.Reads as search_list
use Rattle.sets.proofs.kernel.first_bad.Reads as first_bad
use Rattle.sets.proofs.kernel.list_holds.Reads as list_holds

check_list_fixed : (κs : _) (a : _) (r r' : _) (s s' : _) → check_list.Post κs a r s → check_list.Post κs a r' s' → r ≡ r'
check_list_fixed κs a r r' s s' p q = p ∙ sym q

search_list_fixed : (κs : _) (a : _) (r r' : _) (s s' : _) → search_list.Post κs a r s → search_list.Post κs a r' s' → r ≡ r'
search_list_fixed κs a r r' s s' p q = p ∙ sym q

first_bad_fixed : (κs : _) (a : _) (r r' : _) (s s' : _) → first_bad.Post κs a r s → first_bad.Post κs a r' s' → r ≡ r'
first_bad_fixed κs a r r' s s' p q = p ∙ sym q

list_holds_fixed : (κs : _) (a : _) (r r' : _) (s s' : _) → list_holds.Post κs a r s → list_holds.Post κs a r' s' → r ≡ r'
list_holds_fixed κs a r r' s s' p q = p ∙ sym q
