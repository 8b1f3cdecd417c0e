-- Any two results that the promise allows are equal. Assumes nothing.
use mathlib.Core.Path.{◌≡◌, ◌∙◌, sym}
use Rattle.printable.proofs.is_printable.Reads as is_printable

is_printable_fixed : (κs : _) (a : _) (r r' : _) (s s' : _) → is_printable.Post κs a r s → is_printable.Post κs a r' s' → r ≡ r'
is_printable_fixed κs a r r' s s' p q = p ∙ sym q
