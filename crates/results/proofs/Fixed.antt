-- Any two results that a promise of this crate allows are equal. Nothing is lent. Assumes nothing.
use mathlib.Core.Path.{◌≡◌, ◌∙◌, sym, ap}
use Rattle.std.specs.Prelude.{Result}
use Rattle.scalar.specs.declared.refusal.Refusal.{Refusal}
use Rattle.results.specs.Results.{number_of, carried_of, value_of}
use Rattle.results.proofs.crossing.VerdictFromResultRefusal.from.Reads as verdict
use Rattle.results.proofs.crossing.YesNoFromResultBoolRefusal.from.Reads as yes_no
use Rattle.results.proofs.crossing.CountFromResultUsizeRefusal.from.Reads as count
use Rattle.results.proofs.crossing.SoughtFromResultHitRefusal.from.Reads as sought
use Rattle.results.proofs.crossing.SizesFromResultPackedRefusal.from.Reads as sizes
use Rattle.results.proofs.crossing.MappedFromResultMappingRefusal.from.Reads as mapped

verdict_fixed : (g t u v w κs : _) (a : _) (r r' : _) (s s' : _) → verdict.Post g t u v w κs a r s → verdict.Post g t u v w κs a r' s' → r ≡ r'
verdict_fixed g t u v w κs a r r' s s' p q = p ∙ sym q

yes_no_fixed : (κs : _) (a : _) (r r' : _) (s s' : _) → yes_no.Post κs a r s → yes_no.Post κs a r' s' → r ≡ r'
yes_no_fixed κs a r r' s s' p q = p ∙ sym q

count_fixed : (κs : _) (a : _) (r r' : _) (s s' : _) → count.Post κs a r s → count.Post κs a r' s' → r ≡ r'
count_fixed κs a r r' s s' p q = p ∙ sym q

sought_fixed : (κs : _) (a : _) (r r' : _) (s s' : _) → sought.Post κs a r s → sought.Post κs a r' s' → r ≡ r'
sought_fixed κs a r r' s s' p q = p ∙ sym q

sizes_fixed : (κs : _) (a : _) (r r' : _) (s s' : _) → sizes.Post κs a r s → sizes.Post κs a r' s' → r ≡ r'
sizes_fixed κs a r r' s s' p q = p ∙ sym q

mapped_fixed : (κs : _) (a : _) (r r' : _) (s s' : _) → mapped.Post κs a r s → mapped.Post κs a r' s' → r ≡ r'
mapped_fixed κs a r r' s s' p q = p.crosses ∙ sym q.crosses

-- and so are the parts of an answer: its refusal's number, what that carries, and a value
module _ {A : Type 0} (a b : Result A Refusal) (e : a ≡ b) where
  number_fixed : number_of a ≡ number_of b
  number_fixed = ap number_of e

  carried_fixed : carried_of a ≡ carried_of b
  carried_fixed = ap carried_of e

  value_fixed : {B : Type 0} (none : B) (f : A → B) → value_of none f a ≡ value_of none f b
  value_fixed none f = ap (value_of none f) e
