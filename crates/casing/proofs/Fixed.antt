-- Any two results that a promise of this crate allows are equal. Assumes nothing.
use Rattle.std.proofs.Common.{◌≡◌, ℕ, List, [], ◌∷◌, sym, refl, ap, ◌∙◌}
use Rattle.std.specs.Prelude.{Option, Some, None}
use Rattle.casing.specs.declared.Mapping.{Mapping}
use Rattle.casing.specs.Answers.{made}
use Rattle.casing.specs.Reading.{or_else}
use Rattle.casing.proofs.kernel.from_floor.Reads as from_floor
use Rattle.casing.proofs.Mapping.new.Reads as new
use Rattle.casing.proofs.ascii.to_ascii_lowercase.Reads as to_ascii_lowercase
use Rattle.casing.proofs.ascii.to_ascii_uppercase.Reads as to_ascii_uppercase

new_fixed : (κs : _) (a : _) (r r' : _) (s s' : _) → new.Post κs a r s → new.Post κs a r' s' → r ≡ r'
new_fixed κs a r r' s s' p q = p ∙ sym q

to_ascii_lowercase_fixed : (κs : _) (a : _) (r r' : _) (s s' : _)
    → to_ascii_lowercase.Post κs a r s → to_ascii_lowercase.Post κs a r' s' → r ≡ r'
to_ascii_lowercase_fixed κs a r r' s s' p q = p ∙ sym q

to_ascii_uppercase_fixed : (κs : _) (a : _) (r r' : _) (s s' : _)
    → to_ascii_uppercase.Post κs a r s → to_ascii_uppercase.Post κs a r' s' → r ≡ r'
to_ascii_uppercase_fixed κs a r r' s s' p q = p ∙ sym q

-- a mapping that no answer makes
nothing : Mapping
nothing = record { to = []; count = 0 }

-- two answers that leave the same of every mapping under them are one
same_found : (found other : Option (ℕ × ℕ × ℕ)) → ((under : Mapping) → or_else found under ≡ or_else other under) → found ≡ other
unfolding made nothing
same_found (Some (a, b, c)) (Some (a', b', c')) e =
    let to : ◌≡◌ {A = List ℕ} (a ∷ b ∷ c ∷ []) (a' ∷ b' ∷ c' ∷ []) = ap (λ (m : Mapping). m.to) (e nothing) in
    let first : a ≡ a' = cc in
    let second : b ≡ b' = cc in
    let third : c ≡ c' = cc in
    rw (first, second, third) refl
same_found (Some (a, b, c)) None e =
    let to : ◌≡◌ {A = List ℕ} (a ∷ b ∷ c ∷ []) [] = ap (λ (m : Mapping). m.to) (e nothing) in cc
same_found None (Some (a, b, c)) e =
    let to : ◌≡◌ {A = List ℕ} [] (a ∷ b ∷ c ∷ []) = ap (λ (m : Mapping). m.to) (e nothing) in cc
same_found None None e = refl

module _ (t0 t1 w v p0 d0 p1 d1 : _) where
  from_floor_fixed : (κs : _) (a : _) (r r' : _) (s s' : _)
      → from_floor.Post t0 t1 w v p0 d0 p1 d1 κs a r s → from_floor.Post t0 t1 w v p0 d0 p1 d1 κs a r' s' → r ≡ r'
  from_floor_fixed κs a r r' s s' p q = same_found r r' (λ under. p under ∙ sym (q under))
