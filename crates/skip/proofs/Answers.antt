-- What callers' proofs cite of the checker: how its refusal becomes an entry's own, and what an accepted table keeps. And the two
-- searches agree. Assumes nothing.
use Rattle.std.specs.Prelude.{◌≡◌, ℕ, Bool, true, false, cond, ltb, List, Option, Some, None, Ok, Err}
use mathlib.Core.Path.{refl, ◌∙◌}
use Rattle.std.specs.Result.{result_map_both}
use Rattle.scalar.specs.declared.refusal.Refusal.{Refusal}
use Rattle.scalar.specs.declared.refusal.Refusal.TheVariants as refusal
use Rattle.scalar.specs.declared.refusal.Rule.{Rule}
use Rattle.skip.specs.Rules.{broken}
use Rattle.skip.specs.Answers.{rule_else, table_else, accepted, checks, searches, finds, hit}

refused_by : {A : Type 0} (g : Refusal → A) (good : A) (r : Refusal) (b : Option Rule)
    → Err r ≡ rule_else Err b accepted → g r ≡ rule_else g b good
refused_by g good r (Some k) e = let p : r ≡ refusal.BrokenRule k = cc in rw p refl
refused_by g good r None e = absurd cc

accepted_by : (b : Option Rule) → accepted ≡ rule_else Err b accepted → b ≡ None
accepted_by (Some k) e = absurd cc
accepted_by None e = refl

module _ (hs os : List ℕ) where
  -- a refusal r of the check is the entry's refusal, whatever the entry makes of a refusal
  pub refused_as : {A : Type 0} (g : Refusal → A) (good : A) (r : Refusal) → Err r ≡ checks hs os → g r ≡ table_else g hs os good
  unfolding table_else
  refused_as g good r e = refused_by g good r (broken hs os) e

  -- an accepted table breaks no rule
  pub accepted_rules : accepted ≡ checks hs os → broken hs os ≡ None
  unfolding table_else
  accepted_rules e = accepted_by (broken hs os) e

  -- of a table that breaks no rule an entry gives its good answer
  pub table_good : {A : Type 0} (g : Refusal → A) (good : A) → broken hs os ≡ None → good ≡ table_else g hs os good
  unfolding table_else
  table_good g good e = rw e refl

  -- of any other its refusal
  pub table_refused : {A : Type 0} (g : Refusal → A) (good : A) (rule : Rule) → broken hs os ≡ Some rule
      → g (refusal.BrokenRule rule) ≡ table_else g hs os good
  unfolding table_else
  table_refused g good rule e = rw e refl

  -- an accepting check leads to the entry's good answer, however that is written
  pub accepted_as : {A : Type 0} (g : Refusal → A) (a good : A) → accepted ≡ checks hs os → a ≡ good → a ≡ table_else g hs os good
  accepted_as g a good e p = p ∙ table_good g good (accepted_rules e)

  -- the plain search and the counted one agree: the same refusal, the same answer
  pub searches_agree : (x : ℕ) → searches hs os x ≡ result_map_both (λ h. h.yes) (λ r. r) (finds hs os x)
  unfolding table_else
  searches_agree x = by_tests (broken hs os) (ltb 0x10FFFF x)
    where
      by_tests : (b : Option Rule) (t : Bool)
          → rule_else Err b (cond t (Err refusal.AboveMax) (Ok (hit hs os x).yes))
          ≡ result_map_both (λ h. h.yes) (λ r. r) (rule_else Err b (cond t (Err refusal.AboveMax) (Ok (hit hs os x))))
      by_tests None true = refl
      by_tests None false = refl
      by_tests (Some k) t = refl
