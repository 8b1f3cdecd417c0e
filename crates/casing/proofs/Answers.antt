-- The code's count of an answer's numbers is the definition's. Assumes nothing.
-- A lemma that no proof cites any more stands because docs/PORT.md names it.
use Rattle.std.proofs.Common.{◌≡◌, ℕ, Bool, true, false, cond, eqb, refl, eqb-true}
use borrow.Author.Tests.{eqb-false}
use Rattle.casing.specs.Answers.{used, Used}

pub used_is : (b c r : ℕ) → Used b c r → r ≡ used b c
used_is b c r u = by_tests (eqb c 0) (eqb b 0) refl refl
  where
    by_tests : (s t : Bool) → eqb c 0 ≡ s → eqb b 0 ≡ t → r ≡ cond s (cond t 1 2) 3
    by_tests true true p q = u.one (eqb-true c 0 p) (eqb-true b 0 q)
    by_tests true false p q = u.two (eqb-true c 0 p) (eqb-false b 0 q)
    by_tests false t p q = u.three (eqb-false c 0 p)
