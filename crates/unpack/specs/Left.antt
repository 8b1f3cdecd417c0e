-- What the iterator of the numbers gives; serves the crate itself. Assumes nothing: these are definitions.
use Rattle.std.specs.Prelude.{◌≡◌, ℕ, ◌<◌, ◌≤◌, length, Bool, List, [], ◌∷◌, Option}
use Rattle.std.specs.Option.{MatchOption}
use Rattle.skip.specs.Table.{walk}
use Rattle.unpack.specs.Flow.{when, flow, numbers}
use Rattle.unpack.specs.declared.numbers.Numbers.{Numbers}

-- the boundaries that are left to walk
abbrev pub boundaries_left : Numbers → List ℕ
boundaries_left s = walk s.n s.i s.at s.headers.now s.offsets.now

-- the numbers that are left to list
abbrev pub numbers_left : Numbers → List ℕ
numbers_left s = numbers s.last (flow s.waiting s.at (boundaries_left s))

-- b is the next boundary, and t stands after it but for `at`
pub record Next (s : Numbers) (b : ℕ) (t : Numbers) : Type 0 where
  pub inside : b ≤ 0x10FFFF
  pub walks : boundaries_left s ≡ b ∷ walk t.n t.i b t.headers.now t.offsets.now
  pub at : t.at ≡ s.at
  pub waiting : t.waiting ≡ s.waiting
  pub last : t.last ≡ s.last

-- no boundary to 0x10FFFF is left, or b is the next
abbrev pub GivesBoundary : Numbers → Option ℕ → Numbers → Type 0
GivesBoundary s r t =
    MatchOption r ((numbers_left t ≡ numbers_left s) × ((w : Bool) → flow w t.at (boundaries_left t) ≡ when w t.at [])) (λ b. Next s b t × (length t.offsets.now < length s.offsets.now))
