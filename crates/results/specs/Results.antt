-- What crosses the boundary: document 01's number and values of each answer. Assumes nothing: these are definitions.
use Rattle.std.specs.Prelude.{◌≡◌, ℕ, Bool, false, Result, Ok, Err}
use Rattle.scalar.specs.Refusals.{number, carried}
use Rattle.scalar.specs.declared.refusal.Refusal.{Refusal}
use Rattle.skip.specs.declared.kernel.Hit.{Hit}
use Rattle.pack.specs.declared.Packed.{Packed}
use Rattle.casing.specs.declared.Mapping.{Mapping}
use Rattle.casing.specs.Answers as mapping
use Rattle.results.specs.declared.Verdict.{Verdict}
use Rattle.results.specs.declared.YesNo.{YesNo}
use Rattle.results.specs.declared.Count.{Count}
use Rattle.results.specs.declared.Sought.{Sought}
use Rattle.results.specs.declared.Sizes.{Sizes}
use Rattle.results.specs.declared.Mapped.{Mapped}

-- r is what crosses of an answer that the entry's promise allows; the promise also says what memory holds
pub record Crosses {A B : Type 0} (values : A → B) (promise : A → Type 0) (r : B) : Type 0 where
  pub answer : A
  pub promised : promise answer
  pub crosses : r ≡ values answer

-- r is what crosses of the answer a
abbrev pub Crossed : {A B : Type 0} → (A → B) → A → B → Type 0
Crossed values a r = Crosses values (λ x. x ≡ a) r

-- of any answer its refusal's number, 0 for none
abbrev pub number_of : {A : Type 0} → Result A Refusal → ℕ
number_of (Ok a) = 0
number_of (Err r) = number r

-- and what the refusal carries, 0 where there is none
abbrev pub carried_of : {A : Type 0} → Result A Refusal → ℕ
carried_of (Ok a) = 0
carried_of (Err r) = carried r

-- a value of an answer; what stands first for a refusal
abbrev pub value_of : {A B : Type 0} → B → (A → B) → Result A Refusal → B
value_of none f (Ok a) = f a
value_of none f (Err r) = none

-- of a check these two numbers
abbrev pub verdict_of : {A : Type 0} → Result A Refusal → Verdict
verdict_of a = record { refusal = number_of a; carried = carried_of a }

-- the same beside yes or no
abbrev pub yes_no_of : Result Bool Refusal → YesNo
yes_no_of a = record { refusal = number_of a; carried = carried_of a; yes = value_of false (λ yes. yes) a }

-- and beside a count: the units of an encoding, the ranges of a list, the numbers of an unpacked list
abbrev pub count_of : Result ℕ Refusal → Count
count_of n = record { refusal = number_of n; carried = carried_of n; count = value_of 0 (λ count. count) n }

-- and beside the answer of a search
abbrev pub sought_of : Result Hit Refusal → Sought
sought_of f =
    record {
      refusal = number_of f;
      carried = carried_of f;
      read = value_of 0 (λ hit. hit.read) f;
      yes = value_of false (λ hit. hit.yes) f;
    }

-- and beside the lengths of a packed table
abbrev pub sizes_of : Result Packed Refusal → Sizes
sizes_of p =
    record {
      refusal = number_of p;
      carried = carried_of p;
      headers = value_of 0 (λ packed. packed.headers) p;
      offsets = value_of 0 (λ packed. packed.offsets) p;
    }

-- a mapping, its refusal as a number; 1 and 2 carry nothing
abbrev pub mapped_of : Result Mapping Refusal → Mapped
mapped_of m =
    record {
      refusal = number_of m;
      count = mapping.count_of m;
      to = mapping.to_of m;
    }

-- the same, as relations of an answer and what crosses of it
abbrev pub IsVerdict : {A : Type 0} → Result A Refusal → Verdict → Type 0
IsVerdict a v = v ≡ verdict_of a

abbrev pub IsYesNo : Result Bool Refusal → YesNo → Type 0
IsYesNo a v = v ≡ yes_no_of a

abbrev pub IsCount : Result ℕ Refusal → Count → Type 0
IsCount a v = v ≡ count_of a

abbrev pub IsSought : Result Hit Refusal → Sought → Type 0
IsSought a v = v ≡ sought_of a

abbrev pub IsSizes : Result Packed Refusal → Sizes → Type 0
IsSizes a v = v ≡ sizes_of a

-- of a mapping also that C reads what the laws of mappings speak of
pub record IsMapped (a : Result Mapping Refusal) (v : Mapped) : Type 0 where
  pub crosses : v ≡ mapped_of a
  pub counts : v.count ≡ mapping.count_of a
  pub numbers : v.to ≡ mapping.to_of a
