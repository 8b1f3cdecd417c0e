-- What a refusal says in words. Assumes nothing: these are definitions.
use Rattle.std.specs.Prelude.{ℕ, List, ◌++◌, codes, decimal, Option, Some}
use Rattle.scalar.specs.declared.refusal.Refusal.{Refusal}
use Rattle.scalar.specs.declared.refusal.Refusal.TheVariants.{AboveMax, Surrogate, OddList, TooManyRanges, BadRange, ShortOffsets, ShortHeaders, BrokenRule, ShortBuffer}
use Rattle.scalar.specs.Refusals.{rule_number}

abbrev pub text_of : Refusal → List ℕ
text_of AboveMax = codes "a number is above 10FFFF"
text_of Surrogate = codes "a surrogate is no scalar value"
text_of OddList = codes "a list of number pairs has an odd length"
text_of TooManyRanges = codes "a list has more than 1023 ranges"
text_of (BadRange index) = codes "range " ++ (decimal index ++ codes " breaks the order")
text_of (ShortOffsets need) = codes "the offset buffer needs " ++ (decimal need ++ codes " places")
text_of (ShortHeaders need) = codes "the header buffer needs " ++ (decimal need ++ codes " places")
text_of (BrokenRule broken) = codes "the table breaks rule W" ++ decimal (rule_number broken)
text_of (ShortBuffer need) = codes "the buffer needs " ++ (decimal need ++ codes " places")

abbrev pub said : Refusal → Option (List ℕ)
said r = Some (text_of r)
