-- Any two results that a promise of the boundary allows are equal, and so is what memory holds. Assumes nothing.
use mathlib.Core.Path.{◌≡◌, ◌∙◌, sym, ap}
use Rattle.results.specs.Results.{Crosses, count_of, sizes_of}
use Rattle.becktrestle.proofs.characters.becktrestle_is_alphabetic.Reads as is_alphabetic
use Rattle.becktrestle.proofs.characters.becktrestle_is_lowercase.Reads as is_lowercase
use Rattle.becktrestle.proofs.characters.becktrestle_is_uppercase.Reads as is_uppercase
use Rattle.becktrestle.proofs.characters.becktrestle_is_titlecase.Reads as is_titlecase
use Rattle.becktrestle.proofs.characters.becktrestle_is_cased.Reads as is_cased
use Rattle.becktrestle.proofs.characters.becktrestle_is_numeric.Reads as is_numeric
use Rattle.becktrestle.proofs.characters.becktrestle_is_alphanumeric.Reads as is_alphanumeric
use Rattle.becktrestle.proofs.characters.becktrestle_is_whitespace.Reads as is_whitespace
use Rattle.becktrestle.proofs.characters.becktrestle_is_control.Reads as is_control
use Rattle.becktrestle.proofs.characters.becktrestle_is_printable.Reads as is_printable
use Rattle.becktrestle.proofs.encodings.becktrestle_len_utf8.Reads as len_utf8
use Rattle.becktrestle.proofs.encodings.becktrestle_len_utf16.Reads as len_utf16
use Rattle.becktrestle.proofs.encodings.becktrestle_encode_utf8.Reads as encode_utf8
use Rattle.becktrestle.proofs.encodings.becktrestle_encode_utf16.Reads as encode_utf16
use Rattle.becktrestle.proofs.lists.becktrestle_check_list.Reads as check_list
use Rattle.becktrestle.proofs.lists.becktrestle_search_list.Reads as search_list
use Rattle.becktrestle.proofs.mappings.becktrestle_to_lowercase.Reads as to_lowercase
use Rattle.becktrestle.proofs.mappings.becktrestle_to_uppercase.Reads as to_uppercase
use Rattle.becktrestle.proofs.mappings.becktrestle_to_titlecase.Reads as to_titlecase
use Rattle.becktrestle.proofs.packing.becktrestle_pack.Reads as pack
use Rattle.becktrestle.proofs.scalars.becktrestle_check_scalar.Reads as check_scalar
use Rattle.becktrestle.proofs.scalars.becktrestle_is_ascii_digit.Reads as is_ascii_digit
use Rattle.becktrestle.proofs.scalars.becktrestle_is_ascii_uppercase.Reads as is_ascii_uppercase
use Rattle.becktrestle.proofs.scalars.becktrestle_is_ascii_lowercase.Reads as is_ascii_lowercase
use Rattle.becktrestle.proofs.tables.becktrestle_check_table.Reads as check_table
use Rattle.becktrestle.proofs.tables.becktrestle_search_table.Reads as search_table
use Rattle.becktrestle.proofs.tables.becktrestle_search_table_counted.Reads as search_table_counted
use Rattle.becktrestle.proofs.unpacking.becktrestle_unpack.Reads as unpack

-- what crosses of equal answers is equal
crosses_same : {A B : Type 0} (values : A → B) {P P' : A → Type 0} {r r' : B} (p : Crosses values P r) (q : Crosses values P' r')
    → p.answer ≡ q.answer → r ≡ r'
crosses_same values p q e = p.crosses ∙ ap values e ∙ sym q.crosses

becktrestle_is_alphabetic_fixed : (κs : _) (a : _) (r r' : _) (s s' : _) → is_alphabetic.Post κs a r s → is_alphabetic.Post κs a r' s' → r ≡ r'
becktrestle_is_alphabetic_fixed κs a r r' s s' p q = crosses_same _ p q (p.promised ∙ sym q.promised)

becktrestle_is_lowercase_fixed : (κs : _) (a : _) (r r' : _) (s s' : _) → is_lowercase.Post κs a r s → is_lowercase.Post κs a r' s' → r ≡ r'
becktrestle_is_lowercase_fixed κs a r r' s s' p q = crosses_same _ p q (p.promised ∙ sym q.promised)

becktrestle_is_uppercase_fixed : (κs : _) (a : _) (r r' : _) (s s' : _) → is_uppercase.Post κs a r s → is_uppercase.Post κs a r' s' → r ≡ r'
becktrestle_is_uppercase_fixed κs a r r' s s' p q = crosses_same _ p q (p.promised ∙ sym q.promised)

becktrestle_is_titlecase_fixed : (κs : _) (a : _) (r r' : _) (s s' : _) → is_titlecase.Post κs a r s → is_titlecase.Post κs a r' s' → r ≡ r'
becktrestle_is_titlecase_fixed κs a r r' s s' p q = crosses_same _ p q (p.promised ∙ sym q.promised)

becktrestle_is_cased_fixed : (κs : _) (a : _) (r r' : _) (s s' : _) → is_cased.Post κs a r s → is_cased.Post κs a r' s' → r ≡ r'
becktrestle_is_cased_fixed κs a r r' s s' p q = crosses_same _ p q (p.promised ∙ sym q.promised)

becktrestle_is_numeric_fixed : (κs : _) (a : _) (r r' : _) (s s' : _) → is_numeric.Post κs a r s → is_numeric.Post κs a r' s' → r ≡ r'
becktrestle_is_numeric_fixed κs a r r' s s' p q = crosses_same _ p q (p.promised ∙ sym q.promised)

becktrestle_is_alphanumeric_fixed : (κs : _) (a : _) (r r' : _) (s s' : _) → is_alphanumeric.Post κs a r s → is_alphanumeric.Post κs a r' s' → r ≡ r'
becktrestle_is_alphanumeric_fixed κs a r r' s s' p q = crosses_same _ p q (p.promised ∙ sym q.promised)

becktrestle_is_whitespace_fixed : (κs : _) (a : _) (r r' : _) (s s' : _) → is_whitespace.Post κs a r s → is_whitespace.Post κs a r' s' → r ≡ r'
becktrestle_is_whitespace_fixed κs a r r' s s' p q = crosses_same _ p q (p.promised ∙ sym q.promised)

becktrestle_is_control_fixed : (κs : _) (a : _) (r r' : _) (s s' : _) → is_control.Post κs a r s → is_control.Post κs a r' s' → r ≡ r'
becktrestle_is_control_fixed κs a r r' s s' p q = crosses_same _ p q (p.promised ∙ sym q.promised)

becktrestle_is_printable_fixed : (κs : _) (a : _) (r r' : _) (s s' : _) → is_printable.Post κs a r s → is_printable.Post κs a r' s' → r ≡ r'
becktrestle_is_printable_fixed κs a r r' s s' p q = crosses_same _ p q (p.promised ∙ sym q.promised)

becktrestle_len_utf8_fixed : (κs : _) (a : _) (r r' : _) (s s' : _) → len_utf8.Post κs a r s → len_utf8.Post κs a r' s' → r ≡ r'
becktrestle_len_utf8_fixed κs a r r' s s' p q = crosses_same _ p q (p.promised ∙ sym q.promised)

becktrestle_len_utf16_fixed : (κs : _) (a : _) (r r' : _) (s s' : _) → len_utf16.Post κs a r s → len_utf16.Post κs a r' s' → r ≡ r'
becktrestle_len_utf16_fixed κs a r r' s s' p q = crosses_same _ p q (p.promised ∙ sym q.promised)

becktrestle_encode_utf8_fixed : (κs : _) (a : _) (r r' : _) (s s' : _) → encode_utf8.Post κs a r s → encode_utf8.Post κs a r' s' → (r ≡ r') × (s.1.0.now ≡ s'.1.0.now)
becktrestle_encode_utf8_fixed κs a r r' s s' p q =
    (crosses_same count_of p q (p.promised.answers ∙ sym q.promised.answers), p.promised.leaves ∙ sym q.promised.leaves)

becktrestle_encode_utf16_fixed : (κs : _) (a : _) (r r' : _) (s s' : _) → encode_utf16.Post κs a r s → encode_utf16.Post κs a r' s' → (r ≡ r') × (s.1.0.now ≡ s'.1.0.now)
becktrestle_encode_utf16_fixed κs a r r' s s' p q =
    (crosses_same count_of p q (p.promised.answers ∙ sym q.promised.answers), p.promised.leaves ∙ sym q.promised.leaves)

becktrestle_check_list_fixed : (κs : _) (a : _) (r r' : _) (s s' : _) → check_list.Post κs a r s → check_list.Post κs a r' s' → r ≡ r'
becktrestle_check_list_fixed κs a r r' s s' p q = crosses_same _ p q (p.promised ∙ sym q.promised)

becktrestle_search_list_fixed : (κs : _) (a : _) (r r' : _) (s s' : _) → search_list.Post κs a r s → search_list.Post κs a r' s' → r ≡ r'
becktrestle_search_list_fixed κs a r r' s s' p q = crosses_same _ p q (p.promised ∙ sym q.promised)

becktrestle_to_lowercase_fixed : (κs : _) (a : _) (r r' : _) (s s' : _) → to_lowercase.Post κs a r s → to_lowercase.Post κs a r' s' → r ≡ r'
becktrestle_to_lowercase_fixed κs a r r' s s' p q = crosses_same _ p q (p.promised ∙ sym q.promised)

becktrestle_to_uppercase_fixed : (κs : _) (a : _) (r r' : _) (s s' : _) → to_uppercase.Post κs a r s → to_uppercase.Post κs a r' s' → r ≡ r'
becktrestle_to_uppercase_fixed κs a r r' s s' p q = crosses_same _ p q (p.promised ∙ sym q.promised)

becktrestle_to_titlecase_fixed : (κs : _) (a : _) (r r' : _) (s s' : _) → to_titlecase.Post κs a r s → to_titlecase.Post κs a r' s' → r ≡ r'
becktrestle_to_titlecase_fixed κs a r r' s s' p q = crosses_same _ p q (p.promised ∙ sym q.promised)

becktrestle_pack_fixed : (κs : _) (a : _) (r r' : _) (s s' : _) → pack.Post κs a r s → pack.Post κs a r' s' → (r ≡ r') × (s.1.0.now ≡ s'.1.0.now) × (s.1.1.0.now ≡ s'.1.1.0.now)
becktrestle_pack_fixed κs a r r' s s' p q = (
  crosses_same sizes_of p q (p.promised.answers ∙ sym q.promised.answers),
  p.promised.leaves_headers ∙ sym q.promised.leaves_headers,
  p.promised.leaves_offsets ∙ sym q.promised.leaves_offsets,
)

becktrestle_check_scalar_fixed : (κs : _) (a : _) (r r' : _) (s s' : _) → check_scalar.Post κs a r s → check_scalar.Post κs a r' s' → r ≡ r'
becktrestle_check_scalar_fixed κs a r r' s s' p q = crosses_same _ p q (p.promised ∙ sym q.promised)

becktrestle_is_ascii_digit_fixed : (κs : _) (a : _) (r r' : _) (s s' : _) → is_ascii_digit.Post κs a r s → is_ascii_digit.Post κs a r' s' → r ≡ r'
becktrestle_is_ascii_digit_fixed κs a r r' s s' p q = p ∙ sym q

becktrestle_is_ascii_uppercase_fixed : (κs : _) (a : _) (r r' : _) (s s' : _) → is_ascii_uppercase.Post κs a r s → is_ascii_uppercase.Post κs a r' s' → r ≡ r'
becktrestle_is_ascii_uppercase_fixed κs a r r' s s' p q = p ∙ sym q

becktrestle_is_ascii_lowercase_fixed : (κs : _) (a : _) (r r' : _) (s s' : _) → is_ascii_lowercase.Post κs a r s → is_ascii_lowercase.Post κs a r' s' → r ≡ r'
becktrestle_is_ascii_lowercase_fixed κs a r r' s s' p q = p ∙ sym q

becktrestle_check_table_fixed : (κs : _) (a : _) (r r' : _) (s s' : _) → check_table.Post κs a r s → check_table.Post κs a r' s' → r ≡ r'
becktrestle_check_table_fixed κs a r r' s s' p q = crosses_same _ p q (p.promised ∙ sym q.promised)

becktrestle_search_table_fixed : (κs : _) (a : _) (r r' : _) (s s' : _) → search_table.Post κs a r s → search_table.Post κs a r' s' → r ≡ r'
becktrestle_search_table_fixed κs a r r' s s' p q = crosses_same _ p q (p.promised ∙ sym q.promised)

becktrestle_search_table_counted_fixed : (κs : _) (a : _) (r r' : _) (s s' : _) → search_table_counted.Post κs a r s → search_table_counted.Post κs a r' s' → r ≡ r'
becktrestle_search_table_counted_fixed κs a r r' s s' p q = crosses_same _ p q (p.promised ∙ sym q.promised)

becktrestle_unpack_fixed : (κs : _) (a : _) (r r' : _) (s s' : _) → unpack.Post κs a r s → unpack.Post κs a r' s' → (r ≡ r') × (s.1.1.0.now ≡ s'.1.1.0.now)
becktrestle_unpack_fixed κs a r r' s s' p q =
    (crosses_same count_of p q (p.promised.answers ∙ sym q.promised.answers), p.promised.leaves ∙ sym q.promised.leaves)
