-- Any two results that a promise of this crate allows are equal. No entry writes to what it is lent. Assumes nothing.
use Rattle.std.specs.Prelude.{◌≡◌}
use mathlib.Core.Path.{◌∙◌, sym}
use Rattle.skip.proofs.check.Reads as check
use Rattle.skip.proofs.search.Reads as search
use Rattle.skip.proofs.search_counted.Reads as search_counted
use Rattle.skip.proofs.start_index.Reads as start_index
use Rattle.skip.proofs.prefix_sum.Reads as prefix_sum
use Rattle.skip.proofs.kernel.lowest_broken.Reads as lowest_broken
use Rattle.skip.proofs.kernel.run_end.Reads as run_end
use Rattle.skip.proofs.kernel.skip_search.Reads as skip_search
use Rattle.skip.proofs.kernel.skip_search_counted.Reads as skip_search_counted

check_fixed : (κs : _) (a : _) (r r' : _) (s s' : _) → check.Post κs a r s → check.Post κs a r' s' → r ≡ r'
check_fixed κs a r r' s s' p q = p ∙ sym q

search_fixed : (κs : _) (a : _) (r r' : _) (s s' : _) → search.Post κs a r s → search.Post κs a r' s' → r ≡ r'
search_fixed κs a r r' s s' p q = p ∙ sym q

search_counted_fixed : (κs : _) (a : _) (r r' : _) (s s' : _) → search_counted.Post κs a r s → search_counted.Post κs a r' s' → r ≡ r'
search_counted_fixed κs a r r' s s' p q = p ∙ sym q

start_index_fixed : (κs : _) (a : _) (r r' : _) (s s' : _) → start_index.Post κs a r s → start_index.Post κs a r' s' → r ≡ r'
start_index_fixed κs a r r' s s' p q = p ∙ sym q

prefix_sum_fixed : (κs : _) (a : _) (r r' : _) (s s' : _) → prefix_sum.Post κs a r s → prefix_sum.Post κs a r' s' → r ≡ r'
prefix_sum_fixed κs a r r' s s' p q = p ∙ sym q

lowest_broken_fixed : (κs : _) (a : _) (r r' : _) (s s' : _) → lowest_broken.Post κs a r s → lowest_broken.Post κs a r' s' → r ≡ r'
lowest_broken_fixed κs a r r' s s' p q = p ∙ sym q

run_end_fixed : (κs : _) (a : _) (r r' : _) (s s' : _) → run_end.Post κs a r s → run_end.Post κs a r' s' → r ≡ r'
run_end_fixed κs a r r' s s' p q = p ∙ sym q

skip_search_fixed : (κs : _) (a : _) (r r' : _) (s s' : _) → skip_search.Post κs a r s → skip_search.Post κs a r' s' → r ≡ r'
skip_search_fixed κs a r r' s s' p q = p ∙ sym q

skip_search_counted_fixed : (κs : _) (a : _) (r r' : _) (s s' : _) → skip_search_counted.Post κs a r s → skip_search_counted.Post κs a r' s' → r ≡ r'
skip_search_counted_fixed κs a r r' s s' p q = p ∙ sym q
