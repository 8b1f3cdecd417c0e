-- Each form has the answers of the plain-slice core, and leaves the same in memory: whatever the promise of the one and the promise of the other allow is equal. Assumes nothing.
use mathlib.Core.Path.{◌≡◌, ◌∙◌, sym, subst}
use mathlib.Core.List.{List}
use Prim.Native.Nat.{ℕ}
use seplogic.Ra.Ura.{Ura}
use base.Logic.{SProp, ent, sep}
use prog.Memory.{Memory}
use prog.Routine.{Routine}
use types.Logic.{Logic}
use contract.Monad.{Fun, fact}
use denote.Ref.{Bor}
use denote.MutBor.{MutBor}
use Rattle.skip.specs.contracts.check as check
use Rattle.skip.specs.contracts.search as search
use Rattle.skip.specs.contracts.search_counted as search-counted
use Rattle.pack.specs.Answers.{Packs}
use Rattle.pack.specs.contracts.pack as pack
use Rattle.skip_forms.specs.Records.{flatten}
use Rattle.skip_forms.specs.declared.records.Range.{Range}
use Rattle.skip_forms.specs.declared.views.TableView.{TableView}
use Rattle.skip_forms.proofs.Fixed.{together}
use Rattle.skip_forms.specs.contracts.views.TableView.check as check-view
use Rattle.skip_forms.specs.contracts.views.TableView.search as search-view
use Rattle.skip_forms.specs.contracts.views.TableView.search_counted as search-view-counted
use Rattle.skip_forms.specs.contracts.records.pack_ranges as pack-ranges

module _ {M : Type 1} {𝓤 : Ura M} (𝓛 : Logic 𝓤) (mem : Memory → SProp 𝓤) (run : Routine → Fun 𝓤) where
  -- the view answers as the two slices do
  check_view_equal : (κs κs' : _) (v : TableView) (r r' : _) (s s' : _)
      → ent 𝓤 (sep 𝓤 ((check-view.clauses 𝓛 mem run κs (v, tt)).ensures tt r s) ((check.clauses 𝓛 mem run κs' (v.headers, (v.offsets, tt))).ensures tt r' s')) (fact 𝓤 (r ≡ r'))
  check_view_equal κs κs' v r r' s s' = together 𝓤 (λ p q. p ∙ sym q)

  search_view_equal : (κs κs' : _) (v : TableView) (x : ℕ) (r r' : _) (s s' : _)
      → ent 𝓤 (sep 𝓤 ((search-view.clauses 𝓛 mem run κs (v, (x, tt))).ensures tt r s) ((search.clauses 𝓛 mem run κs' (v.headers, (v.offsets, (x, tt)))).ensures tt r' s')) (fact 𝓤 (r ≡ r'))
  search_view_equal κs κs' v x r r' s s' = together 𝓤 (λ p q. p ∙ sym q)

  search_view_counted_equal : (κs κs' : _) (v : TableView) (x : ℕ) (r r' : _) (s s' : _)
      → ent 𝓤 (sep 𝓤 ((search-view-counted.clauses 𝓛 mem run κs (v, (x, tt))).ensures tt r s) ((search-counted.clauses 𝓛 mem run κs' (v.headers, (v.offsets, (x, tt)))).ensures tt r' s')) (fact 𝓤 (r ≡ r'))
  search_view_counted_equal κs κs' v x r r' s s' = together 𝓤 (λ p q. p ∙ sym q)

  -- a list lent as records is packed as the same list lent as flat pairs, into buffers that hold the same
  pack_ranges_equal : (κs κs' : _) (ranges : Bor (List Range)) (list : Bor (List ℕ)) (headers offsets headers₂ offsets₂ : MutBor (List ℕ)) (r r' : _) (s s' : _)
      → list.now ≡ flatten ranges.now → headers₂.now ≡ headers.now → offsets₂.now ≡ offsets.now
      → ent 𝓤 (sep 𝓤 ((pack-ranges.clauses 𝓛 mem run κs (ranges, (headers, (offsets, tt)))).ensures tt r s) ((pack.clauses 𝓛 mem run κs' (list, (headers₂, (offsets₂, tt)))).ensures tt r' s'))
      (fact 𝓤 ((r ≡ r') × (s.1.0.now ≡ s'.1.0.now) × (s.1.1.0.now ≡ s'.1.1.0.now)))
  pack_ranges_equal κs κs' ranges list headers offsets headers₂ offsets₂ r r' s s' el eh eo =
      together 𝓤 (λ p q₀.
      let q : Packs (flatten ranges.now) headers.now offsets.now r' s'.1.0.now s'.1.1.0.now =
      subst (λ (o : List ℕ). Packs (flatten ranges.now) headers.now o r' s'.1.0.now s'.1.1.0.now) eo
      (subst (λ (h : List ℕ). Packs (flatten ranges.now) h offsets₂.now r' s'.1.0.now s'.1.1.0.now) eh
      (subst (λ (l : List ℕ). Packs l headers₂.now offsets₂.now r' s'.1.0.now s'.1.1.0.now) el q₀)) in
      (p.answers ∙ sym q.answers, p.leaves_headers ∙ sym q.leaves_headers, p.leaves_offsets ∙ sym q.leaves_offsets))
