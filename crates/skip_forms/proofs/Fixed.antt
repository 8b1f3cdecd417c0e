-- Any two results that a promise allows are equal, and so is what the lent buffers hold. Each law is said of the promise as an assertion, the `ensures` of the generated `clauses`: where it holds of two results, they are equal. Assumes nothing.
use mathlib.Core.Path.{◌≡◌, ◌∙◌, sym}
use seplogic.Ra.Ura.{Ura}
use base.Logic.{SProp, ent, sep, fst∗, snd∗}
use prog.Memory.{Memory}
use prog.Routine.{Routine}
use types.Logic.{Logic}
use contract.Monad.{Fun, fact, fact_i, fact_use}
use Rattle.skip_forms.specs.declared.views.TableView.{TableView}
use Rattle.skip_forms.specs.contracts.views.TableView.new as view
use Rattle.skip_forms.specs.contracts.views.TableView.check as check_view
use Rattle.skip_forms.specs.contracts.views.TableView.search as search_view
use Rattle.skip_forms.specs.contracts.views.TableView.search_counted as search_view_counted
use Rattle.skip_forms.specs.contracts.views.search_by_view as search_by_view
use Rattle.skip_forms.specs.contracts.views.search_by_view_counted as search_by_view_counted
use Rattle.skip_forms.specs.contracts.records.pack_ranges as pack_ranges

-- what two facts say together
pub together : {M : Type 1} (𝓤 : Ura M) {φ ψ χ : Type 0} → (φ → ψ → χ) → ent 𝓤 (sep 𝓤 (fact 𝓤 φ) (fact 𝓤 ψ)) (fact 𝓤 χ)
together 𝓤 {φ} {ψ} {χ} f =
    fact_use 𝓤 φ (fst∗ 𝓤 (fact 𝓤 φ) (fact 𝓤 ψ)) (λ p. fact_use 𝓤 ψ (snd∗ 𝓤 (fact 𝓤 φ) (fact 𝓤 ψ)) (λ q. fact_i 𝓤 χ _ (f p q)))

module _ {M : Type 1} {𝓤 : Ura M} (𝓛 : Logic 𝓤) (mem : Memory → SProp 𝓤) (run : Routine → Fun 𝓤) where
  view_fixed : (κs : _) (a : _) (r r' : TableView) (s s' : _)
      → ent 𝓤 (sep 𝓤 ((view.clauses 𝓛 mem run κs a).ensures tt r s) ((view.clauses 𝓛 mem run κs a).ensures tt r' s')) (fact 𝓤 (r ≡ r'))
  view_fixed κs a r r' s s' =
      together 𝓤 (λ p q. λ i. record { headers = (p.0 ∙ sym q.0) i; offsets = (p.1 ∙ sym q.1) i })

  check_view_fixed : (κs : _) (a : _) (r r' : _) (s s' : _)
      → ent 𝓤 (sep 𝓤 ((check_view.clauses 𝓛 mem run κs a).ensures tt r s) ((check_view.clauses 𝓛 mem run κs a).ensures tt r' s')) (fact 𝓤 (r ≡ r'))
  check_view_fixed κs a r r' s s' = together 𝓤 (λ p q. p ∙ sym q)

  search_view_fixed : (κs : _) (a : _) (r r' : _) (s s' : _)
      → ent 𝓤 (sep 𝓤 ((search_view.clauses 𝓛 mem run κs a).ensures tt r s) ((search_view.clauses 𝓛 mem run κs a).ensures tt r' s')) (fact 𝓤 (r ≡ r'))
  search_view_fixed κs a r r' s s' = together 𝓤 (λ p q. p ∙ sym q)

  search_view_counted_fixed : (κs : _) (a : _) (r r' : _) (s s' : _)
      → ent 𝓤 (sep 𝓤 ((search_view_counted.clauses 𝓛 mem run κs a).ensures tt r s) ((search_view_counted.clauses 𝓛 mem run κs a).ensures tt r' s')) (fact 𝓤 (r ≡ r'))
  search_view_counted_fixed κs a r r' s s' = together 𝓤 (λ p q. p ∙ sym q)

  search_by_view_fixed : (κs : _) (a : _) (r r' : _) (s s' : _)
      → ent 𝓤 (sep 𝓤 ((search_by_view.clauses 𝓛 mem run κs a).ensures tt r s) ((search_by_view.clauses 𝓛 mem run κs a).ensures tt r' s')) (fact 𝓤 (r ≡ r'))
  search_by_view_fixed κs a r r' s s' = together 𝓤 (λ p q. p ∙ sym q)

  search_by_view_counted_fixed : (κs : _) (a : _) (r r' : _) (s s' : _)
      → ent 𝓤 (sep 𝓤 ((search_by_view_counted.clauses 𝓛 mem run κs a).ensures tt r s) ((search_by_view_counted.clauses 𝓛 mem run κs a).ensures tt r' s')) (fact 𝓤 (r ≡ r'))
  search_by_view_counted_fixed κs a r r' s s' = together 𝓤 (λ p q. p ∙ sym q)

  pack_ranges_fixed : (κs : _) (a : _) (r r' : _) (s s' : _)
      → ent 𝓤 (sep 𝓤 ((pack_ranges.clauses 𝓛 mem run κs a).ensures tt r s) ((pack_ranges.clauses 𝓛 mem run κs a).ensures tt r' s'))
      (fact 𝓤 ((r ≡ r') × (s.1.0.now ≡ s'.1.0.now) × (s.1.1.0.now ≡ s'.1.1.0.now)))
  pack_ranges_fixed κs a r r' s s' =
      together 𝓤 (λ p q. (p.answers ∙ sym q.answers, p.leaves_headers ∙ sym q.leaves_headers, p.leaves_offsets ∙ sym q.leaves_offsets))
