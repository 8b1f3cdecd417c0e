-- Two scalar values of one number are one, and so are two code points: so there is one answer of each check. Assumes nothing.
use Rattle.std.specs.Prelude.{◌≡◌, ℕ, ◌≤◌, true, Result, Ok, Err}
use mathlib.Core.Path.{refl, ap}
use native.Mathlib.Omega.{arith}
use Rattle.std.proofs.Props.{props}
use Rattle.std.proofs.Math.Path.{PathP, to_path_p}
use Rattle.scalar.specs.Scalars.{is_scalar}
use Rattle.scalar.specs.Values.{Made}
use Rattle.scalar.specs.Points.{PointMade}
use Rattle.scalar.specs.declared.Scalar.{Scalar}
use Rattle.scalar.specs.declared.point.CodePoint.{CodePoint}
use Rattle.scalar.specs.declared.refusal.Refusal.{Refusal}

pub same_scalar : (s t : Scalar) → s.value ≡ t.value → s ≡ t
same_scalar s t e =
    let once : IsProp (is_scalar t.value ≡ true) = Prim.hlevel props in
    let kept : PathP (λ k. is_scalar (e k) ≡ true) s.is_scalar t.is_scalar =
    to_path_p (λ k. is_scalar (e k) ≡ true) (once _ t.is_scalar)
    in
    λ i. record { value = e i; is_scalar = kept i }

pub same_point : (s t : CodePoint) → s.value ≡ t.value → s ≡ t
same_point s t e =
    let once : IsProp (t.value ≤ 0x10FFFF) = Prim.hlevel props in
    let kept : PathP (λ k. e k ≤ 0x10FFFF) s.inside t.inside = to_path_p (λ k. e k ≤ 0x10FFFF) (once _ t.inside) in
    λ i. record { value = e i; inside = kept i }

pub same_made : (n : ℕ) (r r' : Result Scalar Refusal) → Made n r → Made n r' → r ≡ r'
same_made n (Ok s) (Ok t) e d = let f : s.value ≡ t.value = cc in ap Ok (same_scalar s t f)
same_made n (Ok s) (Err q) e d = let z : ◌≡◌ {A = ℕ} 0 1 = cc in absurd (omega arith)
same_made n (Err q) (Ok t) e d = let z : ◌≡◌ {A = ℕ} 0 1 = cc in absurd (omega arith)
same_made n (Err q) (Err p) e d = let f : q ≡ p = cc in rw f refl

pub same_points : (n : ℕ) (r r' : Result CodePoint Refusal) → PointMade n r → PointMade n r' → r ≡ r'
same_points n (Ok s) (Ok t) e d = let f : s.value ≡ t.value = cc in ap Ok (same_point s t f)
same_points n (Ok s) (Err q) e d = let z : ◌≡◌ {A = ℕ} 0 1 = cc in absurd (omega arith)
same_points n (Err q) (Ok t) e d = let z : ◌≡◌ {A = ℕ} 0 1 = cc in absurd (omega arith)
same_points n (Err q) (Err p) e d = let f : q ≡ p = cc in rw f refl
