use Rattle.std.proofs.Common.{◌∙◌, ◌+◌, ℕ, ap, sym, refl, arith}
use Rattle.unpack.specs.Flow.{flow}
use Rattle.unpack.proofs.Left.{left_no_headers, left_no_offsets, flow_past, step_ends, step_on}
use Rattle.unpack.proofs.numbers.Numbers.boundary.Goals as goal

pub returns-in_err-header : goal.returns-in_err-header
returns-in_err-header c = rw c.from_residual.ensures (refl, λ w. left_no_headers _ _ _ w _ _ c.in_err-header.ensures.cases)

pub returns-in_err-offset : goal.returns-in_err-offset
returns-in_err-offset c = rw c.from_residual-in_err-offset.ensures (refl, λ w. left_no_offsets _ _ _ w _ _ c.in_err-offset.ensures.cases)

pub returns-then-b-gt-MAX : goal.returns-then-b-gt-MAX
returns-then-b-gt-MAX c =
    let s = c.args.self.now in
    let walks = step_on _ _ _ _ _ _ _ _ _ _ c.in_ok-header.ensures.cases.0 c.in_ok-offset.ensures.cases.0 (λ e. c.if-self.true (e ∙ sym s.ends)) (ap (λ (o : ℕ). s.at + o) c.from.ensures) in
    (refl, λ v. ap (flow v s.at) walks ∙ flow_past v s.at _ _ c.if-b-gt-MAX.true)

pub returns-then-self : goal.returns-then-self
returns-then-self c =
    let s = c.args.self.now in
    let walks = step_on _ _ _ _ _ _ _ _ _ _ c.in_ok-header.ensures.cases.0 c.in_ok-offset.ensures.cases.0 (λ e. c.if-self.true (e ∙ sym s.ends)) (ap (λ (o : ℕ). s.at + o) c.from.ensures) in
    (record { inside = c.if-b-gt-MAX.false; walks = walks; at = refl; waiting = refl; last = refl }, omega (arith, c.in_ok-offset.ensures.cases.1))

pub returns-then-b-gt-MAX-2 : goal.returns-then-b-gt-MAX-2
returns-then-b-gt-MAX-2 c =
    let s = c.args.self.now in
    let walks = step_ends _ _ _ _ _ _ _ _ _ _ c.in_ok-header.ensures.cases.0 c.in_ok-offset.ensures.cases.0 (c.if-self.false ∙ s.ends) c.prefix_sum-b.ensures in
    (refl, λ v. ap (flow v s.at) walks ∙ flow_past v s.at _ _ c.if-b-gt-MAX-2.true)

pub returns : goal.returns
returns c =
    let s = c.args.self.now in
    let walks = step_ends _ _ _ _ _ _ _ _ _ _ c.in_ok-header.ensures.cases.0 c.in_ok-offset.ensures.cases.0 (c.if-self.false ∙ s.ends) c.prefix_sum-b.ensures in
    (record { inside = c.if-b-gt-MAX-2.false; walks = walks; at = refl; waiting = refl; last = refl }, omega (arith, c.in_ok-offset.ensures.cases.1))
