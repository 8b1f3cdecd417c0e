-- The next number of the list, or none. Assumes nothing.
use Rattle.std.proofs.Common.{rules, ◌≡◌, ◌∙◌, true, false, sym, ap, refl, length}
use Rattle.unpack.specs.Flow.{leaves}
use Rattle.unpack.proofs.Left.{gives_listed, passes_on, gives_waiting, gives_open, gives_none}
use Rattle.unpack.proofs.numbers.NumbersIterator.next.Goals as goal

pub returns-then-listed-clause-steps : goal.returns-then-listed-clause-steps
returns-then-listed-clause-steps c =
    let s = c.loop-b.self in
    let n = c.in-Some.ensures.0 in
    let t : leaves s.waiting s.at c.in-Some.b ≡ true = rw (n.waiting, n.at) at (sym c.meets-listed.ensures.0 ∙ c.if-listed.true) in
    rw (c.number_of-number.ensures, c.meets-listed.ensures.1, n.last, n.at, n.waiting)
    (sym c.loop-b.invariant ∙ gives_listed s.last s.waiting s.at c.in-Some.b _ _ n.walks n.inside t)

pub returns-then-listed-clause-goes : goal.returns-then-listed-clause-goes
returns-then-listed-clause-goes c = let shorter = ap length (returns-then-listed-clause-steps c) in search rules

pub loop-b-preserved : goal.loop-b-preserved
loop-b-preserved c =
    let s = c.loop-b.self in
    let n = c.in-Some.ensures.0 in
    let t : leaves s.waiting s.at c.in-Some.b ≡ false = rw (n.waiting, n.at) at (sym c.meets-listed.ensures.0 ∙ c.if-listed.false) in
    rw (c.meets-listed.ensures.1, n.last, n.at, n.waiting)
    (sym (passes_on s.last s.waiting s.at c.in-Some.b _ _ n.walks n.inside t) ∙ c.loop-b.invariant)

pub returns-then-self-clause-steps : goal.returns-then-self-clause-steps
returns-then-self-clause-steps c =
    let left = c.in_default.ensures in
    rw c.number_of-number-then-self.ensures
    (sym c.loop-b.invariant ∙ sym left.0 ∙ gives_waiting _ _ _ _ left.1 c.if-self.true)

pub returns-then-self-clause-goes : goal.returns-then-self-clause-goes
returns-then-self-clause-goes c = let shorter = ap length (returns-then-self-clause-steps c) in search rules

pub returns-then-open-clause-steps : goal.returns-then-open-clause-steps
returns-then-open-clause-steps c =
    let left = c.in_default.ensures in
    sym c.loop-b.invariant ∙ sym left.0 ∙ gives_open _ _ _ _ left.1 c.if-self.false c.if-open.true

pub returns-then-open-clause-goes : goal.returns-then-open-clause-goes
returns-then-open-clause-goes c = let shorter = ap length (returns-then-open-clause-steps c) in search rules

pub returns-else-open-clause-steps : goal.returns-else-open-clause-steps
returns-else-open-clause-steps c =
    let left = c.in_default.ensures in
    (sym c.loop-b.invariant ∙ sym left.0 ∙ gives_none _ _ _ _ left.1 c.if-self.false c.if-open.false, gives_none false _ _ _ left.1 c.if-self.false refl)
