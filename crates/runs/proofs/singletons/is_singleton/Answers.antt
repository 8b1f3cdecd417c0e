-- `runs::singletons::is_singleton` meets its contract: a turn takes one pair and its low bytes off. Assumes nothing.
use Rattle.std.proofs.Common.{◌∙◌, sym, eq-eqb, ne_eqb, ◌/◌, ◌%◌}
use Rattle.std.proofs.lemmas.Slice.Zip.{Zip-more, either_empty_from_Zip}
use Rattle.runs.proofs.Pairs.{turn, over}
use Rattle.runs.proofs.singletons.is_singleton.Goals as goal
use Rattle.runs.proofs.singletons.is_singleton.Goals.{else-of-high-via-then-of-high+else-contains, else-of-high-via-else-of-high}

pub returns-then-contains : goal.returns-then-contains
returns-then-contains c =
    let z = Zip-more c.loop-of.of-iterator c.next.new.self _ _ c.in-Some.is c.next.ensures.steps in
    let t = turn (c.args.x / 256) (c.args.x % 256) _ z.0 z.1 c.from.ensures c.min.ensures c.split_at.ensures.front c.split_at.ensures.back in
    sym (c.loop-of.invariant.2 ∙ t ∙ simp (eq-eqb _ _ c.if-of-high.true, ← c.contains.ensures.value, c.if-contains.true))

pub loop-of-preserved : goal.loop-of-preserved
loop-of-preserved c =
    let z = Zip-more c.loop-of.of-iterator c.next.new.self _ _ c.in-Some.is c.next.ensures.steps in
    let t = turn (c.args.x / 256) (c.args.x % 256) _ z.0 z.1 c.from.ensures c.min.ensures c.split_at.ensures.front c.split_at.ensures.back in (
      c.loop-of.invariant.0,
      tt,
      c.loop-of.invariant.2 ∙ t ∙ elim c.else-of-high.branch [
        | else-of-high-via-then-of-high+else-contains w ↦ simp (eq-eqb _ _ w.if-of-high.true, ← w.contains.ensures.value, w.if-contains.false)
        | else-of-high-via-else-of-high w ↦ simp (ne_eqb _ _ w.if-of-high.false)
      ],
    )

pub returns : goal.returns
returns c =
    sym (c.loop-of.invariant.2 ∙ over _ _ _ _ _ (either_empty_from_Zip c.loop-of.of-iterator c.next.new.self _ c.in-None.is c.next.ensures.steps))
