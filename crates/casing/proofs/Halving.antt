-- Halving among ends that rise: every row from first to before lo ends below x, and the row at hi does not. A turn moves one of
-- them to the middle, and where they meet is the row sought. Assumes nothing.
-- A lemma that no proof cites any more stands because docs/PORT.md names it.
use Rattle.std.proofs.Common.{◌≡◌, ℕ, ◌+◌, ◌<◌, ◌≤◌, true, List, length, get_or, ⊎_elim, eq-or-lt_of_le, arith}
use Rattle.casing.specs.Rows.{apart}
use Rattle.casing.specs.Reading.{Halved}
use Rattle.casing.proofs.Sorted.{ends_rise}

pub record Halving (ends : List ℕ) (first last x lo hi : ℕ) : Type 0 where
  pub from : first ≤ lo
  pub order : lo ≤ hi
  pub upto : hi ≤ last
  pub below : (j : ℕ) → first ≤ j → j < lo → get_or ends j 0 < x
  pub reached : hi < last → x ≤ get_or ends hi 0

module _ (ends : List ℕ) (first last x : ℕ) where
  pub begin : first ≤ last → Halving ends first last x first last
  begin h =
      record { from = omega arith; order = h; upto = omega arith; below = λ j k l. absurd (omega arith); reached = λ l. absurd (omega arith) }

  module _ (lo hi : ℕ) (h : Halving ends first last x lo hi) where
    -- the row in the middle ends below x
    pub move_lo : apart 0 ends ends ≡ true → last ≤ length ends → (m : ℕ) → lo ≤ m → m < hi → get_or ends m 0 < x
        → Halving ends first last x (m + 1) hi
    move_lo rise inside m k l b =
        record {
          from = omega (arith, h.from);
          order = omega arith;
          upto = h.upto;
          below = λ j f g.
              ⊎_elim
              (λ e. rw e b)
              (λ o. omega (arith, ends_rise ends ends 0 rise j m o (omega (arith, h.upto)), b))
              (eq-or-lt_of_le {n = j} {m = m} (omega arith));
          reached = h.reached;
        }

    -- it does not
    pub move_hi : (m : ℕ) → lo ≤ m → m < hi → x ≤ get_or ends m 0 → Halving ends first last x lo m
    move_hi m k l b =
        record { from = h.from; order = k; upto = omega (arith, h.upto); below = h.below; reached = λ g. b }

    pub met : hi ≤ lo → Halved ends first last x lo
    met l =
        let e : lo ≡ hi = omega (arith, h.order) in
        record { from = h.from; upto = omega (arith, h.upto); below = h.below; reached = rw e h.reached }
