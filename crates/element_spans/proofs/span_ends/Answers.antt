-- `element_spans::span_ends` meets its contract: the two ends are as far from the right edge as from the left. Assumes nothing.
use Rattle.std.proofs.Common.{◌≡◌, ℕ, ◌+◌, ◌-◌, ◌*◌, ◌/◌, ◌<◌, ◌≤◌, true, false, sym, ◌∙◌, ap}
use Rattle.std.specs.Int.{div_ceil}
use Rattle.element_cell.specs.Cell.{PixelInCell}
use Rattle.element_cell.specs.declared.Pixel.{Pixel}
use Rattle.element_spans.specs.Span.{ceiling, end_of}
use Rattle.element_spans.specs.Ends.{ends_of}
use Rattle.element_spans.specs.declared.Ends.{Ends}
use Rattle.element_spans.proofs.Divisions.{div_ceil_is}
use Rattle.element_spans.proofs.UpperHalf.{upper_ends}
use Rattle.element_spans.proofs.Crossing.{upper_is, lower_is, upper_middle, lower_middle, lower_ends}
use Rattle.element_spans.proofs.span_ends.Goals as goal

module _ (p : Pixel) (i : PixelInCell p) {up : ℕ} (is : up ≡ div_ceil (p.b * p.width) p.height) where
  rounded_up : up ≡ ceiling (p.b * p.width) p.height
  rounded_up = is ∙ div_ceil_is _ i.height.least

  in_upper : 2 * p.b ≤ p.height → ◌≡◌ {A = Ends} (record { left = up; middle = p.width - up + 1; upper = true }) (ends_of p)
  unfolding ends_of
  in_upper h = let e = upper_ends p i h in λ t.
      record {
        left = (rounded_up ∙ e.0) t;
        middle = (ap (λ n. p.width - n + 1) rounded_up ∙ e.1 ∙ ap (λ k. end_of k p) (sym (upper_middle p (upper_is p h)))) t;
        upper = sym (upper_is p h) t;
      }

  in_lower : p.height < 2 * p.b → ◌≡◌ {A = Ends} (record { left = p.width - p.b * p.width / p.height; middle = up; upper = false }) (ends_of p)
  unfolding ends_of
  in_lower h = let e = lower_ends p i h in λ t.
      record {
        left = e.0 t;
        middle = (rounded_up ∙ e.1 ∙ ap (λ k. end_of k p) (sym (lower_middle p (lower_is p h)))) t;
        upper = sym (lower_is p h) t;
      }

pub returns-then-p : goal.returns-then-p
returns-then-p c = rw (← c.p.view_is) (in_upper _ c.p.invariant c.div_ceil-up.ensures c.if-p.true)

pub returns : goal.returns
returns c = rw (← c.p.view_is) (in_lower _ c.p.invariant c.div_ceil-up.ensures c.if-p.false)
