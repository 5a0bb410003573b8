-- `sheet_checking::sheet_refusal` meets its contract. Assumes nothing.
use Rattle.std.proofs.Common.{sym, ◌∙◌}
use Rattle.sheet_checking.proofs.Verdicts.{header, by_mark, by_version, by_counts}
use Rattle.sheet_checking.proofs.sheet_refusal.Goals as goal

pub returns-then-other_mark : goal.returns-then-other_mark
returns-then-other_mark c = by_mark _ (sym c.other_mark.ensures ∙ c.if-other_mark.true)

pub other_version-requires : goal.other_version-requires
other_version-requires c = header _ (sym c.other_mark.ensures ∙ c.if-other_mark.false)

pub returns-then-other_version : goal.returns-then-other_version
returns-then-other_version c =
    by_version _ (sym c.other_mark.ensures ∙ c.if-other_mark.false) (sym c.other_version.ensures ∙ c.if-other_version.true)

pub other_counts-requires : goal.other_counts-requires
other_counts-requires c = header _ (sym c.other_mark.ensures ∙ c.if-other_mark.false)

pub returns-then-other_counts : goal.returns-then-other_counts
returns-then-other_counts c =
    by_counts _ (sym c.other_mark.ensures ∙ c.if-other_mark.false) (sym c.other_version.ensures ∙ c.if-other_version.false) (sym c.other_counts.ensures ∙ c.if-other_counts.true)
