-- `surface_places::Lines::highest_along` meets its contract. Assumes nothing.
use Rattle.std.proofs.Common.{leb, rules}
use Rattle.std.proofs.lemmas.List.Sorted.{IsPartitionedBy-leb, IsPartitionPoint-from_clause}
use Rattle.sheet_words.specs.Word.{word_at}
use Rattle.surface_places.proofs.Inner.{inner_rises, inner_count}
use Rattle.surface_places.proofs.Lines.highest_along.Goals as goal

pub returns : goal.returns
returns c =
    let m = c.args.self.mesh in let axis = c.args.axis in let position = c.args.position in let words = c.as_chunks.ensures in
    let rises = inner_rises m axis c.start.ensures.0 c.lines.ensures.0 words.front words.front_len in
    inner_count m axis c.start.ensures.0 c.lines.ensures.0 words.front words.front_len _ position c.partition_point.ensures.bound c.requires.first
    (IsPartitionPoint-from_clause (λ w. leb (word_at w 0) position) _ _ c.partition_point.ensures.partitioned (IsPartitionedBy-leb (λ w. word_at w 0) _ position rises)
    (λ w r f k. search rules))
