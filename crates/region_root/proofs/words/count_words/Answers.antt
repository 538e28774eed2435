use Rattle.std.proofs.Common.{ap, ◌∙◌}
use Rattle.cleary_core.specs.Cells.{word_count}
use Rattle.region_root.specs.Layout.{region_words}
use Rattle.region_root.proofs.words.count_words.Goals as goal

pub returns-clause-same : goal.returns-clause-same
unfolding region_words
returns-clause-same g c = c.words.ensures ∙ ap word_count c.over-region.ensures.sizes
