-- The examples, computed. Assumes nothing.
use mathlib.Core.Path.{refl}
use Rattle.sheet_words.specs.Word.{signed, bytes_of}
use Rattle.sheet_layout.specs.Format.{decoded, node_at, height_at, slope_x_at, slope_y_at}
use Rattle.sheet_layout.specs.Examples.{evenly, Examples}

pub examples : Examples
unfolding signed bytes_of decoded node_at height_at slope_x_at slope_y_at evenly
examples = record {
  corner = refl;
  grains = refl;
  row_end = refl;
  row_start = refl;
  along_x = refl;
  along_y = refl;
  first_x = refl;
  last_x = refl;
  first_y = refl;
  last_y = refl;
}
