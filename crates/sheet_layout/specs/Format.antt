-- The bytes of a sheet (01, "The bytes of a sheet"): header, mesh lines and nodes, each a total function of the list of bytes, in which a byte past
-- the end reads as 0. What a later version of the format may change stands behind one name each. Assumes nothing.
use Rattle.std.specs.Prelude.{ℕ, ◌+◌, ◌*◌, List, ◌++◌, Bool, not, ◌&&◌, take, drop, leb, eqb, ℤ, pos, nat_abs, ◌*ℤ◌}
use Rattle.sheet_layout.specs.Some.{some}
use Rattle.sheet_words.specs.Word.{byte_at, word_at, signed, bits_of, bytes_of}

-- ---- the header

-- how many bytes the header has
abbrev pub header_size : ℕ
header_size = 8

-- it starts with the mark LVS
unfoldable pub marked : List ℕ → Bool
marked s = eqb (byte_at s 0) 0x4C && eqb (byte_at s 1) 0x56 && eqb (byte_at s 2) 0x53

-- the number in bytes 3 and 4
abbrev pub version : List ℕ → ℕ
version s = word_at s 3

-- the versions that are read
unfoldable pub supported : ℕ → Bool
supported v = eqb v 1

-- vertical lines: 01's m
abbrev pub columns : List ℕ → ℕ
columns s = byte_at s 5

-- horizontal lines: 01's n
abbrev pub rows : List ℕ → ℕ
rows s = byte_at s 6

-- how many lines an axis may have
unfoldable pub count_in : ℕ → Bool
count_in n = leb 2 n && leb n 65

-- byte 7, which has to be 0
abbrev pub reserved : List ℕ → ℕ
reserved s = byte_at s 7

-- ---- the lines of the mesh

-- where the vertical lines' x-positions start, and the horizontal lines' y-positions
abbrev pub x_lines_offset : ℕ
x_lines_offset = header_size

abbrev pub y_lines_offset : List ℕ → ℕ
y_lines_offset s = x_lines_offset + 2 * columns s

-- the position of line k of an axis whose positions start at an index
abbrev pub line_from : List ℕ → ℕ → ℕ → ℕ
line_from s start k = word_at s (start + 2 * k)

-- the x-position of vertical line i
abbrev pub line_x : List ℕ → ℕ → ℕ
line_x s i = line_from s x_lines_offset i

-- the y-position of horizontal line j
abbrev pub line_y : List ℕ → ℕ → ℕ
line_y s j = line_from s (y_lines_offset s) j

-- no line lies further
abbrev pub furthest : ℕ
furthest = 4096

-- nor further from the line before it
abbrev pub widest : ℕ
widest = 64

-- ---- the nodes

-- what is stored at a node: the height, in steps, and the slopes along x and y, in grains per pixel
pub record Node : Type 0 where
  pub stored_height : ℤ
  pub slope_x : ℤ
  pub slope_y : ℤ

-- the node with these numbers
abbrev pub node : ℤ → ℤ → ℤ → Node
node h p q = record { stored_height = h; slope_x = p; slope_y = q }

-- how many bytes a node has
abbrev pub node_size : ℕ
node_size = 6

-- a node's numbers from its bytes
unfoldable pub decoded : List ℕ → Node
decoded b = node (signed (word_at b 0)) (signed (word_at b 2)) (signed (word_at b 4))

-- the bytes of its slopes, which come behind the height, and how many bytes the height has
unfoldable pub slope_bytes : ℤ → ℤ → List ℕ
slope_bytes p q = bytes_of (bits_of p) ++ bytes_of (bits_of q)

abbrev pub height_size : ℕ
height_size = 2

-- a node's bytes from its numbers
unfoldable pub encoded : Node → List ℕ
encoded v = bytes_of (bits_of v.stored_height) ++ slope_bytes v.slope_x v.slope_y

-- the largest stored height and slope, without their sign
abbrev pub highest : ℕ
highest = 4095

abbrev pub steepest : ℕ
steepest = 4095

-- a stored height, a slope, a node in range
unfoldable pub height_in : ℤ → Bool
height_in z = leb (nat_abs z) highest

unfoldable pub slope_in : ℤ → Bool
slope_in z = leb (nat_abs z) steepest

unfoldable pub node_in : Node → Bool
node_in v = height_in v.stored_height && slope_in v.slope_x && slope_in v.slope_y

-- where the nodes start; they lie row by row
abbrev pub nodes_offset : List ℕ → ℕ
nodes_offset s = y_lines_offset s + 2 * rows s

-- where the node at column i and row j starts
abbrev pub node_offset : List ℕ → ℕ → ℕ → ℕ
node_offset s i j = nodes_offset s + node_size * (j * columns s + i)

-- its bytes
abbrev pub node_bytes : List ℕ → ℕ → ℕ → List ℕ
node_bytes s i j = take node_size (drop (node_offset s i j) s)

-- those of its height
abbrev pub height_bytes : List ℕ → ℕ → ℕ → List ℕ
height_bytes s i j = take height_size (drop (node_offset s i j) s)

-- its numbers
unfoldable pub node_at : List ℕ → ℕ → ℕ → Node
node_at s i j = decoded (node_bytes s i j)

-- how many bytes a sheet with its counts of lines has: 8 + 2m + 2n + 6mn
abbrev pub stated_size : List ℕ → ℕ
stated_size s = nodes_offset s + node_size * (columns s * rows s)

-- some node is out of range
unfoldable pub some_node_out : List ℕ → Bool
some_node_out s = some (λ j. some (λ i. not (node_in (node_at s i j))) (columns s)) (rows s)

-- ---- a node's numbers in the units of a reading

-- 01's grain is 1/64 of a step
abbrev pub grains_per_step : ℤ
grains_per_step = pos 64

-- the height at column i and row j, in grains
unfoldable pub height_at : List ℕ → ℕ → ℕ → ℤ
height_at s i j = grains_per_step *ℤ (node_at s i j).stored_height

-- the slopes there, in grains per pixel
unfoldable pub slope_x_at : List ℕ → ℕ → ℕ → ℤ
slope_x_at s i j = (node_at s i j).slope_x

unfoldable pub slope_y_at : List ℕ → ℕ → ℕ → ℤ
slope_y_at s i j = (node_at s i j).slope_y
