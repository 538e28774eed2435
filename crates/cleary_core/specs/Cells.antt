-- The cells that a region's words stand for.
use Rattle.std.specs.Prelude.{◌≡◌, ℕ, ◌+◌, ◌-◌, ◌*◌, ◌/◌, ◌%◌, ◌<◌, ◌≤◌, ◌^◌, ◌==◌, Bool, true, false, List}
use Rattle.packed_word.specs.Slice.{field}
use Rattle.cleary_core.specs.declared.cells.Cell.{Cell}
use Rattle.cleary_core.specs.declared.cells.CellMarks.{CellMarks}
use Rattle.cleary_core.specs.declared.cells.Sizes.{Sizes}

-- how many bits a cell has
abbrev pub width : Sizes → ℕ
width z = 3 + z.flags + z.quotient

-- sizes that a region may have
pub record IsRegion (z : Sizes) : Type 0 where
  pub some : (1 ≤ z.flags) × (1 ≤ z.quotient)
  pub few : z.flags + z.quotient ≤ 60
  pub cells : (64 ≤ z.cells) × (z.cells ≤ 4096)
  pub whole : z.cells % 64 ≡ 0

-- how many words a region has: just those that its cells fill
abbrev pub word_count : Sizes → ℕ
word_count z = z.cells / 64 * width z

-- a cell's number: three marks, then the flags, then the quotient
abbrev pub mark_of : Bool → ℕ
mark_of true = 1
mark_of false = 0

abbrev pub packed : Sizes → Cell → ℕ
packed z c = mark_of c.occupied + 2 *
    (mark_of c.virgin + 2 * (mark_of c.change + 2 * (c.quotient * 2 ^ z.flags + c.flags)))

abbrev pub unpacked : Sizes → ℕ → Cell
unpacked z w = record {
  occupied = w % 2 == 1;
  virgin = w / 2 % 2 == 1;
  change = w / 4 % 2 == 1;
  flags = w / 8 % 2 ^ z.flags;
  quotient = w / 8 / 2 ^ z.flags;
}

-- the marks of a cell, and of a number
abbrev pub cell_marks : Cell → CellMarks
cell_marks c = record { occupied = c.occupied; virgin = c.virgin; change = c.change }

abbrev pub marks_in : ℕ → CellMarks
marks_in w = record { occupied = w % 2 == 1; virgin = w / 2 % 2 == 1; change = w / 4 % 2 == 1 }

-- cell i of the words
unfoldable pub cell_at : Sizes → List ℕ → ℕ → Cell
cell_at z words i = unpacked z (field words (i * width z) (width z))

pub record Small (z : Sizes) (c : Cell) : Type 0 where
  pub flags : c.flags < 2 ^ z.flags
  pub quotient : c.quotient < 2 ^ z.quotient

-- a cell's key moved under another virgin bit
abbrev pub carried : Bool → Cell → Cell
carried v c = record c { virgin = v }

-- the sizes of a region of a table of 2^r roots in regions of 2^s cells
abbrev pub sizes_of : ℕ → ℕ → ℕ → ℕ → Sizes
sizes_of W F r s = record { cells = 2 ^ s; flags = F; quotient = 2 * W - r }
