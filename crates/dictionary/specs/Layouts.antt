-- How a table lays its entries: rows in strictly rising order, each with its longest length reserved, one behind another in the table's bytes.
use Rattle.std.specs.Prelude.{ℕ, ◌+◌, Bool, true, ◌&&◌, List, [], ◌∷◌, ◌++◌, length, take, drop, ◌==◌, slice_index_or}
use Rattle.wire.specs.Multiplexors.{before}
use Rattle.dictionary.specs.declared.access.Access.TheVariants.{ReadOnly}
use Rattle.dictionary.specs.declared.row.Row.{Row}
use Rattle.dictionary.specs.Entries.{Entry}
use Rattle.dictionary.specs.Plain.{plain, lawful_lengths}

-- what stands where there is no row
abbrev pub vacant : Row
vacant = record { multiplexor = record { index = 0; subindex = 0 }; attributes = record { access = ReadOnly; shortest = 0; longest = 0 }; start = 0; length = 0 }

-- the row at a place
abbrev pub row_at : List Row → ℕ → Row
row_at rows i = slice_index_or rows i vacant

-- the bytes of a row's value
abbrev pub held : List ℕ → Row → List ℕ
held bytes r = take r.length (drop r.start bytes)

-- the entry of a row
abbrev pub entry : List ℕ → Row → Entry
entry bytes r = plain r.multiplexor r.attributes (held bytes r)

-- the entries of some rows
abbrev pub entries : List ℕ → List Row → List Entry
entries bytes [] = []
entries bytes (r ∷ rs) = entry bytes r ∷ entries bytes rs

-- a row stands before the first of some rows
abbrev pub leads : Row → List Row → Bool
leads r [] = true
leads r (q ∷ qs) = before r.multiplexor q.multiplexor

-- a row is laid at a place
abbrev pub laid_at : ℕ → Row → Bool
laid_at start r = r.start == start && lawful_lengths r.attributes r.length

-- rows are laid in order from a place up to another
abbrev pub laid : ℕ → List Row → ℕ → Bool
laid start [] stop = start == stop
laid start (r ∷ rs) stop = laid_at start r && (leads r rs && laid (start + r.attributes.longest) rs stop)

-- some bytes with others written over them from a place on
abbrev pub overwritten : ℕ → List ℕ → List ℕ → List ℕ
overwritten at v bytes = take at bytes ++ (v ++ drop (at + length v) bytes)
