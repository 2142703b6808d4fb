-- The store check, as a test that code can compute: true exactly on well-formed stores (proofs/Check). Assumes nothing.
use Rattle.std.specs.Prelude.{Bool, ◌&&◌, ℕ, suc, ◌*◌, leb, length, get_or, take}
use Rattle.laws.specs.Plain.{pick}
use Rattle.laws.specs.Parts.{part}
use Rattle.laws.specs.Tests.{all_below, zero_from}
use Rattle.laws.specs.Words.{words_for}
use Rattle.table.specs.Step.{height_limit, width_limit, slot_limit}
use Rattle.sparse_vec.specs.Row.{row_test}
use Rattle.tail.specs.Tail.{pad_clear}
use Rattle.permutation.specs.Maps.{inverse_test}
use Rattle.arraymap.specs.Check.{index_test}
use Rattle.model.specs.Store.{Store, Head, edge, row}

-- the head's numbers keep the limits
unfoldable pub head_test : Head → Bool
head_test d = leb d.h height_limit && (leb d.made width_limit && (leb d.w d.made && (leb d.n d.w && leb d.slots slot_limit)))

-- the buffers are long enough (the maps' lengths are tested with the maps)
unfoldable pub length_test : Store → Bool
length_test s =
    leb (s.head.h * s.head.slots) (length s.slots.entries)
    && (leb s.head.h (length s.slots.counts)
    && (leb s.head.made (length s.index.marks)
    && (leb (suc s.head.made) (length s.index.starts) && leb (s.head.h * words_for s.head.n) (length s.words))))

unfoldable pub maps_test : Store → Bool
maps_test s =
    inverse_test s.head.h s.rows.homes s.rows.logicals && inverse_test s.head.made s.columns.homes s.columns.logicals

-- home row y: no longer than its slots, right in itself, zeros after it
unfoldable pub row_at : Store → ℕ → Bool
row_at s y =
    leb (get_or s.slots.counts y 0) s.head.slots
    && (row_test (take s.head.made s.columns.logicals) (edge s) 0 (row s y)
    && zero_from (part s.slots.entries (y * s.head.slots) s.head.slots) (get_or s.slots.counts y 0))

-- what the sizes do not span is zero
unfoldable pub unused_test : Store → Bool
unused_test s =
    zero_from s.slots.entries (s.head.h * s.head.slots)
    && (zero_from s.slots.counts s.head.h
    && (zero_from s.rows.homes s.head.h
    && (zero_from s.rows.logicals s.head.h
    && (zero_from s.columns.homes s.head.made
    && (zero_from s.columns.logicals s.head.made && zero_from s.words (s.head.h * words_for s.head.n))))))

unfoldable pub off_test : Store → Bool
off_test s = zero_from s.index.starts 0 && (zero_from s.index.entries 0 && zero_from s.index.marks 0)

unfoldable pub on_test : Store → Bool
on_test s = index_test (row s) s.head.h s.head.made s.index.starts s.index.entries s.columns.logicals s.index.marks (edge s)

unfoldable pub well_formed : Store → Bool
well_formed s =
    head_test s.head
    && (length_test s
    && (maps_test s
    && (unused_test s
    && (all_below s.head.h (row_at s)
    && (all_below s.head.h (pad_clear s.words s.head.n) && pick s.head.on (on_test s) (off_test s))))))
