-- `sparse_vec::add::add_roomy` meets its contract. Assumes nothing.
use Rattle.sparse_vec.proofs.Forward.{moved-can, moved_row, follow-d, follow-s, merged-clear, merged-count, merged-row}
use mathlib.Core.Path.{refl}
use native.Mathlib.Omega.{arith}
use Rattle.sparse_vec.proofs.add.add_roomy.Goals as goal

pub bring-requires : goal.bring-requires
bring-requires c = let p = moved-can _ _ _ _ _ c.requires _ c.move_stretch.ensures in let e = c.merge_forward-m.ensures in let h = e.so_far in
    follow-d _ _ _ _ _ p _ _ _ _ e

pub bring-requires-2 : goal.bring-requires-2
bring-requires-2 c = let p = moved-can _ _ _ _ _ c.requires _ c.move_stretch.ensures in let e = c.merge_forward-m.ensures in let h = e.so_far in
    follow-s _ _ _ _ _ p _ _ _ _ e _ c.bring.ensures

pub overflow_add-n : goal.overflow_add-n
overflow_add-n c = let h = c.merge_forward-m.ensures.so_far in let g = c.type_inv.slots in omega (arith, h.n-le, h.i-le, h.j-le, c.requires.fit-d)

pub overflow_add-n-2 : goal.overflow_add-n-2
overflow_add-n-2 c = let h = c.merge_forward-m.ensures.so_far in let g = c.type_inv.slots in omega (arith, h.n-le, h.i-le, h.j-le, c.requires.fit-d)

pub clear-requires : goal.clear-requires
clear-requires c = let p = moved-can _ _ _ _ _ c.requires _ c.move_stretch.ensures in let e = c.merge_forward-m.ensures in let h = e.so_far in
    merged-clear _ _ _ _ _ p _ _ _ _ e _ c.bring.ensures _ c.bring-2.ensures _ refl

pub returns : goal.returns
returns c = let p = moved-can _ _ _ _ _ c.requires _ c.move_stretch.ensures in let e = c.merge_forward-m.ensures in let h = e.so_far in
    let u = c.bring.ensures in
    moved_row _ _ _ _ _ c.requires _ c.move_stretch.ensures _ _
    (merged-count _ _ _ _ _ p _ _ _ _ e _ u)
    (merged-row _ _ _ _ _ p _ _ _ _ e _ u _ c.bring-2.ensures _ _ refl c.clear.ensures)
