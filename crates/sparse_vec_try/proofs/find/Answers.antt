-- `sparse_vec_try::find` meets its contract. Assumes nothing.
use Rattle.sparse_vec_try.proofs.find.Goals as goal

pub key_to_internal_index-requires : goal.key_to_internal_index-requires
key_to_internal_index-requires c = (c.is_row.ensures c.if-is_row.true).rising

pub get-requires : goal.get-requires
get-requires c = (c.is_row.ensures c.if-is_row.true).rising
