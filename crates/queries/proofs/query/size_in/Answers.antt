-- `queries::query::size_in` meets its contract. Assumes nothing.
use Rattle.queries.proofs.QueryNumbers.{size_is}
use Rattle.queries.proofs.query.size_in.Goals as goal

pub returns : goal.returns
returns c = size_is _
