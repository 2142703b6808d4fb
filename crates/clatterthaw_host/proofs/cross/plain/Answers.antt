-- `clatterthaw_host::cross::plain` meets its contract. Assumes nothing.
use Rattle.clatterthaw_host.proofs.Crosses.{plain-is}
use Rattle.clatterthaw_host.proofs.cross.plain.Goals as goal

pub returns : goal.returns
returns c = plain-is _ _ c.from.ensures
