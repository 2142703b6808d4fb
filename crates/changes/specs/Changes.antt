-- The places of SWAPR and SWAPC. Assumes nothing.
use Rattle.std.specs.Prelude.{ℕ}
use Rattle.table.specs.declared.Two.{Two}

abbrev pub two : ℕ → ℕ → Two
two i j = record { i = i; j = j }
