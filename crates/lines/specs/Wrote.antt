-- What a function that writes needs and leaves of the lent bytes. Assumes nothing.
use Rattle.std.specs.Prelude.{◌≡◌, List, ℕ, ◌+◌, ◌≤◌, length}
use Rattle.std.proofs.lemmas.List.Edits.{sets}
use Rattle.lines.specs.declared.Lines.{Lines}

-- the bytes t have room after the used ones
abbrev pub HasRoom : Lines → List ℕ → Type 0
HasRoom a t = a.used + length t ≤ length a.bytes.now

-- b is a with the bytes t written after the used ones, in the same lent slice
pub record Wrote (a b : Lines) (t : List ℕ) : Type 0 where
  pub used : b.used ≡ a.used + length t
  pub bytes : b.bytes.now ≡ sets a.bytes.now a.used t
  pub same : b.bytes.ghost_name ≡ a.bytes.ghost_name
