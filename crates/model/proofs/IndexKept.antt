-- An index stays right while rows lose ones, if each column that lost one is spent or no longer sparse. Assumes nothing.
use mathlib.Core.Path.{◌≡◌}
use mathlib.Core.Bool.{true}
use mathlib.Core.List.{List}
use Prim.Native.Nat.{ℕ, ◌≤◌, ◌<◌}
use lib.ListN.{get_or}
use Rattle.laws.specs.Rows.{member}
use Rattle.arraymap.specs.Check.{IndexOk}

-- column z is a sparse one that is marked exact
pub record Asked (logical marks : List ℕ) (edge z : ℕ) : Type 0 where
  pub sparse : get_or logical z 0 < edge
  pub exact : get_or marks z 0 ≡ 0

pub index-narrower : (rows rows' : ℕ → List ℕ) (h m : ℕ) (starts entries logical marks marks' : List ℕ) (edge edge' : ℕ)
    → IndexOk rows h m starts entries logical marks edge
    → ((y z : ℕ) → y < h → member z (rows' y) ≡ true → member z (rows y) ≡ true)
    → ((z : ℕ) → z < m → Asked logical marks' edge' z → Asked logical marks edge z)
    → ((y z : ℕ) → y < h → z < m → Asked logical marks' edge' z → member z (rows y) ≡ true → member z (rows' y) ≡ true)
    → ((z : ℕ) → z < m → get_or marks' z 0 ≤ 1) → ((i : ℕ) → m ≤ i → get_or marks' i 0 ≡ 0)
    → IndexOk rows' h m starts entries logical marks' edge'
index-narrower rows rows' h m starts entries logical marks marks' edge edge' ok less asked still mark rest =
    record {
      first = ok.first;
      up = ok.up;
      end = ok.end;
      rising = ok.rising;
      below = ok.below;
      all = λ y z hy k. ok.all y z hy (less y z hy k);
      only = λ z y hz s e k.
          let a : Asked logical marks' edge' z = record { sparse = s; exact = e } in
          let b = asked z hz a in
          still y z (ok.below z y hz k) hz a (ok.only z y hz b.sparse b.exact k);
      mark = mark;
      rest-starts = ok.rest-starts;
      rest-entries = ok.rest-entries;
      rest-marks = rest;
    }
