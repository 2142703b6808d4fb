-- The maps as the code has them: lists of numbers of a type, each of which stands for a plain number. Assumes nothing.
use mathlib.Core.Path.{◌≡◌, sym, ap, ap₂, ◌∙◌}
use mathlib.Core.List.{List, map}
use Prim.Native.Nat.{ℕ, ◌<◌}
use lib.ListN.{length, get_or, set}
use Rattle.std.specs.List.{swap}
use Rattle.std.proofs.lemmas.List.Edits.{swap_is}
use Rattle.lent.proofs.Numbers.{nums-at, nums-set}
use Rattle.permutation.specs.Maps.{swapped}

module _ {T : Type 0} (num : T → ℕ) (nums : List T → List ℕ) (law : (s : List T) → nums s ≡ map num s) where
  -- a number that is read
  pub read-is : (s : List T) (i : ℕ) (x : T) → x ≡ get_or s i x → i < length s → num x ≡ get_or (nums s) i 0
  read-is s i x e h = ap num e ∙ nums-at num nums law s i x h

  -- two that are exchanged
  pub swapped-is : (s t : List T) (p q : ℕ) (d : T) → p < length s → q < length s → t ≡ swap s p q → nums t ≡ swapped (nums s) p q
  unfolding swapped
  swapped-is s t p q d hp hq e =
      ap nums (e ∙ sym (swap_is s p q d hp hq)) ∙ nums-set num nums law (set s p (get_or s q d)) q (get_or s p d)
      ∙ ap₂ (λ (l : List ℕ) (v : ℕ). set l q v)
      (nums-set num nums law s p (get_or s q d) ∙ ap (λ v. set (nums s) p v) (nums-at num nums law s q d hq))
      (nums-at num nums law s p d hp)

  -- two that are written
  pub written-is : (s : List T) (p q : ℕ) (x y : T) → nums (set (set s p x) q y) ≡ set (set (nums s) p (num x)) q (num y)
  written-is s p q x y = nums-set num nums law (set s p x) q y ∙ ap (λ (l : List ℕ). set l q (num y)) (nums-set num nums law s p x)
