-- `lent::stretch::exchange` meets its contract. Assumes nothing.
use mathlib.Core.Path.{◌≡◌, ap, ap₂, ◌∙◌}
use mathlib.Core.List.{List}
use Prim.Native.Nat.{ℕ, ◌+◌, ◌≤◌}
use native.Mathlib.Omega.{arith}
use lib.ListN.{length}
use Rattle.laws.specs.Parts.{part, put_at}
use Rattle.laws.proofs.Parts.{part_length}
use Rattle.lent.proofs.Moves.{put-swap}
use Rattle.lent.proofs.Numbers.{exchanged}
use Rattle.lent.proofs.stretch.exchange.Goals.{then-a-b, else-a-b}
use Rattle.lent.proofs.stretch.exchange.Goals as goal

pub returns : goal.returns
returns g c =
    let n = g.T.Number in
    let l : List ℕ = n.nums c.args.s.now in
    let a = c.args.a in
    let b = c.args.b in
    let k = c.args.n in
    let cut = c.split_at_mut-front.ensures in
    let x = c.swap_with_slice.ensures in
    let whole = λ (h : c.if-a-b.low.0 + k ≤ c.if-a-b.low.1) (r : c.if-a-b.low.1 + k ≤ length l).
    exchanged n.num n.nums n.nums_law c.args.s.now _ _ _ _ c.if-a-b.low.0 c.if-a-b.low.1 k h r cut.front cut.back x.after x.other_after in
    let named = λ (p q : ℕ). put_at (put_at l p (part l q k)) q (part l p k) in
    elim c.if-a-b.branch [
      | then-a-b w ↦
          let low : c.if-a-b.low.0 ≡ a = ap (λ p. p.0) w.low-is in
          let high : c.if-a-b.low.1 ≡ b = ap (λ p. p.1) w.low-is in
          whole (omega arith) (omega arith) ∙ ap₂ named low high
      | else-a-b w ↦
          let low : c.if-a-b.low.0 ≡ b = ap (λ p. p.0) w.low-is in
          let high : c.if-a-b.low.1 ≡ a = ap (λ p. p.1) w.low-is in
          let long-a : length (part l a k) ≡ k = part_length l a k (omega arith) in
          let long-b : length (part l b k) ≡ k = part_length l b k (omega arith) in
          whole (omega arith) (omega arith) ∙ ap₂ named low high ∙ put-swap l (part l a k) (part l b k) b a (omega arith) (omega arith)
    ]
