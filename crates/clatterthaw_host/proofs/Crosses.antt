-- A host's numbers and a head are the same, and each answer crosses as it is. Assumes nothing.
use mathlib.Core.Path.{◌≡◌, refl, ap}
use mir.Val.{bool_byte}
use Rattle.std.specs.Prelude.{Result, Ok, Err}
use Rattle.std.specs.Borrow.{Bor}
use Rattle.laws.proofs.Parts.{stretch-length}
use Rattle.store_head.specs.declared.refusal.Refusal.{Refusal}
use Rattle.store_head.specs.Told.{WordsAt}
use mathlib.Core.Bool.{Bool, true, false}
use mathlib.Core.List.{List}
use Prim.Native.Nat.{ℕ, ◌*◌, ◌^◌, ◌≤◌, ◌<◌}
use native.Mathlib.Omega.{arith}
use native.Mathlib.Nat.{mul-le-mul_right}
use lib.ListN.{length, get_or, get_or-eq_default}
use Rattle.laws.specs.Plain.{num}
use Rattle.laws.specs.Words.{words_for}
use Rattle.store_head.specs.declared.Numbers.{Numbers}
use Rattle.clatterthaw_host.specs.declared.PlainHead.{PlainHead}
use Rattle.clatterthaw_host.specs.Crossing.{numbers_of}
use Rattle.clatterthaw_host.specs.Told.{plain_numbers, FewWords}

-- ---- a head that crosses is the same head
switched : (d : Numbers) (b : Bool) → ◌≡◌ {A = Numbers} (numbers_of (record { h = d.h; w = d.w; n = d.n; slots = d.slots; made = d.made; on = num b })) (record { h = d.h; w = d.w; n = d.n; slots = d.slots; made = d.made; on = b })
switched d true = refl
switched d false = refl

pub there_and_back : (d : Numbers) → numbers_of (plain_numbers d) ≡ d
there_and_back d = switched d d.on

bit-num : (b : Bool) → bool_byte b ≡ num b
bit-num true = refl
bit-num false = refl

pub plain-is : (d : Numbers) (k : ℕ) → k ≡ bool_byte d.on → ◌≡◌ {A = PlainHead} (record { h = d.h; w = d.w; n = d.n; slots = d.slots; made = d.made; on = k }) (plain_numbers d)
plain-is d k e = rw (e, bit-num d.on)

-- a row's words are few
pub few : (words : List ℕ) (at n : ℕ) → n < 2 ^ 32 → (y : Result (Bor (List ℕ)) Refusal) → WordsAt words at (words_for n) y → FewWords y
few words at n h (Ok ws) e = omega (arith, ap length e, stretch-length words at (words_for n))
few words at n h (Err k) e = tt

-- ---- where a row's part of the words begins
pub start-past : (homes : List ℕ) (r n : ℕ) → length homes ≤ r → 0 ≡ get_or homes r 0 * words_for n
start-past homes r n h = rw (get_or-eq_default homes 0 {n = r} h) (omega arith)

pub start_of : (homes : List ℕ) (r n y k : ℕ) → y ≡ get_or homes r 0 → k ≡ words_for n → y * k ≡ get_or homes r 0 * words_for n
start_of homes r n y k e f = rw (e, f)

-- the product fits 64 bits
pub start_small : (y x n k : ℕ) → y ≡ x → x < 2 ^ 32 → n < 2 ^ 32 → k ≡ words_for n → y * k < 2 ^ 64
start_small y x n k ey hx hn ek =
    let low : k ≤ 67108864 = omega (arith, ek) in
    let less : y ≤ 4294967296 = omega (arith, ey, hx) in
    omega (arith, mul-le-mul_right k less)
