-- RESIZE, first step: the rows 0 to k-1 are brought home, one exchange each. Assumes nothing.
use mathlib.Core.Path.{◌≡◌, refl, ◌∙◌}
use mathlib.Core.Bool.{false}
use Prim.Native.Nat.{ℕ, zero, suc, ◌≤◌, ◌<◌}
use native.Mathlib.Omega.{arith}
use lib.Dec.{eqb}
use borrow.Author.Tests.{eqb-true, eqb-false, eq-eqb, ne_eqb}
use Rattle.laws.proofs.Bools.{by-test}
use Rattle.laws.proofs.Numbers.{lt-or-le}
use mathlib.Core.Logic.{⊎_elim}
use Rattle.laws.proofs.Maps.{one-to-one}
use Rattle.model.specs.Store.{Store, home_row, table_of}
use Rattle.model.specs.WellFormed.{WellFormed}
use Rattle.model.specs.Change.{swap_homes, bring_home, brought_home}
use Rattle.model.proofs.Homes.{homes-ok, home_at, homes-mean, homes-room}
use Rattle.model.proofs.SameRoom.{SameRoom, same-room, room-then}

-- u is s with its rows below k at home: well-formed, the same table, the same head, columns, index and lengths
pub record AtHome (k : ℕ) (s u : Store) : Type 0 where
  pub ok : WellFormed u
  pub means : table_of u ≡ table_of s
  pub head : u.head ≡ s.head
  pub columns : u.columns ≡ s.columns
  pub index : u.index ≡ s.index
  pub room : SameRoom s u
  pub home : (r : ℕ) → r < k → home_row u r ≡ r

pub bring-home : (k : ℕ) (s u : Store) → k < s.head.h → s.head.on ≡ false → AtHome k s u → AtHome (suc k) s (bring_home u k)
bring-home k s u hk off a = by-test (eqb (home_row u k) k)
    (λ e. rw e (record {
      ok = a.ok;
      means = a.means;
      head = a.head;
      columns = a.columns;
      index = a.index;
      room = a.room;
      home = λ r hr. ⊎_elim (λ l. a.home r l) (λ l. let q : r ≡ k = omega arith in rw q (eqb-true (home_row u k) k e)) (lt-or-le r k);
    }))
    (λ n. rw n (swap n))
  where
    ku : k < u.head.h
    ku = rw a.head hk

    y-in : home_row u k < u.head.h
    y-in = a.ok.maps.rows.f-below k ku

    swap : eqb (home_row u k) k ≡ false → AtHome (suc k) s (swap_homes u (home_row u k) k)
    swap n =
        let ne : home_row u k ≡ k → ⊥ = eqb-false (home_row u k) k n in
        let o : u.head.on ≡ false = rw a.head off in
        -- a row below k is at home, so the home of row k lies above
        let above : k < home_row u k = ⊎_elim
        (λ (l : home_row u k < k). absurd (ne (one-to-one u.head.h u.rows.homes u.rows.logicals a.ok.maps.rows (home_row u k) k y-in ku (a.home (home_row u k) l))))
        (λ (l : k ≤ home_row u k). omega arith)
        (lt-or-le (home_row u k) k) in
        record {
          ok = homes-ok u a.ok o (home_row u k) k y-in ku ne;
          means = homes-mean u a.ok o (home_row u k) k y-in ku ne ∙ a.means;
          head = a.head;
          columns = a.columns;
          index = a.index;
          room = room-then s u (swap_homes u (home_row u k) k) a.room (homes-room u a.ok (home_row u k) k y-in ku ne);
          home = λ r hr. ⊎_elim
              (λ (l : r < k). home_at u a.ok o (home_row u k) k y-in ku ne r (omega (arith, ku))
              ∙ rw (a.home r l, ne_eqb r (home_row u k) (λ q. omega arith), ne_eqb r k (λ q. omega arith)))
              (λ (l : k ≤ r). let q : r ≡ k = omega arith in
              rw q (home_at u a.ok o (home_row u k) k y-in ku ne k ku ∙ rw (eq-eqb (home_row u k) (home_row u k) refl)))
              (lt-or-le r k);
        }

pub brought-home : (k : ℕ) (s : Store) → WellFormed s → s.head.on ≡ false → k ≤ s.head.h → AtHome k s (brought_home k s)
unfolding brought_home
brought-home zero s v off h = record { ok = v; means = refl; head = refl; columns = refl; index = refl; room = same-room s; home = λ r hr. absurd (omega arith) }
brought-home (suc k) s v off h = bring-home k s (brought_home k s) (omega arith) off (brought-home k s v off (omega arith))
