-- Each turn brings a trace one turn nearer to its end: another crew's turn shortens the wait for its own, and its own leaves one cell less.
use mathlib.Core.Path.{◌≡◌, sym, ◌∙◌, ap, subst}
use mathlib.Core.Bool.{Bool, true, false}
use mathlib.Core.Logic.{◌⊎◌, inl, inr, ⊎_elim}
use mathlib.Core.List.{List}
use Prim.Native.Nat.{ℕ, zero, suc, ◌+◌, ◌*◌, ◌%◌, ◌≤◌, ◌<◌}
use native.Mathlib.Omega.{arith}
use lib.Dec.{eqb}
use lib.ListN.{length}
use borrow.Author.Tests.{eqb-true, eqb-false}
use Rattle.grid.specs.declared.Grid.{Grid}
use Rattle.grid.specs.Below.{last_of}
use Rattle.grid.specs.Routes.{follow, has_code, receiver}
use Rattle.grid.specs.Crews.{stands_on, next_crew, turn, turns}
use Rattle.grid_laws.proofs.Tests.{test, true_false}
use Rattle.route_laws.specs.Ends.{EndsIn}
use Rattle.crew_laws.specs.Going.{wait, OnItsWay, Arrived, Within}
use Rattle.crew_laws.proofs.Turns.{wait_less, wait_again, wait_small, moves, arrives, other_status, other_cell}
use Rattle.crew_laws.proofs.Turns.{idle_status, idle_cell, length_turn, next_turn}

module _ (live : ℕ → Bool) (next : ℕ → ℕ) where
  -- the last cell of a route, by its first step
  last_alone : (c d : ℕ) → live c ≡ true → last_of (follow live next 1 c) d ≡ c
  unfolding follow last_of
  last_alone c d e = rw e

  last_step : (k c d : ℕ) → live c ≡ true → live (next c) ≡ true →
      last_of (follow live next (suc (suc k)) c) d ≡ last_of (follow live next (suc k) (next c)) d
  unfolding follow last_of
  last_step k c d e q = rw (e, q)

module _ (g : Grid) (codes : List ℕ) (k last : ℕ) where
  -- more turns are enough too
  pub longer : (s : List ℕ) (m n : ℕ) → m ≤ n → Within g codes s k last m → Within g codes s k last n
  longer s m n h w = (w.0, ⊎_elim (λ o. inl (more o)) (λ a. inr a) w.1)
    where
      more : OnItsWay g codes s k last m → OnItsWay g codes s k last n
      more o =
          let t = o.in_time in
          record { status = o.status; left = o.left; ends = o.ends; last_is = o.last_is; in_time = omega arith }

  -- with no turn left it has arrived
  pub at_end : (s : List ℕ) → Within g codes s k last 0 → Arrived g codes s k last
  at_end s w = ⊎_elim (λ o. let t = o.in_time in let z : ⊥ = omega arith in absurd z) (λ a. a) w.1

module _ (g : Grid) (codes : List ℕ) (few : length codes ≤ 4294967296) (k last : ℕ) (small : k < 32) where
  abbrev live : ℕ → Bool
  live = has_code codes

  abbrev next : ℕ → ℕ
  next = receiver g codes

  -- the crew's own turn, of a trace on its way
  own : (s : List ℕ) (n : ℕ) → length s ≡ 66 → next_crew s ≡ k → OnItsWay g codes s k last (suc n) →
      OnItsWay g codes (turn g codes s) k last n ⊎ Arrived g codes (turn g codes s) k last
  own s n long mine w = go w.left w.ends w.last_is w.in_time (test (live (next (stands_on s k))))
    where
      go : (m : ℕ) → EndsIn live next (suc m) (stands_on s k) → last_of (follow live next (suc m) (stands_on s k)) last ≡ last →
          32 * m + wait (next_crew s) k < suc n → (live (next (stands_on s k)) ≡ true) ⊎ (live (next (stands_on s k)) ≡ false) →
          OnItsWay g codes (turn g codes s) k last n ⊎ Arrived g codes (turn g codes s) k last
      go zero e l t (inl a) = true_false a e.1
      go zero e l t (inr a) =
          let p = arrives g codes s k mine long small w.status a in
          inr (record { status = p.0; at = p.1 ∙ sym (last_alone live next (stands_on s k) last e.0) ∙ l })
      go (suc m) e l t (inr a) = true_false e.1.0 a
      go (suc m) e l t (inl a) =
          let p = moves g codes s k mine long small w.status a few in
          let u : next_crew (turn g codes s) ≡ (k + 1) % 32 = next_turn g codes s long ∙ ap (λ (x : ℕ). (x + 1) % 32) mine in
          let q = wait_again k small in
          let v = wait_small (next_crew s) k in
          inl (record {
            status = p.0;
            left = m;
            ends = subst (λ (c : ℕ). EndsIn live next (suc m) c) (sym p.1) e.1;
            last_is =
                ap (λ (c : ℕ). last_of (follow live next (suc m) c) last) p.1
                ∙ sym (last_step live next m (stands_on s k) last e.0 a) ∙ l;
            in_time = rw u (omega arith);
          })

  -- another crew's
  other : (s : List ℕ) (n : ℕ) → length s ≡ 66 → (next_crew s ≡ k → ⊥) → OnItsWay g codes s k last (suc n) →
      OnItsWay g codes (turn g codes s) k last n
  other s n long f w =
      let u = next_turn g codes s long in
      let c = other_cell g codes s k small f in
      let x : next_crew s < 32 = omega arith in
      let q = wait_less (next_crew s) k x small f in
      let t = w.in_time in
      record {
        status = other_status g codes s k small f ∙ w.status;
        left = w.left;
        ends = subst (λ (d : ℕ). EndsIn live next (suc w.left) d) (sym c) w.ends;
        last_is = ap (λ (d : ℕ). last_of (follow live next (suc w.left) d) last) c ∙ w.last_is;
        in_time = rw u (omega arith);
      }

  stays : (s : List ℕ) → Arrived g codes s k last → Arrived g codes (turn g codes s) k last
  stays s a =
      record {
        status = idle_status g codes s k small (λ q. let b = a.status in let z : ⊥ = omega arith in z) ∙ a.status;
        at = idle_cell g codes s k small (λ q. let b = a.status in let z : ⊥ = omega arith in z) ∙ a.at;
      }

  nearer : (s : List ℕ) (n : ℕ) → Within g codes s k last (suc n) → Within g codes (turn g codes s) k last n
  nearer s n w = (length_turn g codes s ∙ w.0, go w.1)
    where
      go : OnItsWay g codes s k last (suc n) ⊎ Arrived g codes s k last →
          OnItsWay g codes (turn g codes s) k last n ⊎ Arrived g codes (turn g codes s) k last
      go (inr a) = inr (stays s a)
      go (inl o) =
          ⊎_elim (λ e. own s n w.0 (eqb-true (next_crew s) k e) o) (λ e. inl (other s n w.0 (eqb-false (next_crew s) k e) o))
          (test (eqb (next_crew s) k))

  pub nearer_by : (m n : ℕ) (s : List ℕ) → Within g codes s k last (m + n) → Within g codes (turns g codes m s) k last n
  unfolding turns
  nearer_by zero n s w = longer g codes k last s (0 + n) n (omega arith) w
  nearer_by (suc m) n s w =
      nearer (turns g codes m s) n (nearer_by m (suc n) s (longer g codes k last s (suc m + n) (m + suc n) (omega arith) w))
