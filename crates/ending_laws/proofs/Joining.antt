-- Whole routes on an accepted sheet of codes: each cell is one of the sheet, and a neighbour of the one before, since a code points at it;
-- and they go on together from the first cell that both have.
use mathlib.Core.Path.{◌≡◌, refl, sym, ◌∙◌, ap}
use mathlib.Core.Bool.{true, false}
use mathlib.Core.List.{List}
use Prim.Native.Nat.{ℕ, zero, suc, ◌-◌, ◌<◌}
use native.Mathlib.Omega.{arith}
use lib.Dec.{eqb, ltb, leb}
use lib.ListN.{length, get_or}
use borrow.Author.Tests.{eq-eqb, lt-leb, ltb-true}
use Rattle.grid.specs.declared.Grid.{Grid}
use Rattle.grid.specs.Sheet.{size, neighbour}
use Rattle.grid.specs.Routes.{has_code, receiver, position_at, route}
use Rattle.grid.specs.Checks.{accepted}
use Rattle.grid.specs.Endings.{are_neighbours, is_stray, first_stray, ask_list, ending_check, RoutesJoin, AllRoutesJoin}
use Rattle.grid_laws.proofs.Tests.{cond_true, or_false, and_false_right, not_of_true}
use Rattle.grid_laws.proofs.Below.{any_of, first_none}
use Rattle.route_laws.proofs.Receivers.{code_on}
use Rattle.route_laws.proofs.Whole.{every_ends, whole}
use Rattle.checks.proofs.Asked.{size_passes}
use Rattle.ending_laws.proofs.Longest.{is_longest, turned}
use Rattle.ending_laws.proofs.Meeting.{join, cell_live, cell_next}
use Rattle.ending_laws.proofs.Accepted.{Sound, sound_of}

module _ (g : Grid) (codes : List ℕ) (ok : Sound g codes) where
  -- ---- no cell of a route is stray

  live_at : (a i : ℕ) → i < length (route g codes a) → has_code codes (get_or (route g codes a) i 0) ≡ true
  live_at a i h = cell_live (has_code codes) (receiver g codes) (size g) a i h

  within : (a i : ℕ) → i < length (route g codes a) → leb (size g) (get_or (route g codes a) i 0) ≡ false
  within a i h = lt-leb (size g) (get_or (route g codes a) i 0) (code_on g codes ok.long (get_or (route g codes a) i 0) (live_at a i h))

  -- the code of a cell points at the next
  next_touches : (a i : ℕ) → suc i < length (route g codes a) →
      are_neighbours g (get_or (route g codes a) i 0) (get_or (route g codes a) (suc i) 0) ≡ true
  unfolding are_neighbours receiver has_code
  next_touches a i h =
      let d = get_or (route g codes a) i 0 in
      any_of 8 (λ p. eqb (neighbour g d p) (get_or (route g codes a) (suc i) 0)) (position_at codes d)
      (ltb-true (position_at codes d) 8 (live_at a i (omega arith)))
      (eq-eqb _ _ (sym (cell_next (has_code codes) (receiver g codes) (size g) a i h)))

  none_stray : (a i : ℕ) → i < length (route g codes a) → is_stray g (route g codes a) i ≡ false
  unfolding is_stray
  none_stray a zero h = or_false (within a 0 h) refl
  none_stray a (suc i) h =
      let l = route g codes a in
      let q : suc i - 1 ≡ i = omega arith in
      or_false (within a (suc i) h)
      (and_false_right (ltb 0 (suc i))
      (not_of_true (ap (λ (j : ℕ). are_neighbours g (get_or l j 0) (get_or l (suc i) 0)) q ∙ next_touches a i h)))

  no_stray : (a : ℕ) → first_stray g (route g codes a) ≡ length (route g codes a)
  unfolding first_stray
  no_stray a = first_none (length (route g codes a)) (is_stray g (route g codes a)) (none_stray a)

  lists_pass : (a b : ℕ) → ending_check g (route g codes a) (route g codes b) ≡ accepted
  unfolding ending_check ask_list
  lists_pass a b =
      size_passes g ok.fits _ ∙ cond_true _ _ (eq-eqb _ _ (no_stray a)) ∙ cond_true _ _ (eq-eqb _ _ (no_stray b))

  -- ---- and they join

  routes_join : (a b : ℕ) → RoutesJoin g codes a b
  routes_join a b =
      let (k, e) = every_ends g codes ok.long ok.all_end a in
      let (j, f) = every_ends g codes ok.long ok.all_end b in
      let p = whole g codes ok.long a k e in
      let q = whole g codes ok.long b j f in
      record {
        accepts = lists_pass a b;
        on_first = rw (p, q) (join (has_code codes) (receiver g codes) k j a b e f _ (is_longest _ _));
        on_second = rw (p, q) (join (has_code codes) (receiver g codes) j k b a f e _ (turned (is_longest _ _)));
      }

pub all_routes_join : AllRoutesJoin
all_routes_join g codes t a b = routes_join g codes (sound_of g codes t) a b
