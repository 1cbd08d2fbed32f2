-- What is joined is what has a way: a cell joined in pass k has a way of at most k steps, and a way that passes no cell twice has fewer
-- steps than there are cells.
use mathlib.Core.Path.{◌≡◌, refl, sym, ◌∙◌, ap}
use mathlib.Core.Bool.{Bool, true, false, ◌&&◌}
use mathlib.Core.Logic.{inl, inr, ⊎_elim}
use mathlib.Core.List.{List}
use Prim.Native.Nat.{ℕ, zero, suc, ◌≤◌, ◌<◌}
use native.Mathlib.Omega.{arith}
use native.Mathlib.Decide.{dec_lt}
use lib.ListN.{length, get_or, get_or-eq_default}
use Rattle.grid.specs.declared.Grid.{Grid}
use Rattle.grid.specs.Below.{any_below, In}
use Rattle.grid.specs.Sheet.{size, neighbour}
use Rattle.grid.specs.Joined.{join_pass, join_passes, joined}
use Rattle.grid_laws.proofs.Tests.{true_false, and_true, and_left, and_right, or_left, or_right, or_cases}
use Rattle.grid_laws.proofs.Below.{at_table, length_table, any_of, some_of_any}
use Rattle.grid_laws.proofs.Few.{few}
use Rattle.join_laws.specs.Ways.{stop, step, cells, First, Beside, Joins}
use Rattle.join_laws.proofs.Ways.{some_cell, once}

-- a way through a set begins in it
pub way_member : (g : Grid) (member first : ℕ → Bool) {c : ℕ} → Joins g member first c → member c ≡ true
way_member g member first (stop o) = o.0
way_member g member first (step b w) = b.0

module _ (g : Grid) (member first : ℕ → Bool) (on : (c : ℕ) → member c ≡ true → c < size g) where
  length_passes : (k : ℕ) → length (join_passes g member first k) ≡ size g
  unfolding join_passes
  length_passes zero = length_table (size g) (λ c. member c && first c)
  length_passes (suc k) = length_table (size g) (join_pass g member first (join_passes g member first k))

  -- what is joined lies on the sheet
  joined_on : (k c : ℕ) → get_or (join_passes g member first k) c false ≡ true → c < size g
  joined_on k c t = go (dec_lt c (size g))
    where
      go : Dec (c < size g) → c < size g
      go (yes h) = h
      go (no f) = true_false t (get_or-eq_default (join_passes g member first k) false (let q = length_passes k in omega arith))

  pass_way : (k c : ℕ) → get_or (join_passes g member first k) c false ≡ true → Joins g member first c
  unfolding join_passes join_pass
  pass_way zero c t =
      let h = joined_on zero c t in
      let both = sym (at_table (size g) (λ x. member x && first x) c false h) ∙ t in
      stop (and_left (member c) (first c) both, and_right (member c) (first c) both)
  pass_way (suc k) c t =
      let h = joined_on (suc k) c t in
      let l : List Bool = join_passes g member first k in
      ⊎_elim (λ q. pass_way k c q)
      (λ q. let m = and_left (member c) (any_below 8 (λ p. get_or l (neighbour g c p) false)) q in
      let s = some_of_any 8 (λ p. get_or l (neighbour g c p) false)
      (and_right (member c) (any_below 8 (λ p. get_or l (neighbour g c p) false)) q) in
      let w = pass_way k (neighbour g c s.0) s.2 in
      step (m, way_member g member first w, (s.0, s.1, refl)) w)
      (or_cases (get_or l c false) (member c && any_below 8 (λ p. get_or l (neighbour g c p) false))
      (sym (at_table (size g) (join_pass g member first l) c false h) ∙ t))

  way_on : {c : ℕ} (w : Joins g member first c) (x : ℕ) → In x (cells w) → x < size g
  unfolding cells
  way_on (stop {c = c} o) x (inl q) = rw q (on c o.0)
  way_on (stop o) x (inr h) = absurd h
  way_on (step {c = c} b w) x (inl q) = rw q (on c b.0)
  way_on (step b w) x (inr h) = way_on w x h

  -- a way of k + 1 cells is found in k passes
  way_pass : (k : ℕ) {c : ℕ} (w : Joins g member first c) → length (cells w) ≤ suc k → get_or (join_passes g member first k) c false ≡ true
  unfolding join_passes join_pass cells
  way_pass zero (stop {c = c} o) h = at_table (size g) (λ x. member x && first x) c false (on c o.0) ∙ and_true o.0 o.1
  way_pass zero (step b w) h = absurd (some_cell w (omega arith))
  way_pass (suc k) (stop {c = c} o) h =
      at_table (size g) (join_pass g member first (join_passes g member first k)) c false (on c o.0)
      ∙ or_left (member c && any_below 8 (λ p. get_or (join_passes g member first k) (neighbour g c p) false))
      (way_pass k (stop o) (omega arith))
  way_pass (suc k) (step {c = c} {n = n} b w) h =
      let l : List Bool = join_passes g member first k in
      at_table (size g) (join_pass g member first l) c false (on c b.0)
      ∙ or_right (get_or l c false) (and_true b.0
      (any_of 8 (λ p. get_or l (neighbour g c p) false) b.2.0 b.2.1
      (ap (λ (x : ℕ). get_or l x false) b.2.2 ∙ way_pass k w (omega arith))))

  pub joined_way : (c : ℕ) → get_or (joined g member first) c false ≡ true → Joins g member first c
  unfolding joined
  joined_way c t = pass_way (size g) c t

  pub way_joined : {c : ℕ} → Joins g member first c → get_or (joined g member first) c false ≡ true
  unfolding joined
  way_joined w =
      let r = once (First member first) (Beside g member) w in
      let h : length (cells r.0) ≤ size g = few (size g) (cells r.0) r.1 (way_on r.0) in
      way_pass (size g) r.0 (omega arith)
