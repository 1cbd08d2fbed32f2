-- A chain through a set, as a list, is a way, and a way is a chain. So a void is outside exactly where a chain of voids leads from it to
-- one on an open side.
use mathlib.Core.Path.{◌≡◌, refl, subst}
use mathlib.Core.Bool.{Bool, true}
use mathlib.Core.List.{List, [], ◌∷◌}
use Prim.Native.Nat.{ℕ}
use lib.Dec.{T}
use Rattle.grid.specs.declared.Grid.{Grid}
use Rattle.grid.specs.Below.{head_of, last_of}
use Rattle.grid.specs.Sheet.{size}
use Rattle.grid.specs.Joined.{ChainIn, ChainTo}
use Rattle.grid.specs.Outlet.{is_void, on_open_side, outside, is_outside}
use Rattle.grid.specs.Gaps.{OutsideByChains}
use Rattle.grid_laws.proofs.Tests.{T_true, true_T}
use Rattle.grid_laws.proofs.Outlets.{void_on}
use Rattle.join_laws.specs.Ways.{stop, step, cells, Joins}
use Rattle.join_laws.proofs.Joined.{joined_way, way_joined}

module _ (g : Grid) (member first : ℕ → Bool) where
  -- ---- from lists
  chain_member : (c : ℕ) (l : List ℕ) → ChainIn g member first (c ∷ l) → member c ≡ true
  chain_member c [] h = T_true (member c) h
  chain_member c (d ∷ l) h = T_true (member c) h.0

  way_along : (c : ℕ) (l : List ℕ) → ChainIn g member first (c ∷ l) → T (first (last_of l c)) → Joins g member first c
  unfolding last_of
  way_along c [] h o = stop (T_true (member c) h, T_true (first c) o)
  way_along c (d ∷ l) h o = step (T_true (member c) h.0, chain_member d l h.2, h.1) (way_along d l h.2 o)

  pub way_of_chain : (c : ℕ) (l : List ℕ) → ChainTo g member first c l → Joins g member first c
  unfolding last_of
  way_of_chain c [] p = absurd p.chain
  way_of_chain c (d ∷ l) p = subst (λ (x : ℕ). Joins g member first x) p.starts (way_along d l p.chain p.ends)

  -- ---- to lists
  cells_first : {c : ℕ} (w : Joins g member first c) (d : ℕ) → head_of (cells w) d ≡ c
  unfolding cells
  cells_first (stop o) d = refl
  cells_first (step b w) d = refl

  cells_last : {c : ℕ} (w : Joins g member first c) (d : ℕ) → T (first (last_of (cells w) d))
  unfolding cells last_of
  cells_last (stop o) d = true_T o.1
  cells_last (step {c = c} b w) d = cells_last w c

  cells_chain : {c : ℕ} (w : Joins g member first c) → ChainIn g member first (cells w)
  unfolding cells
  cells_chain (stop o) = true_T o.0
  cells_chain (step b (stop o)) = (true_T b.0, b.2, true_T o.0)
  cells_chain (step b (step d w)) = (true_T b.0, b.2, cells_chain (step d w))

  pub chain_of_way : {c : ℕ} (w : Joins g member first c) → ChainTo g member first c (cells w)
  chain_of_way w = record { starts = cells_first w (size g); chain = cells_chain w; ends = cells_last w (size g) }

pub outside_by_chains : OutsideByChains
unfolding is_outside outside
outside_by_chains g e c = (
  λ t. let w = joined_way g (is_void g e) (on_open_side g) (void_on g e) c t in (cells w, chain_of_way g (is_void g e) (on_open_side g) w),
  λ l p. way_joined g (is_void g e) (on_open_side g) (void_on g e) (way_of_chain g (is_void g e) (on_open_side g) c l p),
)
