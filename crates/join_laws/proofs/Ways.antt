-- A way that comes to a cell twice can leave out what lies between.
use mathlib.Core.Path.{sym, subst}
use mathlib.Core.Logic.{inl, inr, ⊎_elim}
use mathlib.Core.List.{List, [], ◌∷◌}
use Prim.Native.Nat.{ℕ, ◌≤◌}
use native.Mathlib.Omega.{arith}
use lib.ListN.{length}
use Rattle.grid.specs.Below.{In, Distinct}
use Rattle.grid_laws.proofs.Few.{in?}
use Rattle.join_laws.specs.Ways.{Way, stop, step, cells}

-- a way has a cell
pub some_cell : {Out : ℕ → Type 0} {Next : ℕ → ℕ → Type 0} {c : ℕ} (w : Way Out Next c) → length (cells w) ≤ 0 → ⊥
unfolding cells
some_cell (stop o) h = omega arith
some_cell (step b w) h = omega arith

module _ (Out : ℕ → Type 0) (Next : ℕ → ℕ → Type 0) where
  -- a way from x that comes to no cell twice, and to cells of l only
  Once : ℕ → List ℕ → Type 0
  Once x l = (w : Way Out Next x) × Distinct (cells w) × ((y : ℕ) → In y (cells w) → In y l)

  -- a way's rest, from a cell that it comes to
  rest : {c : ℕ} (w : Way Out Next c) (x : ℕ) → In x (cells w) → Distinct (cells w) → Once x (cells w)
  unfolding Once cells
  rest (stop {c = c} o) x (inl q) u = let l : List ℕ = c ∷ [] in subst (λ (z : ℕ). Once z l) (sym q) (stop o, u, λ y i. i)
  rest (stop o) x (inr h) u = absurd h
  rest (step {c = c} b w) x (inl q) u = let l : List ℕ = c ∷ cells w in subst (λ (z : ℕ). Once z l) (sym q) (step b w, u, λ y i. i)
  rest (step b w) x (inr h) u = let r = rest w x h u.1 in (r.0, r.1, λ y i. inr (r.2 y i))

  pub once : {c : ℕ} (w : Way Out Next c) → (v : Way Out Next c) × Distinct (cells v) × ((y : ℕ) → In y (cells v) → In y (cells w))
  unfolding Once cells
  once (stop o) = (stop o, (λ h. h, tt), λ y i. i)
  once (step {c = c} {n = n} b w) = go (once w)
    where
      go : Once n (cells w) → (v : Way Out Next c) × Distinct (cells v) × ((y : ℕ) → In y (cells v) → In y (cells (step b w)))
      go (v, u, s) =
          ⊎_elim (λ h. let r = rest v c h u in (r.0, r.1, λ y i. inr (s y (r.2 y i))))
          (λ f. (step b v, (f, u), λ y i. ⊎_elim inl (λ j. inr (s y j)) i))
          (in? c (cells v))
