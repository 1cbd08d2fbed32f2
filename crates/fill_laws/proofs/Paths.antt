-- A path to an outlet, as a list, is a way, and a way is a path: what is said of the one holds of the other.
use mathlib.Core.Path.{◌≡◌, refl, ap, subst}
use mathlib.Core.List.{List, [], ◌∷◌}
use Prim.Native.Nat.{ℕ}
use lib.IntN.{ℤ}
use Rattle.grid.specs.declared.Grid.{Grid}
use Rattle.grid.specs.Below.{head_of, last_of}
use Rattle.grid.specs.Sheet.{size, at, higher, DataCell, Chain, NeverRises, highest}
use Rattle.grid.specs.Outlet.{Outlet}
use Rattle.grid.specs.Guarantee.{PathToOutlet}
use Rattle.fill_laws.specs.Filling.{peak, Falls}
use Rattle.join_laws.specs.Ways.{Way, stop, step, cells}
use Rattle.fill_laws.specs.Certificate.{DataNeighbours}
use Rattle.fill_laws.proofs.Passes.{outlet_cell}

-- a way to an outlet of the sheet
abbrev pub WayOut : Grid → List ℤ → ℕ → Type 0
WayOut g e c = Way (Outlet g e) (DataNeighbours g e) c

module _ (g : Grid) (e : List ℤ) where
  -- ---- from lists
  chain_data : (c : ℕ) (l : List ℕ) → Chain g e (c ∷ l) → DataCell e c
  chain_data c [] h = h
  chain_data c (d ∷ l) h = h.0

  way_of_chain : (c : ℕ) (l : List ℕ) → Chain g e (c ∷ l) → Outlet g e (last_of l c) → (w : WayOut g e c) × (cells w ≡ c ∷ l)
  unfolding last_of cells
  way_of_chain c [] h o = (stop o, refl)
  way_of_chain c (d ∷ l) h o =
      let r = way_of_chain d l h.2 o in
      (step (h.0, chain_data d l h.2, h.1) r.0, ap (λ (m : List ℕ). c ∷ m) r.1)

  pub way_of_path : (c : ℕ) (l : List ℕ) → PathToOutlet g e c l → (w : WayOut g e c) × (cells w ≡ l)
  unfolding last_of
  way_of_path c [] p = absurd p.chain
  way_of_path c (d ∷ l) p = subst (λ (x : ℕ). (w : WayOut g e x) × (cells w ≡ d ∷ l)) p.starts (way_of_chain d l p.chain p.outlet)

  -- ---- to lists
  cells_first : {c : ℕ} (w : WayOut g e c) (d : ℕ) → head_of (cells w) d ≡ c
  unfolding cells
  cells_first (stop o) d = refl
  cells_first (step b w) d = refl

  cells_last : {c : ℕ} (w : WayOut g e c) (d : ℕ) → Outlet g e (last_of (cells w) d)
  unfolding cells last_of
  cells_last (stop o) d = o
  cells_last (step {c = c} b w) d = cells_last w c

  cells_chain : {c : ℕ} (w : WayOut g e c) → Chain g e (cells w)
  unfolding cells
  cells_chain (stop {c = c} o) = outlet_cell g e c o
  cells_chain (step b (stop {c = n} o)) = (b.0, b.2, outlet_cell g e n o)
  cells_chain (step b (step d w)) = (b.0, b.2, cells_chain (step d w))

  pub path_of_way : {c : ℕ} (w : WayOut g e c) → PathToOutlet g e c (cells w)
  path_of_way w = record { starts = cells_first w (size g); chain = cells_chain w; outlet = cells_last w (size g) }

  -- ---- the highest elevation, and that a sheet never rises
  pub highest_peak : {c : ℕ} (w : WayOut g e c) → highest e (cells w) ≡ peak (at e) w
  unfolding cells highest peak
  highest_peak (stop o) = refl
  highest_peak (step b (stop o)) = refl
  highest_peak (step {c = c} b (step d w)) = ap (higher (at e c)) (highest_peak (step d w))

  pub never_rises_falls : (f : List ℤ) {c : ℕ} (w : WayOut g e c) → NeverRises f (cells w) → Falls (at f) w
  unfolding cells Falls
  never_rises_falls f (stop o) h = tt
  never_rises_falls f (step b (stop o)) h = (h.0, tt)
  never_rises_falls f (step b (step d w)) h = (h.0, never_rises_falls f (step d w) h.1)

  pub falls_never_rises : (f : List ℤ) {c : ℕ} (w : WayOut g e c) → Falls (at f) w → NeverRises f (cells w)
  unfolding cells Falls
  falls_never_rises f (stop o) h = tt
  falls_never_rises f (step b (stop o)) h = (h.0, tt)
  falls_never_rises f (step b (step d w)) h = (h.0, falls_never_rises f (step d w) h.1)
