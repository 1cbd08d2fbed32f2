-- The laws of the filled sheet, in the words of the definitions, for elevations of the sheet's size:
--   filled_length filled_range            its length and range
--   filled_voids filled_data              its voids and data cells,
--   filled_outlet                         and its outlets are the input's
--   input_≤_filled filled_at_outlet       it is nowhere below the input, and equal to it at outlets
--   one_pass_more                         rows * columns passes are enough
--   filled_≤_highest filled_least         no path to an outlet has a lower highest elevation, and no drained sheet (a rival sheet) is lower
--   drained_filled                        what drains is its own filled sheet
-- and where no data cell is stranded, so that there are paths (question 18):
--   some_path lowest_path                 minimax: it is the least highest elevation of the paths to an outlet
--   never_rising_path lower_neighbour     from each data cell a path never rises on it
--   filled_drained filled_again           it is a drained sheet, so filling again changes nothing
use mathlib.Core.Path.{◌≡◌, refl, sym, ◌∙◌, subst}
use mathlib.Core.Logic.{⊎_elim}
use mathlib.Core.Bool.{Bool, true, false}
use mathlib.Core.List.{List, [], ◌∷◌}
use Prim.Native.Nat.{ℕ, suc, ◌<◌}
use native.Mathlib.Omega.{arith}
use native.Mathlib.Decide.{dec_lt}
use lib.Dec.{T}
use lib.ListN.{length, get_or-eq_default}
use lib.Seq.{ext_get_or}
use lib.IntN.{ℤ}
use lib.Signed.{◌≤ℤ◌, ≤ℤ_refl}
use Rattle.grid.specs.declared.Grid.{Grid}
use Rattle.grid.specs.Below.{last_of}
use Rattle.grid.specs.Sheet.{size, void, top, at, is_data, DataCell, Chain, NeverRises, highest, SixteenBits}
use Rattle.grid.specs.Outlet.{is_outlet, Outlet, first_stranded}
use Rattle.grid.specs.Fill.{passes, filled}
use Rattle.grid.specs.Guarantee.{PathToOutlet, DrainedSheet}
use Rattle.grid_laws.proofs.Tests.{test, T_true, true_T, true_false, not_false_true}
use Rattle.grid_laws.proofs.Order.{≤ℤ-trans, ≤ℤ-antisym, ≤ℤ-of-eq}
use Rattle.grid_laws.proofs.Cells.{void_no_data, no_data_void}
use Rattle.grid_laws.proofs.Outlets.{same_outlets}
use Rattle.join_laws.specs.Ways.{stop, step, cells}
use Rattle.fill_laws.specs.Filling.{Falls, Filling}
use Rattle.fill_laws.specs.Certificate.{DataNeighbours}
use Rattle.fill_laws.proofs.Squeeze as Squeeze
use Rattle.fill_laws.proofs.Passes.{filling, length_passes, passes_void}
use Rattle.fill_laws.proofs.Reach.{some_way}
use Rattle.fill_laws.proofs.Paths.{WayOut, way_of_path, path_of_way, highest_peak, never_rises_falls, falls_never_rises}

-- ---- sheets with the same data cells have the same paths
module _ (g : Grid) (e f : List ℤ) (same : (c : ℕ) → is_data f c ≡ is_data e c) where
  same_chain : (l : List ℕ) → Chain g e l → Chain g f l
  same_chain [] h = absurd h
  same_chain (c ∷ []) h = subst T (sym (same c)) h
  same_chain (c ∷ d ∷ l) h = (subst T (sym (same c)) h.0, h.1, same_chain (d ∷ l) h.2)

  pub same_path : (c : ℕ) (l : List ℕ) → PathToOutlet g e c l → PathToOutlet g f c l
  same_path c l p =
      let o = subst T (sym (same_outlets g f e same (last_of l (size g)))) p.outlet in
      record { starts = p.starts; chain = same_chain l p.chain; outlet = o }

pub filled_length : (g : Grid) (e : List ℤ) → length (filled g e) ≡ size g
unfolding filled
filled_length g e = length_passes g e (size g)

module _ (g : Grid) (e : List ℤ) (cells-e : length e ≡ size g) (range : SixteenBits e) where
  fills : Filling (size g) (DataCell e) (Outlet g e) (DataNeighbours g e) (at e) (λ k c. at (passes g e k) c)
  fills = filling g e cells-e range

  -- ---- the filled sheet beside the input
  pub input_≤_filled : (c : ℕ) → DataCell e c → at e c ≤ℤ at (filled g e) c
  unfolding filled
  input_≤_filled c d = Squeeze.input_≤ fills (size g) c d

  pub filled_at_outlet : (c : ℕ) → Outlet g e c → at (filled g e) c ≡ at e c
  unfolding filled
  filled_at_outlet c o = Squeeze.at_outlet fills (size g) c o

  -- off the sheet too
  pub filled_voids : (c : ℕ) → is_data e c ≡ false → at (filled g e) c ≡ void
  unfolding filled
  filled_voids c n = go (dec_lt c (size g))
    where
      go : Dec (c < size g) → at (passes g e (size g)) c ≡ void
      go (yes h) = passes_void g e (size g) c h n
      go (no f) = get_or-eq_default (passes g e (size g)) void (omega (arith, length_passes g e (size g)))

  filled_≤_top : (c : ℕ) → DataCell e c → at (filled g e) c ≤ℤ top
  unfolding filled
  filled_≤_top c d = Squeeze.≤-top fills (size g) c d

  pub filled_range : SixteenBits (filled g e)
  filled_range c =
      ⊎_elim
      (λ t. (≤ℤ-trans (range c).0 (input_≤_filled c (true_T t)), filled_≤_top c (true_T t)))
      (λ n. rw (filled_voids c n) (≤ℤ_refl void, ≤ℤ-trans (range c).0 (range c).1))
      (test (is_data e c))

  pub filled_data : (c : ℕ) → is_data (filled g e) c ≡ is_data e c
  filled_data c = go (is_data e c) refl
    where
      go : (b : Bool) → is_data e c ≡ b → is_data (filled g e) c ≡ b
      go false n = void_no_data (filled g e) c (filled_voids c n)
      go true d =
          not_false_true (is_data (filled g e) c)
          (λ n. true_false d
          (void_no_data e c
          (≤ℤ-antisym (≤ℤ-trans (input_≤_filled c (true_T d)) (≤ℤ-of-eq (no_data_void (filled g e) c n))) (range c).0)))

  pub filled_outlet : (c : ℕ) → is_outlet g (filled g e) c ≡ is_outlet g e c
  filled_outlet c = same_outlets g (filled g e) e filled_data c

  -- ---- rows * columns passes are enough
  pub one_pass_more : passes g e (suc (size g)) ≡ passes g e (size g)
  one_pass_more =
      ext_get_or void (passes g e (suc (size g))) (passes g e (size g)) (length_passes g e (suc (size g)) ∙ sym (length_passes g e (size g)))
      (λ c h. let m : c < size g = omega (arith, length_passes g e (suc (size g))) in
      ⊎_elim
      (λ d. Squeeze.stable fills c (true_T d))
      (λ n. passes_void g e (suc (size g)) c m n ∙ sym (passes_void g e (size g) c m n))
      (test (is_data e c)))

  -- ---- minimax: no chain of data cells to an outlet has a lower highest elevation, and some chain has just this
  pub filled_≤_highest : (c : ℕ) (l : List ℕ) → PathToOutlet g e c l → at (filled g e) c ≤ℤ highest e l
  unfolding filled
  filled_≤_highest c l p =
      let w = way_of_path g e c l p in
      subst (λ (m : List ℕ). at (passes g e (size g)) c ≤ℤ highest e m) w.1 (rw (highest_peak g e w.0) (Squeeze.≤-peak fills w.0))

  -- ---- it is at most every other sheet that drains
  pub filled_least : (other : List ℤ) → DrainedSheet g e other → (c : ℕ) → DataCell e c → at (filled g e) c ≤ℤ at other c
  unfolding filled
  filled_least other D c d =
      let p = D.drains c d in
      let w = way_of_path g e c p.0 p.1 in
      let r = never_rises_falls g e other w.0 (subst (NeverRises other) (sym w.1) p.2) in
      Squeeze.≤-drained fills (at other) D.above w.0 r

-- ---- on a sheet that passes question 18
module _ (g : Grid) (e : List ℤ) (cells-e : length e ≡ size g) (range : SixteenBits e) (reach : first_stranded g e ≡ size g) where
  -- all that these laws use of what an outlet is
  way_out : (c : ℕ) → DataCell e c → WayOut g e c
  way_out c d = some_way g e cells-e reach c d

  pub some_path : (c : ℕ) → DataCell e c → (l : List ℕ) × PathToOutlet g e c l
  some_path c d = let w = way_out c d in (cells w, path_of_way g e w)

  pub lowest_path : (c : ℕ) → DataCell e c → (l : List ℕ) × PathToOutlet g e c l × (highest e l ≡ at (filled g e) c)
  unfolding filled
  lowest_path c d =
      let w = Squeeze.lowest_way (fills g e cells-e range) way_out c d in
      (cells w.0, path_of_way g e w.0, highest_peak g e w.0 ∙ w.1)

  -- ---- the filled sheet drains
  falling : (c : ℕ) → DataCell e c → (w : WayOut g e c) × Falls (at (filled g e)) w
  unfolding filled
  falling c d = Squeeze.falling_way (fills g e cells-e range) way_out c d

  pub never_rising_path : (c : ℕ) → DataCell e c → (l : List ℕ) × PathToOutlet g e c l × NeverRises (filled g e) l
  never_rising_path c d = let w = falling c d in (cells w.0, path_of_way g e w.0, falls_never_rises g e (filled g e) w.0 w.1)

  -- a data neighbour of c that is no higher on the filled sheet
  abbrev pub LowerNeighbour : ℕ → Type 0
  LowerNeighbour c = (n : ℕ) × DataNeighbours g e c n × (at (filled g e) n ≤ℤ at (filled g e) c)

  pub lower_neighbour : (c : ℕ) → DataCell e c → is_outlet g e c ≡ false → LowerNeighbour c
  unfolding Falls
  lower_neighbour c d f = go (falling c d) f
    where
      go : {x : ℕ} → (w : WayOut g e x) × Falls (at (filled g e)) w → is_outlet g e x ≡ false → LowerNeighbour x
      go (stop {c = x} o, h) f = true_false (T_true (is_outlet g e x) o) f
      go (step {n = n} b w, h) f = (n, b, h.0)

  pub filled_drained : DrainedSheet g e (filled g e)
  filled_drained =
      record {
        cells = filled_length g e;
        voids = λ c h. filled_data g e cells-e range c;
        outlets = λ c h. filled_outlet g e cells-e range c;
        above = input_≤_filled g e cells-e range;
        drains = never_rising_path;
      }

-- ---- what drains is its own filled sheet
pub drained_filled :
    (g : Grid) (f : List ℤ)
    → length f ≡ size g
    → SixteenBits f
    → ((c : ℕ) → DataCell f c → (l : List ℕ) × PathToOutlet g f c l × NeverRises f l)
    → filled g f ≡ f
drained_filled g f cells-f range drains =
    ext_get_or void (filled g f) f (filled_length g f ∙ sym cells-f)
    (λ c h. ⊎_elim
    (λ d. ≤ℤ-antisym (filled_least g f cells-f range f own c (true_T d)) (input_≤_filled g f cells-f range c (true_T d)))
    (λ n. filled_voids g f cells-f range c n ∙ sym (no_data_void f c n))
    (test (is_data f c)))
  where
    own : DrainedSheet g f f
    own = record { cells = cells-f; voids = λ c h. refl; outlets = λ c h. refl; above = λ c d. ≤ℤ_refl (at f c); drains = drains }

pub filled_again : (g : Grid) (e : List ℤ) → length e ≡ size g → SixteenBits e → first_stranded g e ≡ size g →
    filled g (filled g e) ≡ filled g e
filled_again g e cells-e range reach =
    drained_filled g (filled g e) (filled_length g e) (filled_range g e cells-e range)
    (λ c d. let p = never_rising_path g e cells-e range reach c (subst T (filled_data g e cells-e range c) d) in
    (p.0, same_path g e (filled g e) (filled_data g e cells-e range) c p.0 p.1, p.2))
