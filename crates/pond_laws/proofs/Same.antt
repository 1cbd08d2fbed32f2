-- Being in one pond is an equivalence: a way is turned round step by step, and two ways are put together. So all cells of a pond have one
-- lowest cell, and it is the lowest of its own pond.
use mathlib.Core.Path.{◌≡◌, refl, sym, subst}
use mathlib.Core.Bool.{Bool, true, false}
use mathlib.Core.List.{List}
use Prim.Native.Nat.{ℕ, ◌≤◌, ◌<◌}
use native.Mathlib.Omega.{arith}
use lib.Dec.{eqb}
use lib.ListN.{length, get_or}
use lib.IntN.{ℤ}
use lib.Signed.{lt_z}
use borrow.Author.Tests.{eqb-true, eq-eqb, ne_eqb}
use Rattle.grid.specs.declared.Grid.{Grid}
use Rattle.grid.specs.Sheet.{size, at, is_data}
use Rattle.grid.specs.Joined.{joined}
use Rattle.grid.specs.Ponds.{is_wet, pond_of, lowest_cell, is_lowest}
use Rattle.grid_laws.proofs.Tests.{true_false, not_true_false, same_test, and_left}
use Rattle.grid_laws.proofs.Below.{first_none, first_found, first_least, first_ext}
use Rattle.grid_laws.proofs.Cells.{on_sheet}
use Rattle.grid_laws.proofs.Neighbours.{touch_back}
use Rattle.join_laws.specs.Ways.{stop, step, Joins}
use Rattle.join_laws.proofs.Joined.{way_member, joined_way, way_joined}

-- d is joined to c through the set
abbrev pub Together : Grid → (ℕ → Bool) → ℕ → ℕ → Type 0
Together g member c d = get_or (joined g member (eqb c)) d false ≡ true

module _ (g : Grid) (member : ℕ → Bool) (on : (c : ℕ) → member c ≡ true → c < size g) where
  way_on : (c d : ℕ) {x : ℕ} → Joins g member (eqb d) x → Joins g member (eqb c) d → Joins g member (eqb c) x
  way_on c d (stop {c = x} o) v = subst (Joins g member (eqb c)) (eqb-true d x o.1) v
  way_on c d (step b w) v = step b (way_on c d w v)

  way_back : (c : ℕ) {d : ℕ} → Joins g member (eqb c) d → Joins g member (eqb d) c
  way_back c (stop {c = d} o) =
      let q = eqb-true c d o.1 in stop (subst (λ (x : ℕ). member x ≡ true) (sym q) o.0, eq-eqb d c (sym q))
  way_back c (step {c = d} {n = n} b w) =
      let t = touch_back g d n (on d b.0) (on n b.1) b.2 in
      way_on d n (way_back c w) (step (b.1, b.0, t) (stop (b.0, eq-eqb d d refl)))

  pub together_self : (c : ℕ) → member c ≡ true → Together g member c c
  together_self c m = way_joined g member (eqb c) on (stop (m, eq-eqb c c refl))

  pub together_back : (c d : ℕ) → Together g member c d → Together g member d c
  together_back c d t = way_joined g member (eqb d) on (way_back c (joined_way g member (eqb c) on d t))

  pub together_on : (c d x : ℕ) → Together g member c d → Together g member d x → Together g member c x
  together_on c d x t u =
      way_joined g member (eqb c) on (way_on c d (joined_way g member (eqb d) on x u) (joined_way g member (eqb c) on d t))

  pub together_member : (c d : ℕ) → Together g member c d → member d ≡ true
  together_member c d t = way_member g member (eqb c) (joined_way g member (eqb c) on d t)

-- ---- the ponds of an input e and a filled sheet f
-- d is in the pond of c
abbrev pub InPond : Grid → List ℤ → List ℤ → ℕ → ℕ → Type 0
InPond g e f c d = get_or (pond_of g e f c) d false ≡ true

pub wet_data : (e f : List ℤ) (c : ℕ) → is_wet e f c ≡ true → is_data e c ≡ true
unfolding is_wet
wet_data e f c t = and_left (is_data e c) (lt_z (at e c) (at f c)) t

module _ (g : Grid) (e f : List ℤ) (long : length e ≡ size g) where
  pub wet_on : (c : ℕ) → is_wet e f c ≡ true → c < size g
  wet_on c t = on_sheet g e long c (wet_data e f c t)

  pub pond_self : (c : ℕ) → is_wet e f c ≡ true → InPond g e f c c
  unfolding pond_of
  pond_self c t = together_self g (is_wet e f) wet_on c t

  pub pond_back : (c d : ℕ) → InPond g e f c d → InPond g e f d c
  unfolding pond_of
  pond_back c d t = together_back g (is_wet e f) wet_on c d t

  pub pond_on : (c d x : ℕ) → InPond g e f c d → InPond g e f d x → InPond g e f c x
  unfolding pond_of
  pond_on c d x t u = together_on g (is_wet e f) wet_on c d x t u

  pub pond_wet : (c d : ℕ) → InPond g e f c d → is_wet e f d ≡ true
  unfolding pond_of
  pond_wet c d t = together_member g (is_wet e f) wet_on c d t

  -- ---- the lowest cell
  module _ (d : ℕ) (wet : is_wet e f d ≡ true) where
    pub lowest_≤ : lowest_cell g e f d ≤ d
    unfolding lowest_cell
    lowest_≤ = first_least (size g) (λ x. get_or (pond_of g e f d) x false) d (pond_self d wet)

    pub lowest_on : lowest_cell g e f d < size g
    lowest_on = omega (arith, lowest_≤, wet_on d wet)

    pub lowest_in : InPond g e f d (lowest_cell g e f d)
    unfolding lowest_cell
    lowest_in = first_found (size g) (λ x. get_or (pond_of g e f d) x false) lowest_on

  pub lowest_same : (c d : ℕ) → InPond g e f c d → lowest_cell g e f c ≡ lowest_cell g e f d
  unfolding lowest_cell
  lowest_same c d t =
      first_ext (size g) (λ x. get_or (pond_of g e f c) x false) (λ x. get_or (pond_of g e f d) x false)
      (λ x h. same_test (get_or (pond_of g e f c) x false) (get_or (pond_of g e f d) x false) (λ u. pond_on d c x (pond_back c d t) u)
      (λ u. pond_on c d x t u))

  pub lowest_is : (d : ℕ) → is_wet e f d ≡ true → is_lowest g e f (lowest_cell g e f d) ≡ true
  unfolding is_lowest
  lowest_is d wet =
      eq-eqb (lowest_cell g e f (lowest_cell g e f d)) (lowest_cell g e f d) (sym (lowest_same d (lowest_cell g e f d) (lowest_in d wet)))

  -- a cell that is not wet is in no pond
  pub lowest_none : (c : ℕ) → is_wet e f c ≡ false → lowest_cell g e f c ≡ size g
  unfolding lowest_cell
  lowest_none c dry =
      first_none (size g) (λ x. get_or (pond_of g e f c) x false)
      (λ x h. not_true_false (get_or (pond_of g e f c) x false) (λ t. true_false (pond_wet x c (pond_back c x t)) dry))

  pub dry_not_lowest : (c : ℕ) → c < size g → is_wet e f c ≡ false → is_lowest g e f c ≡ false
  unfolding is_lowest
  dry_not_lowest c h dry = let q = lowest_none c dry in ne_eqb (lowest_cell g e f c) c (λ s. omega arith)

  pub is_lowest_lem : (c : ℕ) → is_lowest g e f c ≡ true → lowest_cell g e f c ≡ c
  unfolding is_lowest
  is_lowest_lem c t = eqb-true (lowest_cell g e f c) c t
