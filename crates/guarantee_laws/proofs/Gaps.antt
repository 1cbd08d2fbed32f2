-- Gaps: what has a code is a data cell, and the code leads to a data cell or out, so never to a gap; and what has no code is on no route.
use mathlib.Core.Path.{◌≡◌, refl, sym, ◌∙◌}
use mathlib.Core.Bool.{true, false}
use mathlib.Core.Logic.{◌⊎◌, inl, inr, ⊎_elim}
use mathlib.Core.List.{List}
use Prim.Native.Nat.{ℕ, zero, suc, ◌<◌}
use native.Mathlib.Omega.{arith}
use lib.ListN.{length, get_or}
use lib.IntN.{ℤ}
use Rattle.grid.specs.declared.Grid.{Grid}
use Rattle.grid.specs.Sheet.{size, is_data, neighbour, SixteenBits}
use Rattle.grid.specs.Outlet.{is_open, is_gap, leaves_at, is_outlet}
use Rattle.grid.specs.Fill.{filled}
use Rattle.grid.specs.Directions.{levels, directions}
use Rattle.grid.specs.Routes.{has_code, receiver, route}
use Rattle.grid.specs.Gaps.{GapsAside, NoCodeAtGap}
use Rattle.grid_laws.proofs.Tests.{test, true_false, not_true_false, not_false_true}
use Rattle.grid_laws.proofs.Cells.{no_data_void}
use Rattle.grid_laws.proofs.Few.{no_in_has}
use Rattle.grid_laws.proofs.Neighbours.{no_code}
use Rattle.grid_laws.proofs.Outlets.{void_on, void_no_data, gap_void, same_gaps, outlet_leaves, leaves_off, leaves_no_data}
use Rattle.grid_laws.proofs.Outlets.{leaves_no_gap}
use Rattle.fill_laws.proofs.Filled.{filled_length, filled_data}
use Rattle.flow_laws.specs.Levels.{Levels}
use Rattle.flow_laws.proofs.Agree.{levels_certified}
use Rattle.flow_laws.proofs.Leads.{no_data_no_code, outlet_leads_out, leads_down, unlevelled_no_code, code_of, void_code}
use Rattle.route_laws.proofs.Routes.{in_live}

-- of a sheet f with the voids of e
module _ (g : Grid) (e f : List ℤ) (same : (c : ℕ) → is_data f c ≡ is_data e c) (long : length f ≡ size g) where
  abbrev codes : List ℕ
  codes = directions g f

  certified : Levels g f (levels g f)
  certified = levels_certified g f long

  gap_no_data : (c : ℕ) → is_gap g e c ≡ true → is_data f c ≡ false
  gap_no_data c t = same c ∙ void_no_data g e c (gap_void g e c t)

  data_no_gap : (c : ℕ) → is_data f c ≡ true → is_gap g e c ≡ false
  data_no_gap c d = not_true_false (is_gap g e c) (λ t. true_false d (gap_no_data c t))

  code_zero : (c : ℕ) → is_gap g e c ≡ true → get_or codes c 0 ≡ 0
  code_zero c t =
      code_of g f long (levels g f) certified c (void_on g e c (gap_void g e c t)) ∙ void_code g f (levels g f) c (gap_no_data c t)

  points_beside : (c : ℕ) → has_code codes c ≡ true → is_gap g e (receiver g codes c) ≡ false
  points_beside c t = ⊎_elim out down (test (is_outlet g f c))
    where
      d : is_data f c ≡ true
      d = not_false_true (is_data f c) (λ n. true_false t (no_data_no_code g f long (levels g f) certified c n))

      out : is_outlet g f c ≡ true → is_gap g e (receiver g codes c) ≡ false
      out o =
          same_gaps g e f (λ x. sym (same x)) (receiver g codes c) ∙ (outlet_leads_out g f long (levels g f) certified c o).no_gap

      down : is_outlet g f c ≡ false → is_gap g e (receiver g codes c) ≡ false
      down o = go (get_or (levels g f) c 0) refl
        where
          go : (k : ℕ) → get_or (levels g f) c 0 ≡ k → is_gap g e (receiver g codes c) ≡ false
          go zero q = true_false t (unlevelled_no_code g f long (levels g f) certified c d q)
          go (suc k) q =
              data_no_gap (receiver g codes c) (leads_down g f long (levels g f) certified c d o (omega arith)).to_data

  -- a step that leads to a data cell, to a gap, or off the sheet at no open side
  abbrev Stays : ℕ → ℕ → Type 0
  Stays c p =
      (is_data e (neighbour g c p) ≡ true) ⊎ ((is_gap g e (neighbour g c p) ≡ true) ⊎ ((neighbour g c p ≡ size g) × (is_open g p ≡ false)))

  beside_gaps : (c : ℕ) → ((p : ℕ) → p < 8 → Stays c p) → is_outlet g f c ≡ false
  beside_gaps c h = not_true_false (is_outlet g f c) (λ o. let w = outlet_leaves g f c o in go w.0 w.2 (h w.0 w.1))
    where
      go : (p : ℕ) → leaves_at g f c p ≡ true → Stays c p → ⊥
      go p l (inl d) = true_false (same (neighbour g c p) ∙ d) (leaves_no_data g f long c p l)
      go p l (inr (inl t)) = true_false t (same_gaps g e f (λ x. sym (same x)) (neighbour g c p) ∙ leaves_no_gap g f c p l)
      go p l (inr (inr o)) = true_false l (leaves_off g f c p o.0 ∙ o.1)

  pub gaps_aside : GapsAside g e f codes
  gaps_aside =
      record {
        keeps_void = λ c t. no_data_void f c (gap_no_data c t);
        keeps_zero = code_zero;
        no_code = points_beside;
        no_water =
            λ c d t. no_in_has c (route g codes d)
            (λ i. true_false (in_live (has_code codes) (receiver g codes) (size g) d c i) (no_code codes c (code_zero c t)));
        no_outlet = beside_gaps;
      }

-- the filled sheet has the input's voids
pub filled_aside : (g : Grid) (e : List ℤ) → length e ≡ size g → SixteenBits e → GapsAside g e (filled g e) (directions g (filled g e))
filled_aside g e cells range = gaps_aside g e (filled g e) (filled_data g e cells range) (filled_length g e)

pub no_code_at_gap : NoCodeAtGap
no_code_at_gap g e cells range = (gaps_aside g e e (λ c. refl) cells, filled_aside g e cells range)
