-- From step to step, for an input sheet e of which no data cell is stranded: the filled sheet has every level, so its directions are
-- written; their codes are all of the eight or 0, and their routes end.
use mathlib.Core.Path.{◌≡◌, sym, ◌∙◌, ap, subst}
use mathlib.Core.Bool.{cond}
use mathlib.Core.List.{List}
use Prim.Native.Nat.{ℕ, ◌+◌, ◌-◌, ◌/◌, ◌≤◌}
use native.Mathlib.Omega.{arith}
use lib.Dec.{eqb}
use lib.ListN.{length, take, drop}
use lib.IntN.{ℤ}
use borrow.Author.Tests.{eq-eqb}
use Rattle.grid.specs.declared.Grid.{Grid}
use Rattle.grid.specs.Sheet.{size, SixteenBits}
use Rattle.grid.specs.Outlet.{first_stranded}
use Rattle.grid.specs.Fill.{filled}
use Rattle.grid.specs.Directions.{directions, first_unlevelled}
use Rattle.grid.specs.Routes.{first_endless}
use Rattle.grid_laws.proofs.Tests.{cond_true}
use Rattle.cells.specs.Marks.{Marked}
use Rattle.fill_laws.proofs.Filled.{filled_data}
use Rattle.fill.proofs.Voids.{marked_same}
use Rattle.route_laws.specs.Receivers.{AllCodes}
use Rattle.checks.proofs.Room.{half_room}
use Rattle.checks.proofs.Questions.{stranded_≤}
use Rattle.guarantee_laws.proofs.OneCall.{all_levelled, codes_length, all_codes, all_end}
use Rattle.drainage.specs.Results.{Measured, Routable}

-- the filled sheet has the input's voids, so their marks serve for it
pub filled_marked : (g : Grid) (e f₀ f₁ : List ℤ) (work : List ℕ) (s l m : ℕ) → length e ≡ size g → SixteenBits e → s ≡ first_stranded g e
    → size g ≤ s → f₁ ≡ cond (eqb s (size g)) (filled g e) f₀ → m ≡ l → Marked g e (l / 2 + size g) work →
    Marked g f₁ (m / 2 + size g) work
filled_marked g e f₀ f₁ work s l m cells range stranded none written same M =
    let all : s ≡ size g = (let most = stranded_≤ g e in omega arith) in
    let fills : f₁ ≡ filled g e = written ∙ cond_true (filled g e) f₀ (eq-eqb s (size g) all) in
    rw fills (rw same (marked_same g e (filled g e) (l / 2 + size g) work (λ c. sym (filled_data g e cells range c)) M))

module _ (g : Grid) (e f₀ f₁ : List ℤ) (k₀ k₁ : List ℕ) (f k a l w s r : ℕ) (M : Measured g f k a l w) (cells : length e ≡ size g)
    (range : SixteenBits e) (stranded : s ≡ first_stranded g e) (none : f ≤ s) (written : f₁ ≡ cond (eqb s (size g)) (filled g e) f₀)
    (first : r ≡ first_unlevelled g f₁) (flows : k₁ ≡ cond (eqb r (size g)) (directions g f₁) k₀) where
  all : s ≡ size g
  all = let most = stranded_≤ g e in let long = M.filled_has in omega arith

  pub reach : first_stranded g e ≡ size g
  reach = sym stranded ∙ all

  pub fills : f₁ ≡ filled g e
  fills = written ∙ cond_true (filled g e) f₀ (eq-eqb s (size g) all)

  pub codes_right : k₁ ≡ directions g (filled g e)
  codes_right =
      flows
      ∙ cond_true (directions g f₁) k₀
      (eq-eqb r (size g) (first ∙ ap (first_unlevelled g) fills ∙ all_levelled g e cells range reach))
      ∙ ap (directions g) fills

  pub routable : (t : List ℕ) → length t ≡ w → Routable g k₁ a l (length (take (length t - length t / 2) (drop (length t / 2) t)))
  routable t q =
      record {
        fits = M.fits;
        long = ap length codes_right ∙ codes_length g e cells range reach;
        all_codes = subst AllCodes (sym codes_right) (all_codes g e cells range reach);
        all_end = ap (first_endless g) codes_right ∙ all_end g e cells range reach;
        counts_have = M.counts_have;
        labels_have = M.labels_have;
        room = half_room (size g) t (let h = M.room in omega arith);
      }
