-- The four results of an input sheet, beside a no and after a yes; demand 3 is a law about them.
use mathlib.Core.Path.{◌≡◌, sym, ◌∙◌, ap, subst}
use mathlib.Core.Bool.{cond}
use mathlib.Core.List.{List, [], ◌∷◌}
use Prim.Native.Nat.{ℕ, ◌<◌}
use native.Mathlib.Omega.{arith}
use lib.Dec.{eqb}
use lib.ListN.{length}
use lib.IntN.{ℤ}
use borrow.Author.Tests.{eq-eqb, ne_eqb}
use Rattle.grid.specs.declared.Grid.{Grid}
use Rattle.grid.specs.declared.Answer.{Answer}
use Rattle.grid.specs.Sheet.{size, SixteenBits}
use Rattle.grid.specs.Outlet.{first_stranded}
use Rattle.grid.specs.Fill as F
use Rattle.grid.specs.Directions as D
use Rattle.grid.specs.Routes as R
use Rattle.grid.specs.Checks.{refusal, accepted, is_accepted, ask_reach}
use Rattle.grid.specs.Guarantee.{Guarantee}
use Rattle.grid.specs.Gaps.{GapsAside}
use Rattle.grid.specs.Promises.{FourResults}
use Rattle.grid_laws.proofs.Tests.{T_true, true_false, cond_true, cond_false}
use Rattle.checks.proofs.Gate.{kept}
use Rattle.checks.proofs.Asked.{FlowSized}
use Rattle.checks.proofs.Questions.{reach_no}
use Rattle.guarantee_laws.proofs.OneCall.{guaranteed}
use Rattle.guarantee_laws.proofs.Gaps.{filled_aside}
use Rattle.drainage.specs.Results.{Measured}

-- what questions 5 to 9 say of the buffers
pub measured : (g : Grid) (e f k a l w : ℕ) → FlowSized g (e ∷ []) (f ∷ k ∷ a ∷ l ∷ []) w → Measured g f k a l w
measured g e f k a l w s =
    let h = s.results_have in
    record {
      fits = s.fits;
      filled_has = h.0;
      codes_have = h.1.0;
      counts_have = h.1.1.0;
      labels_have = h.1.1.1.0;
      room = s.room;
      shaped = s.shaped;
    }

-- equal sheets have the same results
pub four_of : {g : Grid} {s input f₀ f₁ : List ℤ} {k₀ k₁ a₀ a₁ l₀ l₁ : List ℕ} {r : Answer} → s ≡ input →
    FourResults g s f₀ f₁ k₀ k₁ a₀ a₁ l₀ l₁ r → FourResults g input f₀ f₁ k₀ k₁ a₀ a₁ l₀ l₁ r
four_of {g} {f₀ = f₀} {f₁ = f₁} {k₀ = k₀} {k₁ = k₁} {a₀ = a₀} {a₁ = a₁} {l₀ = l₀} {l₁ = l₁} {r = r} q F =
    subst (λ (x : List ℤ). FourResults g x f₀ f₁ k₀ k₁ a₀ a₁ l₀ l₁ r) q F

module _ (g : Grid) (input f₀ f₁ : List ℤ) (k₀ a₀ l₀ : List ℕ) (r : Answer) where
  -- a no: every list as at entry
  pub four_of_no : (r.number ≡ 0 → ⊥) → f₁ ≡ f₀ → FourResults g input f₀ f₁ k₀ k₀ a₀ a₀ l₀ l₀ r
  four_of_no n q =
      record {
        filled = q ∙ kept n (F.filled g input);
        codes = kept n (D.directions g (F.filled g input));
        counts = kept n (R.counts g (D.directions g (F.filled g input)));
        labels = kept n (R.labels g (D.directions g (F.filled g input)));
        demand3 = λ t. true_false (T_true (is_accepted r) t) (ne_eqb r.number 0 n);
        gaps = λ t. true_false (T_true (is_accepted r) t) (ne_eqb r.number 0 n);
      }

  -- a yes: the four results, and demand 3 about them
  module _ (z : r.number ≡ 0) (cells : length input ≡ size g) (range : SixteenBits input) (reach : first_stranded g input ≡ size g)
      (k₁ a₁ l₁ : List ℕ) (fills : f₁ ≡ F.filled g input) (codes : k₁ ≡ D.directions g (F.filled g input))
      (counts : a₁ ≡ R.counts g k₁) (labels : l₁ ≡ R.labels g k₁) where
    demanded : Guarantee g input f₁ k₁ a₁ l₁
    demanded = rw (labels, counts) (rw codes (rw fills (guaranteed g input cells range reach)))

    aside : GapsAside g input f₁ k₁
    aside = rw codes (rw fills (filled_aside g input cells range))

    pub four_of_yes : FourResults g input f₀ f₁ k₀ k₁ a₀ a₁ l₀ l₁ r
    four_of_yes =
        let b = eq-eqb r.number 0 z in
        record {
          filled = fills ∙ sym (cond_true (F.filled g input) f₀ b);
          codes = codes ∙ sym (cond_true (D.directions g (F.filled g input)) k₀ b);
          counts = counts ∙ ap (R.counts g) codes ∙ sym (cond_true (R.counts g (D.directions g (F.filled g input))) a₀ b);
          labels = labels ∙ ap (R.labels g) codes ∙ sym (cond_true (R.labels g (D.directions g (F.filled g input))) l₀ b);
          demand3 = λ t. demanded;
          gaps = λ t. aside;
        }

-- ---- the answer to 18, with the four results: `first` is what the fill of the loaded sheet answers
module _ (g : Grid) (input f₀ f₁ : List ℤ) (k₀ a₀ l₀ : List ℕ) (first : ℕ) (place : first ≡ first_stranded g input)
    (written : f₁ ≡ cond (eqb first (size g)) (F.filled g input) f₀) where
  pub stranded_four : first < size g →
      (refusal 18 first ≡ ask_reach g input accepted) × FourResults g input f₀ f₁ k₀ k₀ a₀ a₀ l₀ l₀ (refusal 18 first)
  stranded_four h = (
    ap (refusal 18) place ∙ sym (reach_no g input accepted (let p = place in omega arith)),
    four_of_no g input f₀ f₁ k₀ a₀ l₀ (refusal 18 first) (λ q. omega arith)
        (written ∙ cond_false (F.filled g input) f₀ (ne_eqb first (size g) (λ q. let y : ⊥ = omega arith in absurd y))),
  )
