-- Counts and labels from one list of receivers: the receivers stand at the front of the tail until the labels take their place.
-- t₀ is the tail at entry, t₁ after the receivers, t₂ after the counts.
use mathlib.Core.Path.{◌≡◌, sym, ◌∙◌, ap}
use mathlib.Core.Bool.{cond}
use mathlib.Core.List.{List, ◌++◌}
use Prim.Native.Nat.{ℕ, ◌≤◌, ◌<◌}
use native.Mathlib.Omega.{arith}
use lib.Dec.{eqb}
use lib.ListN.{length, take, drop, take-append-drop}
use borrow.Author.Tests.{eq-eqb}
use Rattle.grid.specs.declared.Grid.{Grid}
use Rattle.grid.specs.Sheet.{size}
use Rattle.grid.specs.Routes.{counts, labels, first_endless}
use Rattle.grid_laws.proofs.Tests.{cond_true}
use Rattle.route_laws.specs.Receivers.{receivers, Marks}
use Rattle.route_laws.proofs.Receivers.{receivers_front, front_marks}
use Rattle.count_laws.specs.Passing.{FewDonors}
use Rattle.accumulation.specs.Tail.{mark_at, Roomy}
use Rattle.counting.specs.Copied.{CountsOf}
use Rattle.counting.proofs.Sheet.{ready_to_count, sheet_counts}
use Rattle.labelling.specs.Labelled.{LabelsOf}
use Rattle.labelling.proofs.Sheet.{sheet_labels}
use Rattle.drainage.specs.Results.{Routable}

module _ (g : Grid) (codes : List ℕ) (a l : ℕ) (t₀ t₁ : List ℕ) (R : Routable g codes a l (length t₀)) (kept : length t₁ ≡ length t₀)
    (written : t₁ ≡ receivers g codes ++ drop (size g) t₀) where
  pub ready : Roomy (size g) t₁ × (Marks (size g) (take (size g) t₁) × FewDonors (size g) (mark_at t₁))
  ready =
      let room = R.room in
      let small = R.fits.cells in
      ready_to_count g codes (drop (size g) t₀) t₁ R.long written (omega arith) (omega arith)

  module _ (t₂ a₀ a₁ : List ℕ) (r : ℕ) (C : CountsOf (size g) t₁ t₂ a₀ a₁ r) where
    counted : (r ≡ first_endless g codes) × (a₁ ≡ cond (eqb r (size g)) (counts g codes) a₀)
    counted = sheet_counts g codes (drop (size g) t₀) t₁ R.long written t₂ a₀ a₁ r C

    ended : r ≡ size g
    ended = counted.0 ∙ R.all_end

    pub counts_right : a₁ ≡ counts g codes
    counts_right = counted.1 ∙ cond_true (counts g codes) a₀ (eq-eqb r (size g) ended)

    -- the counts leave the receivers as they are
    still : take (size g) t₂ ≡ receivers g codes
    still = C.same_marks ended ∙ receivers_front g codes (drop (size g) t₀) t₁ R.long written

    pub ready_to_label : length t₂ ≡ length t₁ → (size g < 16777216) × ((size g ≤ length t₂) × Marks (size g) (take (size g) t₂))
    ready_to_label q =
        let room = R.room in
        let small = R.fits.cells in
        (omega arith, (omega arith, front_marks g codes R.long t₂ still))

    module _ (l₀ l₁ : List ℕ) (s : ℕ) (L : LabelsOf (size g) t₂ l₀ l₁ s) where
      pub labels_right : l₁ ≡ labels g codes
      labels_right =
          let whole : t₂ ≡ receivers g codes ++ drop (size g) t₂ =
          sym (take-append-drop (size g) t₂) ∙ ap (λ (x : List ℕ). x ++ drop (size g) t₂) still in
          let w = sheet_labels g codes (drop (size g) t₂) t₂ R.long whole l₀ l₁ s L in
          w.1 ∙ cond_true (labels g codes) l₀ (eq-eqb s (size g) (w.0 ∙ R.all_end))
