-- What is said of the receivers of a sheet of codes, said of the sheet: a buffer t₁ begins with them.
use mathlib.Core.Path.{◌≡◌, sym, ◌∙◌, ap}
use mathlib.Core.Bool.{cond}
use mathlib.Core.List.{List, ◌++◌}
use Prim.Native.Nat.{ℕ}
use lib.Dec.{eqb}
use lib.ListN.{length, take}
use Rattle.grid.specs.declared.Grid.{Grid}
use Rattle.grid.specs.Below.{table}
use Rattle.grid.specs.Sheet.{size}
use Rattle.grid.specs.Routes.{label_at, labels, first_endless}
use Rattle.grid_laws.proofs.Below.{table_ext}
use Rattle.route_laws.specs.Ends.{last_mark, first_unending}
use Rattle.route_laws.specs.Receivers.{receivers, next_in, live_in, Marks}
use Rattle.route_laws.specs.Walking.{live_at, next_at}
use Rattle.route_laws.proofs.Receivers.{label_is, receivers_front, front_marks, front_first}
use Rattle.labelling.specs.Labelled.{LabelsOf}

module _ (g : Grid) (codes rest t₁ : List ℕ) (long : length codes ≡ size g) (e : t₁ ≡ receivers g codes ++ rest) where
  front : take (size g) t₁ ≡ receivers g codes
  front = receivers_front g codes rest t₁ long e

  pub marks : Marks (size g) (take (size g) t₁)
  marks = front_marks g codes long t₁ front

  -- question 12's cell
  pub first_endless_lem : first_unending (live_at (size g) t₁) (next_at (size g) t₁) (size g) ≡ first_endless g codes
  first_endless_lem = front_first g codes long t₁ front

  -- the labels
  labels_are : table (size g) (last_mark (live_at (size g) t₁) (next_at (size g) t₁) (size g)) ≡ labels g codes
  unfolding labels
  labels_are =
      table_ext (size g) (last_mark (live_at (size g) t₁) (next_at (size g) t₁) (size g)) (label_at g codes)
      (λ c h. ap (λ (l : List ℕ). last_mark (live_in (size g) l) (next_in (size g) l) (size g) c) front ∙ sym (label_is g codes long c))

  pub sheet_labels : (labels₀ labels₁ : List ℕ) (r : ℕ) → LabelsOf (size g) t₁ labels₀ labels₁ r →
      (r ≡ first_endless g codes) × (labels₁ ≡ cond (eqb r (size g)) (labels g codes) labels₀)
  sheet_labels labels₀ labels₁ r L =
      (L.first ∙ first_endless_lem, L.result ∙ ap (λ (l : List ℕ). cond (eqb r (size g)) l labels₀) labels_are)
