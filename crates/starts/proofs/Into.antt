-- The tail on its way: t₀ at entry, t₁ with the receivers in front, t₂ after the pass. From its answer to what is left.
use mathlib.Core.Path.{◌≡◌, refl, sym, ◌∙◌, ap}
use mathlib.Core.List.{List, ◌++◌}
use Prim.Native.Nat.{ℕ, ◌+◌, ◌≤◌, ◌<◌}
use native.Mathlib.Omega.{arith}
use lib.ListN.{length, take, drop}
use Rattle.grid.specs.declared.Grid.{Grid}
use Rattle.grid.specs.Below.{table, count_below}
use Rattle.grid.specs.Sheet.{size}
use Rattle.grid.specs.Routes.{first_endless}
use Rattle.grid.specs.Checks.{accepted}
use Rattle.route_laws.specs.Receivers.{receivers, Marks}
use Rattle.route_laws.proofs.Receivers.{receivers_front, front_first}
use Rattle.count_laws.specs.Passing.{FewDonors}
use Rattle.accumulation.specs.Tail.{mark_at, Roomy}
use Rattle.accumulation.specs.Tail as T
use Rattle.counting.proofs.Sheet.{ready_to_count}
use Rattle.checks.proofs.Questions.{endless_≤, cell_no, cell_yes}
use Rattle.starting.specs.Marked.{start_by, start_number}
use Rattle.starting.proofs.Starts.{count_is, starts_are}
use Rattle.starts.specs.Into.{Started}

module _ (g : Grid) (codes t₀ t₁ : List ℕ) (small : size g < 16777216) (long : length codes ≡ size g) (room : size g + size g ≤ length t₀)
    (same : length t₁ ≡ length t₀)
    (written : t₁ ≡ receivers g codes ++ drop (size g) t₀) where
  marks_are : take (size g) t₁ ≡ receivers g codes
  marks_are = receivers_front g codes (drop (size g) t₀) t₁ long written

  pub ready : Roomy (size g) t₁ × (Marks (size g) (take (size g) t₁) × FewDonors (size g) (mark_at t₁))
  ready = ready_to_count g codes (drop (size g) t₀) t₁ long written small (omega arith)

  module _ (t₂ : List ℕ) (first : ℕ) (C : T.Counted (size g) t₁ t₂ first) (counts : List ℕ) (threshold : ℕ) (starts₀ : List ℕ) where
    first_is : first ≡ first_endless g codes
    first_is = C.first ∙ front_first g codes long t₁ marks_are

    pub endless_started : first < size g →
        Started g codes counts threshold starts₀ starts₀ (record { number = 12; place = first; count = 0 })
    endless_started h =
        let e = first_is in
        record {
          answer =
              sym (cell_no 12 (first_endless g codes) g accepted (omega arith) ∙ ap (λ (p : ℕ). record { number = 12; place = p }) (sym e));
          count = refl;
          result = refl;
        }

    pub all_started : size g ≤ first → (starts₁ : List ℕ) (found : ℕ) →
        starts₁ ≡ table (size g) (start_number (size g) t₂ counts threshold) →
        found ≡ count_below (size g) (start_by (size g) t₂ counts threshold)
        → Started g codes counts threshold starts₀ starts₁ (record { number = 0; place = 0; count = found })
    all_started h starts₁ found e q =
        let i = first_is in
        let b = endless_≤ g codes in
        let z : first ≡ size g = omega arith in
        let m = C.same_marks z ∙ marks_are in
        record {
          answer = sym (cell_yes 12 (first_endless g codes) g accepted (sym i ∙ z));
          count = q ∙ count_is g codes counts threshold t₂ long m;
          result = e ∙ starts_are g codes counts threshold t₂ long m;
        }
