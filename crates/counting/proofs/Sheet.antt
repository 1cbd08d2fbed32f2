-- A tail that begins with the receivers of a sheet of codes: it can be counted, and its first endless cell and its counts are the sheet's.
use mathlib.Core.Path.{◌≡◌, sym, ◌∙◌, ap, subst}
use mathlib.Core.Bool.{cond, not, ◌&&◌}
use mathlib.Core.List.{List, ◌++◌}
use Prim.Native.Nat.{ℕ, ◌+◌, ◌≤◌, ◌<◌}
use lib.Dec.{eqb}
use lib.ListN.{length, get_or, take}
use lib.Seq.{get_or-take}
use Rattle.grid.specs.declared.Grid.{Grid}
use Rattle.grid.specs.Below.{table, has}
use Rattle.grid.specs.Sheet.{size}
use Rattle.grid.specs.Routes.{follow, has_code, receiver, count_at, counts, first_endless}
use Rattle.grid_laws.proofs.Below.{table_ext, count_ext}
use Rattle.route_laws.specs.Receivers.{receiver_mark, receivers, next_in, live_in, live_of, next_of, Marks}
use Rattle.route_laws.specs.Walking.{live_at, next_at}
use Rattle.route_laws.proofs.Receivers.{at_receivers, same_route, receivers_front, front_marks, front_first}
use Rattle.count_laws.specs.Inflow.{route_count}
use Rattle.count_laws.specs.Passing.{FewDonors}
use Rattle.count_laws.proofs.Sheet.{sheet_few}
use Rattle.accumulation.specs.Tail.{mark_at, Roomy}
use Rattle.counting.specs.Copied.{CountsOf}

module _ (g : Grid) (codes : List ℕ) (long : length codes ≡ size g) (t : List ℕ) (marks : take (size g) t ≡ receivers g codes) where
  tail_few : FewDonors (size g) (mark_at t)
  tail_few c l =
      subst (λ (x : ℕ). x ≤ 8)
      (count_ext (size g) (λ d. eqb (receiver_mark g codes d) c) (λ d. eqb (mark_at t d) c)
      (λ d h. ap (λ (x : ℕ). eqb x c)
      (sym (sym (get_or-take (size g) t d 0 h) ∙ ap (λ (x : List ℕ). get_or x d 0) marks ∙ at_receivers g codes long d 0 h))))
      (sheet_few g codes long c l)

  tail_counts : table (size g) (route_count (live_at (size g) t) (next_at (size g) t) (size g)) ≡ counts g codes
  unfolding counts count_at route_count
  tail_counts =
      ap (λ (x : List ℕ). table (size g) (route_count (live_in (size g) x) (next_in (size g) x) (size g))) marks
      ∙ table_ext (size g) (route_count (live_of g codes) (next_of g codes) (size g)) (count_at g codes)
      (λ c l.
      count_ext (size g) (λ d. not (eqb d c) && has c (follow (live_of g codes) (next_of g codes) (size g) d))
      (λ d. not (eqb d c) && has c (follow (has_code codes) (receiver g codes) (size g) d))
      (λ d h. ap (λ (x : List ℕ). not (eqb d c) && has c x) (same_route g codes long (size g) d)))

-- as the receivers are left
module _ (g : Grid) (codes rest t : List ℕ) (long : length codes ≡ size g) (e : t ≡ receivers g codes ++ rest) where
  front : take (size g) t ≡ receivers g codes
  front = receivers_front g codes rest t long e

  pub ready_to_count : size g < 16777216 → size g + size g ≤ length t →
      Roomy (size g) t × (Marks (size g) (take (size g) t) × FewDonors (size g) (mark_at t))
  ready_to_count small room =
      (record { long = room; small = small }, (front_marks g codes long t front, tail_few g codes long t front))

  pub sheet_counts : (t₁ counts₀ counts₁ : List ℕ) (r : ℕ) → CountsOf (size g) t t₁ counts₀ counts₁ r →
      (r ≡ first_endless g codes) × (counts₁ ≡ cond (eqb r (size g)) (counts g codes) counts₀)
  sheet_counts t₁ counts₀ counts₁ r C = (
    C.first ∙ front_first g codes long t front,
    C.result ∙ ap (λ (l : List ℕ). cond (eqb r (size g)) l counts₀) (tail_counts g codes long t front),
  )
