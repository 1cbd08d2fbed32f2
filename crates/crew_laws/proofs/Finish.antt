-- Every trace is finished in time, whatever else happens: `Begin` says how it begins, and `Along` carries that through any list of operations.
use mathlib.Core.Path.{◌≡◌, sym, ◌∙◌, subst}
use mathlib.Core.Logic.{inl, inr, ⊎_elim}
use mathlib.Core.List.{List, [], ◌∷◌, ◌++◌}
use Prim.Native.Nat.{ℕ, ◌+◌, ◌-◌, ◌*◌}
use native.Mathlib.Omega.{arith}
use lib.ListN.{length}
use borrow.Author.Tests.{eq-eqb}
use Rattle.grid.specs.declared.Grid.{Grid}
use Rattle.grid.specs.Below.{last_of}
use Rattle.grid.specs.Routes.{route}
use Rattle.grid.specs.Crews.{finished, status_of, is_finished, turns, handed_in}
use Rattle.grid.specs.Operations.{Operation, collect, after, after_all, turns_in_all, hands_in_all, FinishedFrom, IsCollected, JustHandedIn}
use Rattle.grid.specs.Operations.{FinishesInTime, FinishesAtTurn}
use Rattle.grid_laws.proofs.Tests.{cond_true}
use Rattle.crew_laws.specs.Going.{Arrived, Within}
use Rattle.crew_laws.proofs.Nearer.{nearer_by, longer, at_end}
use Rattle.crew_laws.proofs.Changes.{HandedIn, handed_in_lem}
use Rattle.crew_laws.proofs.Along.{length_all, along}
use Rattle.crew_laws.proofs.Begin.{begins}

made : (g : Grid) (codes t : List ℕ) (k c : ℕ) → Arrived g codes t k (last_of (route g codes c) c) → FinishedFrom g codes t k c
unfolding is_finished
made g codes t k c a = record { is_finished = eq-eqb (status_of t k) finished a.status; last = a.at }

-- right after the hand-in
just : (g : Grid) (codes : List ℕ) (k c : ℕ) (s : List ℕ) (j : JustHandedIn g codes k c s) →
    HandedIn g codes (after_all g codes j.beginning j.before) k c
    × Within g codes s k (last_of (route g codes c) c) (32 * length (route g codes c))
unfolding after
just g codes k c s j =
    let t = after_all g codes j.beginning j.before in
    let a = handed_in_lem g codes t j.work k c j.accepts in
    let q : s ≡ handed_in t k c = j.state ∙ cond_true _ _ j.accepts in
    let w = begins g codes t k c (length_all g codes j.beginning j.before ∙ j.long) a in
    (a, subst (λ (x : List ℕ). Within g codes x k (last_of (route g codes c) c) (32 * length (route g codes c))) (sym q) w)

-- it was finished when it was collected
gone : (g : Grid) (codes : List ℕ) (k c : ℕ) (s : List ℕ) (l : List Operation) →
    (p q : List Operation) × (p ++ collect k ∷ q ≡ l) × (hands_in_all g codes k s p ≡ [])
    × Arrived g codes (after_all g codes s p) k (last_of (route g codes c) c) →
    IsCollected g codes s k c l
gone g codes k c s l (p, q, e, n, a) =
    record { earlier = p; later = q; whole = e; stands = record { no_other = n; from = made g codes (after_all g codes s p) k c a } }

pub finishes_in_time : FinishesInTime
finishes_in_time g codes k c s j l h =
    let last = last_of (route g codes c) c in
    let n = 32 * length (route g codes c) in
    let b = just g codes k c s j in
    let t = after_all g codes s l in
    ⊎_elim
    (λ x. inl (record {
      no_other = x.0;
      from = made g codes t k c (at_end g codes k last t (longer g codes k last t (n - turns_in_all g codes s l) 0 (omega arith) x.1));
    }))
    (λ x. inr (gone g codes k c s l x)) (along g codes k last b.0.few b.0.crew l s n b.1)

pub finishes_at_turn : FinishesAtTurn
finishes_at_turn g codes k c s j l work a run h =
    let last = last_of (route g codes c) c in
    let n = 32 * length (route g codes c) in
    let b = just g codes k c s j in
    let t = after_all g codes s l in
    ⊎_elim
    (λ x. inl (
      x.0,
      made g codes (turns g codes a t) k c
          (at_end g codes k last (turns g codes a t)
          (nearer_by g codes b.0.few k last b.0.crew a 0 t
          (longer g codes k last t (n - turns_in_all g codes s l) (a + 0) (omega arith) x.1))),
    ))
    (λ x. inr (gone g codes k c s l x)) (along g codes k last b.0.few b.0.crew l s n b.1)
