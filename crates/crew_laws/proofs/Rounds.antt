-- Whose turn is next, and the total, after any list of operations.
use mathlib.Core.Path.{◌≡◌, refl, ◌∙◌, ap}
use mathlib.Core.Bool.{Bool, true, false, cond}
use mathlib.Core.List.{List, [], ◌∷◌}
use Prim.Native.Nat.{ℕ, zero, suc, min, ◌+◌, ◌%◌, ◌≤◌, ◌<◌}
use native.Mathlib.Omega.{arith}
use lib.ListN.{length, get_or, set}
use lib.Seq.{get_or-set_same}
use Rattle.grid.specs.declared.Grid.{Grid}
use Rattle.grid.specs.Checks.{is_accepted}
use Rattle.grid.specs.Crews.{next_crew, total_of, largest, is_on_way, counted, stepped, turn_of, turn, turns, handed_in, freed, hand_in_check}
use Rattle.grid.specs.Crews.{run_check}
use Rattle.grid.specs.Operations.{Operation, run, hand_in, collect, after, after_all, turns_in, turns_in_all, busy_turns, busy_in, busy_in_all}
use Rattle.grid.specs.Operations.{TurnsGoRound, TotalCounts}
use Rattle.crew_laws.proofs.Turns.{put_other, stepped_away, length_stepped, length_turns, next_turn}
use Rattle.crew_laws.proofs.Changes.{handed_in_lem, handed_at, handed_next, freed_at, freed_next}
use Rattle.crew_laws.proofs.Along.{length_after}

module _ (g : Grid) (codes : List ℕ) where
  next_turns : (n : ℕ) (s : List ℕ) → length s ≡ 66 → next_crew (turns g codes n s) ≡ (next_crew s + n) % 32
  unfolding turns
  next_turns zero s long = omega arith
  next_turns (suc n) s long =
      let e = next_turns n s long in
      next_turn g codes (turns g codes n s) (length_turns g codes n s ∙ long) ∙ ap (λ (x : ℕ). (x + 1) % 32) e ∙ omega arith

  -- the places past the crews' are left alone by a hand_in and a collection
  handed_past : (s : List ℕ) (k c i : ℕ) → k < 32 → 64 ≤ i → get_or (handed_in s k c) i 0 ≡ get_or s i 0
  handed_past s k c i h l = handed_at s k c i (λ e. omega arith) (λ e. omega arith)

  freed_past : (s : List ℕ) (k i : ℕ) → 64 ≤ i → get_or (freed s k) i 0 ≡ get_or s i 0
  freed_past s k i l = freed_at s k i (λ h e. omega arith)

  next_after : (s : List ℕ) → length s ≡ 66 → (x : Operation) → next_crew (after g codes s x) ≡ (next_crew s + turns_in g codes s x) % 32
  unfolding after turns_in
  next_after s long (run w n) = go (is_accepted (run_check g codes w s))
    where
      go : (t : Bool) → next_crew (cond t (turns g codes n s) s) ≡ (next_crew s + cond t n 0) % 32
      go true = next_turns n s long
      go false = omega arith
  next_after s long (hand_in w k c) = go (is_accepted (hand_in_check g codes w k c s)) refl ∙ omega arith
    where
      go : (t : Bool) → is_accepted (hand_in_check g codes w k c s) ≡ t → next_crew (cond t (handed_in s k c) s) ≡ next_crew s
      go true e = handed_next s k c (handed_in_lem g codes s w k c e).crew
      go false e = refl
  next_after s long (collect k) = freed_next s k ∙ omega arith

  next_all : (s : List ℕ) → length s ≡ 66 → (l : List Operation) →
      next_crew (after_all g codes s l) ≡ (next_crew s + turns_in_all g codes s l) % 32
  unfolding after_all turns_in_all
  next_all s long [] = omega arith
  next_all s long (x ∷ l) =
      let e = next_after s long x in
      next_all (after g codes s x) (length_after g codes s x ∙ long) l
      ∙ ap (λ (y : ℕ). (y + turns_in_all g codes (after g codes s x) l) % 32) e ∙ omega arith

  -- ---- the total

  total_turn : (s : List ℕ) → length s ≡ 66 → total_of s ≤ largest →
      total_of (turn g codes s) ≡ min (total_of s + cond (is_on_way s (next_crew s)) 1 0) largest
  unfolding turn turn_of counted
  total_turn s long h = put_other (turn_of g codes s (next_crew s)) 64 65 _ (λ e. omega arith) ∙ go (is_on_way s (next_crew s))
    where
      go : (t : Bool) → total_of (cond t (counted (stepped g codes s (next_crew s))) s) ≡ min (total_of s + cond t 1 0) largest
      go true =
          let n = length_stepped g codes s (next_crew s) in
          get_or-set_same (stepped g codes s (next_crew s)) 65 _ 0 (omega arith)
          ∙ ap (λ (x : ℕ). min (x + 1) largest) (stepped_away g codes s (next_crew s) 65 (λ e. omega arith) (λ e. omega arith))
      go false = omega arith

  min_small : (n : ℕ) → min n largest ≤ largest
  min_small n = omega arith

  total_turns : (n : ℕ) (s : List ℕ) → length s ≡ 66 → total_of s ≤ largest →
      total_of (turns g codes n s) ≡ min (total_of s + busy_turns g codes n s) largest
  unfolding turns busy_turns
  total_turns zero s long h = omega arith
  total_turns (suc n) s long h =
      let e = total_turns n s long h in
      let q = total_turn (turns g codes n s) (length_turns g codes n s ∙ long) (rw e (min_small _)) in
      q
      ∙ add (total_of s) (busy_turns g codes n s) (cond (is_on_way (turns g codes n s) (next_crew (turns g codes n s))) 1 0)
      (total_of (turns g codes n s)) e
    where
      add : (a b d t : ℕ) → t ≡ min (a + b) largest → min (t + d) largest ≡ min (a + (b + d)) largest
      add a b d t e = omega arith

  total_after : (s : List ℕ) → length s ≡ 66 → total_of s ≤ largest → (x : Operation) →
      total_of (after g codes s x) ≡ min (total_of s + busy_in g codes s x) largest
  unfolding after busy_in
  total_after s long h (run w n) = go (is_accepted (run_check g codes w s))
    where
      go : (t : Bool) → total_of (cond t (turns g codes n s) s) ≡ min (total_of s + cond t (busy_turns g codes n s) 0) largest
      go true = total_turns n s long h
      go false = omega arith
  total_after s long h (hand_in w k c) = go (is_accepted (hand_in_check g codes w k c s)) refl ∙ omega arith
    where
      go : (t : Bool) → is_accepted (hand_in_check g codes w k c s) ≡ t → total_of (cond t (handed_in s k c) s) ≡ total_of s
      go true e = handed_past s k c 65 (handed_in_lem g codes s w k c e).crew (omega arith)
      go false e = refl
  total_after s long h (collect k) = freed_past s k 65 (omega arith) ∙ omega arith

  total_all : (s : List ℕ) → length s ≡ 66 → total_of s ≤ largest → (l : List Operation) →
      total_of (after_all g codes s l) ≡ min (total_of s + busy_in_all g codes s l) largest
  unfolding after_all busy_in_all
  total_all s long h [] = omega arith
  total_all s long h (x ∷ l) =
      let e = total_after s long h x in
      total_all (after g codes s x) (length_after g codes s x ∙ long) (rw e (min_small _)) l ∙ omega arith

pub turns_go_round : TurnsGoRound
turns_go_round g codes s long l = next_all g codes s long l

pub total_counts : TotalCounts
total_counts g codes s long h l = total_all g codes s long h l
