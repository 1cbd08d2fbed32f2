-- What a hand-in and a collection change, and what an accepted hand-in says.
use mathlib.Core.Path.{◌≡◌, refl, ◌∙◌, ap}
use mathlib.Core.Bool.{Bool, true, false, not, cond, ◌&&◌}
use mathlib.Core.List.{List, [], ◌∷◌}
use Prim.Native.Nat.{ℕ, ◌+◌, ◌%◌, ◌≤◌, ◌<◌}
use native.Mathlib.Omega.{arith}
use lib.Dec.{ltb}
use lib.ListN.{length, get_or, set, length-set}
use borrow.Author.Tests.{eqb-true, ltb-true}
use Rattle.grid.specs.declared.Grid.{Grid}
use Rattle.grid.specs.Sheet.{size}
use Rattle.grid.specs.Routes.{has_code, first_endless}
use Rattle.grid.specs.Checks.{is_accepted, ask_sheets, ask_work, ask_codes}
use Rattle.grid.specs.Crews.{no_trace, waiting, status_of, stands_on, next_crew, is_finished, has_trace, ask_trace, hand_in_check, handed_in, freed}
use Rattle.grid_laws.proofs.Tests.{cond_false, and_left, and_false_left, and_false_right, not_is_true}
use Rattle.checks.proofs.Gate.{Gate, one, both, weaken, passed}
use Rattle.checks.proofs.Asked.{check_gate}
use Rattle.checks.proofs.Questions.{codes_gate}
use Rattle.crew_laws.proofs.Turns.{put_other}

-- ---- an accepted hand-in

pub record HandedIn (g : Grid) (codes s : List ℕ) (k c : ℕ) : Type 0 where
  pub few : length codes ≤ 4294967296
  pub long : length codes ≡ size g
  pub endless : first_endless g codes ≡ size g
  pub crew : k < 32
  pub free : has_trace s k ≡ false
  pub code : has_code codes c ≡ true

-- 21, 22 and 23
pub trace_gate : (codes s : List ℕ) (k c : ℕ) →
    Gate (ask_trace codes k c s) ((ltb k 32 ≡ true) × ((not (has_trace s k) ≡ true) × (has_code codes c ≡ true)))
unfolding ask_trace
trace_gate codes s k c =
    both (one (ltb k 32) 21 0 (omega arith))
    (both (one (not (has_trace s k)) 22 0 (omega arith)) (one (has_code codes c) 23 0 (omega arith)))

hand_in_gate : (g : Grid) (codes s : List ℕ) (work k c : ℕ) →
    Gate (λ later. ask_sheets g (length codes ∷ []) [] (ask_work g work (ask_codes g codes (ask_trace codes k c s later))))
    (HandedIn g codes s k c)
hand_in_gate g codes s work k c =
    weaken
    (λ f.
    let l = f.0.inputs_have.0 in
    let b = f.0.fits.cells in
    record {
      few = omega arith;
      long = l;
      endless = f.1.0.1;
      crew = ltb-true k 32 f.1.1.0;
      free = not_is_true (has_trace s k) f.1.1.1.0;
      code = f.1.1.1.1;
    })
    (both (check_gate g (length codes ∷ []) [] work) (both (codes_gate g codes) (trace_gate codes s k c)))

pub handed_in_lem : (g : Grid) (codes s : List ℕ) (work k c : ℕ) → is_accepted (hand_in_check g codes work k c s) ≡ true → HandedIn g codes s k c
unfolding hand_in_check
handed_in_lem g codes s work k c e =
    (passed (hand_in_gate g codes s work k c) refl (eqb-true (hand_in_check g codes work k c s).number 0 e)).fact

-- ---- what stands after a hand-in by crew j

module _ (s : List ℕ) (j c : ℕ) where
  pub length_handed : length (handed_in s j c) ≡ length s
  unfolding handed_in
  length_handed = length-set (set s (32 + j) c) j waiting ∙ length-set s (32 + j) c

  pub handed_at : (i : ℕ) → (i ≡ j → ⊥) → (i ≡ 32 + j → ⊥) → get_or (handed_in s j c) i 0 ≡ get_or s i 0
  unfolding handed_in
  handed_at i f h = put_other (set s (32 + j) c) j i waiting f ∙ put_other s (32 + j) i c h

  -- to another crew k
  module _ (k : ℕ) (small : k < 32) (on : j < 32) (f : k ≡ j → ⊥) where
    pub handed_status : status_of (handed_in s j c) k ≡ status_of s k
    handed_status = handed_at k f (λ e. omega arith)

    pub handed_cell : stands_on (handed_in s j c) k ≡ stands_on s k
    handed_cell =
        ap (λ (x : ℕ). x % 4294967296) (handed_at (32 + k) (λ e. omega arith) (λ e. f (let q : k ≡ j = omega arith in q)))

  pub handed_next : j < 32 → next_crew (handed_in s j c) ≡ next_crew s
  handed_next on = ap (λ (x : ℕ). x % 32) (handed_at 64 (λ e. omega arith) (λ e. omega arith))

-- ---- after a collection by crew j

module _ (s : List ℕ) (j : ℕ) where
  pub length_freed : length (freed s j) ≡ length s
  unfolding freed
  length_freed = go (ltb j 32 && is_finished s j)
    where
      go : (t : Bool) → length (cond t (set s j no_trace) s) ≡ length s
      go true = length-set s j no_trace
      go false = refl

  -- only the crew's own status changes, and only of a crew below 32
  pub freed_at : (i : ℕ) → (j < 32 → i ≡ j → ⊥) → get_or (freed s j) i 0 ≡ get_or s i 0
  unfolding freed
  freed_at i f = go (ltb j 32 && is_finished s j) refl
    where
      go : (t : Bool) → (ltb j 32 && is_finished s j) ≡ t → get_or (cond t (set s j no_trace) s) i 0 ≡ get_or s i 0
      go true e = put_other s j i no_trace (f (ltb-true j 32 (and_left (ltb j 32) (is_finished s j) e)))
      go false e = refl

  pub freed_off : ltb j 32 ≡ false → freed s j ≡ s
  unfolding freed
  freed_off e = cond_false _ _ (and_false_left (is_finished s j) e)

  -- a trace that is not finished is not freed
  pub freed_early : is_finished s j ≡ false → freed s j ≡ s
  unfolding freed
  freed_early e = cond_false _ _ (and_false_right (ltb j 32) e)

  pub freed_next : next_crew (freed s j) ≡ next_crew s
  freed_next = ap (λ (x : ℕ). x % 32) (freed_at 64 (λ h e. omega arith))

  pub freed_cell : (k : ℕ) → stands_on (freed s j) k ≡ stands_on s k
  freed_cell k = ap (λ (x : ℕ). x % 4294967296) (freed_at (32 + k) (λ h e. omega arith))

  -- to another crew k
  pub freed_status : (k : ℕ) → (k ≡ j → ⊥) → status_of (freed s j) k ≡ status_of s k
  freed_status k f = freed_at k (λ h e. f e)
