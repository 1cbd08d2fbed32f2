-- What a turn changes: the status and the cell of the crew whose turn it is, the next crew, the total.
use mathlib.Core.Path.{◌≡◌, refl, sym, ◌∙◌, ap}
use mathlib.Core.Bool.{Bool, true, false, cond}
use mathlib.Core.Logic.{⊎_elim}
use mathlib.Core.List.{List}
use Prim.Native.Nat.{ℕ, zero, suc, min, ◌+◌, ◌-◌, ◌%◌, ◌≤◌, ◌<◌}
use native.Mathlib.Omega.{arith}
use native.Mathlib.Decide.{dec_lt}
use lib.Dec.{eqb}
use lib.ListN.{length, get_or, set, length-set}
use lib.Seq.{get_or-set_same, get_or-set_other}
use borrow.Author.Tests.{eq-eqb, ne_eqb, eqb-true, eqb-false}
use Rattle.grid.specs.declared.Grid.{Grid}
use Rattle.grid.specs.Routes.{has_code, receiver}
use Rattle.grid.specs.Crews.{waiting, finished, status_of, stands_on, next_crew, total_of, largest, is_on_way, counted, stepped, turn_of, turn}
use Rattle.grid.specs.Crews.{turns}
use Rattle.grid_laws.proofs.Tests.{test, cond_true, cond_false}
use Rattle.route_laws.proofs.Receivers.{code_below}
use Rattle.crew_laws.specs.Going.{wait}

-- ---- turns go round

pub wait_less : (x k : ℕ) → x < 32 → k < 32 → (x ≡ k → ⊥) → wait ((x + 1) % 32) k + 1 ≡ wait x k
wait_less x k a b f = go (dec_lt x 31)
  where
    go : Dec (x < 31) → wait ((x + 1) % 32) k + 1 ≡ wait x k
    go (yes h) = let e : (x + 1) % 32 ≡ x + 1 = omega arith in rw e (omega arith)
    go (no h) = let e : (x + 1) % 32 ≡ 0 = omega arith in let q : x ≡ 31 = omega arith in rw e (rw q (omega arith))

pub wait_again : (k : ℕ) → k < 32 → wait ((k + 1) % 32) k ≡ 31
wait_again k h = go (dec_lt k 31)
  where
    go : Dec (k < 31) → wait ((k + 1) % 32) k ≡ 31
    go (yes l) = let e : (k + 1) % 32 ≡ k + 1 = omega arith in let q : k + 32 - (k + 1) ≡ 31 = omega arith in rw e (rw q)
    go (no l) = let q : k ≡ 31 = omega arith in rw q

pub wait_small : (x k : ℕ) → wait x k < 32
wait_small x k = omega arith

-- ---- what crew x's turn leaves alone

pub put_other : (s : List ℕ) (i j v : ℕ) → (j ≡ i → ⊥) → get_or (set s i v) j 0 ≡ get_or s j 0
put_other s i j v f = get_or-set_other s i j v 0 f

module _ (g : Grid) (codes s : List ℕ) (x : ℕ) where
  pub stepped_away : (j : ℕ) → (j ≡ x → ⊥) → (j ≡ 32 + x → ⊥) → get_or (stepped g codes s x) j 0 ≡ get_or s j 0
  unfolding stepped
  stepped_away j f h = go (has_code codes (receiver g codes (stands_on s x)))
    where
      go : (t : Bool) → get_or (cond t (set s (32 + x) (receiver g codes (stands_on s x))) (set s x finished)) j 0 ≡ get_or s j 0
      go true = put_other s (32 + x) j _ h
      go false = put_other s x j _ f

  turn_away : (j : ℕ) → (j ≡ x → ⊥) → (j ≡ 32 + x → ⊥) → (j ≡ 65 → ⊥) → get_or (turn_of g codes s x) j 0 ≡ get_or s j 0
  unfolding turn_of counted
  turn_away j f h l = go (is_on_way s x)
    where
      go : (t : Bool) →
          get_or (cond t (set (stepped g codes s x) 65 (min (total_of (stepped g codes s x) + 1) largest)) s) j 0 ≡ get_or s j 0
      go true = put_other (stepped g codes s x) 65 j _ l ∙ stepped_away j f h
      go false = refl

  pub length_stepped : length (stepped g codes s x) ≡ length s
  unfolding stepped
  length_stepped = go (has_code codes (receiver g codes (stands_on s x)))
    where
      go : (t : Bool) → length (cond t (set s (32 + x) (receiver g codes (stands_on s x))) (set s x finished)) ≡ length s
      go true = length-set s (32 + x) _
      go false = length-set s x finished

  length_turn_of : length (turn_of g codes s x) ≡ length s
  unfolding turn_of counted
  length_turn_of = go (is_on_way s x)
    where
      go : (t : Bool) → length (cond t (set (stepped g codes s x) 65 (min (total_of (stepped g codes s x) + 1) largest)) s) ≡ length s
      go true = length-set (stepped g codes s x) 65 _ ∙ length_stepped
      go false = refl

module _ (g : Grid) (codes : List ℕ) where
  pub length_turn : (s : List ℕ) → length (turn g codes s) ≡ length s
  unfolding turn
  length_turn s = length-set (turn_of g codes s (next_crew s)) 64 _ ∙ length_turn_of g codes s (next_crew s)

  pub length_turns : (n : ℕ) (s : List ℕ) → length (turns g codes n s) ≡ length s
  unfolding turns
  length_turns zero s = refl
  length_turns (suc n) s = length_turn (turns g codes n s) ∙ length_turns n s

  -- "Turns go round the crews by number"
  pub next_turn : (s : List ℕ) → length s ≡ 66 → next_crew (turn g codes s) ≡ (next_crew s + 1) % 32
  unfolding turn
  next_turn s long =
      let e = length_turn_of g codes s (next_crew s) in
      ap (λ (x : ℕ). x % 32) (get_or-set_same (turn_of g codes s (next_crew s)) 64 ((next_crew s + 1) % 32) 0 (omega arith)) ∙ omega arith

  -- the turn of another crew
  turn_at : (s : List ℕ) (j : ℕ) → (j ≡ next_crew s → ⊥) → (j ≡ 32 + next_crew s → ⊥) → j < 64 → get_or (turn g codes s) j 0 ≡ get_or s j 0
  unfolding turn
  turn_at s j f h l =
      put_other (turn_of g codes s (next_crew s)) 64 j _ (λ e. omega arith)
      ∙ turn_away g codes s (next_crew s) j f h (λ e. omega arith)

  module _ (s : List ℕ) (k : ℕ) (small : k < 32) (other : next_crew s ≡ k → ⊥) where
    pub other_status : status_of (turn g codes s) k ≡ status_of s k
    other_status = turn_at s k (λ e. other (sym e)) (λ e. omega arith) (omega arith)

    pub other_cell : stands_on (turn g codes s) k ≡ stands_on s k
    other_cell =
        ap (λ (x : ℕ). x % 4294967296)
        (turn_at s (32 + k) (λ e. omega arith) (λ e. other (let q : next_crew s ≡ k = omega arith in q)) (omega arith))

  -- the crew's own turn
  module _ (s : List ℕ) (k : ℕ) (own : next_crew s ≡ k) where
    own_turn : turn g codes s ≡ set (turn_of g codes s k) 64 ((k + 1) % 32)
    unfolding turn
    own_turn = rw own

    own_busy : status_of s k ≡ waiting → turn_of g codes s k ≡ counted (stepped g codes s k)
    unfolding turn_of is_on_way
    own_busy e = cond_true _ _ (eq-eqb (status_of s k) waiting e)

    -- at the crew's own two places
    pub own_at : (j : ℕ) → j < 64 → status_of s k ≡ waiting → get_or (turn g codes s) j 0 ≡ get_or (stepped g codes s k) j 0
    unfolding counted
    own_at j l e =
        ap (λ (t : List ℕ). get_or t j 0) own_turn
        ∙ put_other (turn_of g codes s k) 64 j _ (λ q. omega arith)
        ∙ ap (λ (t : List ℕ). get_or t j 0) (own_busy e)
        ∙ put_other (stepped g codes s k) 65 j _ (λ q. omega arith)

    own_idle : (status_of s k ≡ waiting → ⊥) → (j : ℕ) → j < 64 → get_or (turn g codes s) j 0 ≡ get_or s j 0
    unfolding turn_of is_on_way
    own_idle f j l =
        ap (λ (t : List ℕ). get_or t j 0) own_turn
        ∙ put_other (turn_of g codes s k) 64 j _ (λ q. omega arith)
        ∙ ap (λ (t : List ℕ). get_or t j 0) (cond_false _ _ (ne_eqb (status_of s k) waiting f))

    module _ (long : length s ≡ 66) (small : k < 32) (going : status_of s k ≡ waiting) where
      pub moves : has_code codes (receiver g codes (stands_on s k)) ≡ true → length codes ≤ 4294967296 →
          (status_of (turn g codes s) k ≡ waiting) × (stands_on (turn g codes s) k ≡ receiver g codes (stands_on s k))
      unfolding stepped
      moves t few =
          let q : stepped g codes s k ≡ set s (32 + k) (receiver g codes (stands_on s k)) = cond_true _ _ t in
          let r = code_below codes (receiver g codes (stands_on s k)) t in
          let v : get_or (turn g codes s) (32 + k) 0 ≡ receiver g codes (stands_on s k) =
          own_at (32 + k) (omega arith) going ∙ ap (λ (x : List ℕ). get_or x (32 + k) 0) q
          ∙ get_or-set_same s (32 + k) (receiver g codes (stands_on s k)) 0 (omega arith) in (
            own_at k (omega arith) going ∙ ap (λ (x : List ℕ). get_or x k 0) q ∙ put_other s (32 + k) k _ (λ e. omega arith) ∙ going,
            ap (λ (x : ℕ). x % 4294967296) v ∙ (let m : receiver g codes (stands_on s k) < 4294967296 = omega arith in omega arith),
          )

      pub arrives : has_code codes (receiver g codes (stands_on s k)) ≡ false →
          (status_of (turn g codes s) k ≡ finished) × (stands_on (turn g codes s) k ≡ stands_on s k)
      unfolding stepped
      arrives t =
          let q : stepped g codes s k ≡ set s k finished = cond_false _ _ t in (
            own_at k (omega arith) going ∙ ap (λ (x : List ℕ). get_or x k 0) q ∙ get_or-set_same s k finished 0 (omega arith),
            ap (λ (x : ℕ). x % 4294967296)
                (own_at (32 + k) (omega arith) going ∙ ap (λ (x : List ℕ). get_or x (32 + k) 0) q
                ∙ put_other s k (32 + k) finished (λ e. omega arith)),
          )

  -- a crew whose trace is not on its way: no turn does anything to it
  module _ (s : List ℕ) (k : ℕ) (small : k < 32) (f : status_of s k ≡ waiting → ⊥) where
    pub idle_status : status_of (turn g codes s) k ≡ status_of s k
    idle_status =
        ⊎_elim (λ e. own_idle s k (eqb-true (next_crew s) k e) f k (omega arith))
        (λ e. other_status s k small (eqb-false (next_crew s) k e)) (test (eqb (next_crew s) k))

    pub idle_cell : stands_on (turn g codes s) k ≡ stands_on s k
    idle_cell =
        ⊎_elim (λ e. ap (λ (x : ℕ). x % 4294967296) (own_idle s k (eqb-true (next_crew s) k e) f (32 + k) (omega arith)))
        (λ e. other_cell s k small (eqb-false (next_crew s) k e)) (test (eqb (next_crew s) k))
