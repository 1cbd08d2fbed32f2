-- No turn leads a trace to a cell without a code, whatever the length of the list, since nothing is known here of that of a lent array.
-- So a run asks 23 once, and may be cut at any turn.
use mathlib.Core.Path.{◌≡◌, refl, sym, ◌∙◌, ap}
use mathlib.Core.Bool.{Bool, true, false, not, cond, ◌&&◌}
use mathlib.Core.Logic.{◌⊎◌, inl, inr, ⊎_elim}
use mathlib.Core.List.{List, [], ◌∷◌}
use Prim.Native.Nat.{ℕ, zero, suc, ◌+◌, ◌%◌, ◌≤◌, ◌<◌}
use native.Mathlib.Omega.{arith}
use native.Mathlib.Decide.{dec_lt}
use lib.Dec.{eqb}
use lib.ListN.{length, get_or, set}
use lib.Seq.{get_or-set_same, set_out}
use borrow.Author.Tests.{eq-eqb, eqb-true, eqb-false}
use Rattle.grid.specs.declared.Grid.{Grid}
use Rattle.grid.specs.declared.Answer.{Answer}
use Rattle.grid.specs.Routes.{has_code, receiver}
use Rattle.grid.specs.Checks.{accepted, is_accepted, ask_sheets, ask_work, ask_codes}
use Rattle.grid.specs.Crews.{waiting, finished, status_of, stands_on, next_crew, is_on_way, stepped, turn, turns, first_lost, ask_lost, run_check}
use Rattle.grid.specs.Operations.{run, after, after_all, RunsSplit}
use Rattle.grid_laws.proofs.Tests.{test, cond_true, cond_false, and_false_left, and_false_right, and_rest_false, not_of_true, not_is_false}
use Rattle.grid_laws.proofs.Below.{first_none, first_all}
use Rattle.route_laws.proofs.Receivers.{code_below}
use Rattle.checks.proofs.Gate.{Gate, one, both, weaken, passed}
use Rattle.checks.proofs.Asked.{check_gate}
use Rattle.checks.proofs.Questions.{codes_gate}
use Rattle.crew_laws.specs.Standing.{Standing}
use Rattle.crew_laws.proofs.Turns.{put_other, own_at, other_status, other_cell, idle_status}

module _ (g : Grid) (codes : List ℕ) (few : length codes ≤ 4294967296) (s : List ℕ) (standing : Standing codes s) where
  -- a trace that moves stands on the cell that it moves to, or where it stood
  moved_cell : (k : ℕ) → has_code codes (receiver g codes (stands_on s k)) ≡ true → has_code codes (stands_on s k) ≡ true →
      has_code codes (get_or (set s (32 + k) (receiver g codes (stands_on s k))) (32 + k) 0 % 4294967296) ≡ true
  moved_cell k t u = go (dec_lt (32 + k) (length s))
    where
      go : Dec (32 + k < length s) →
          has_code codes (get_or (set s (32 + k) (receiver g codes (stands_on s k))) (32 + k) 0 % 4294967296) ≡ true
      go (yes h) =
          let b = code_below codes (receiver g codes (stands_on s k)) t in
          let q : receiver g codes (stands_on s k) % 4294967296 ≡ receiver g codes (stands_on s k) = omega arith in
          ap (λ (x : ℕ). has_code codes (x % 4294967296)) (get_or-set_same s (32 + k) (receiver g codes (stands_on s k)) 0 h)
          ∙ ap (has_code codes) q ∙ t
      go (no h) =
          ap (λ (x : List ℕ). has_code codes (get_or x (32 + k) 0 % 4294967296))
          (set_out s (32 + k) (receiver g codes (stands_on s k)) (let q : length s ≤ 32 + k = omega arith in q)) ∙ u

  own : (k : ℕ) → k < 32 → next_crew s ≡ k → status_of s k ≡ waiting → has_code codes (stands_on (turn g codes s) k) ≡ true
  unfolding stepped
  own k h e t =
      let u = standing k h t in
      let p = own_at g codes s k e (32 + k) (omega arith) t in
      ap (λ (x : ℕ). has_code codes (x % 4294967296)) p
      ∙ ⊎_elim
      (λ b. ap (λ (x : List ℕ). has_code codes (get_or x (32 + k) 0 % 4294967296)) (cond_true _ _ b) ∙ moved_cell k b u)
      (λ b. ap (λ (x : List ℕ). has_code codes (get_or x (32 + k) 0 % 4294967296)) (cond_false _ _ b)
      ∙ ap (λ (x : ℕ). has_code codes (x % 4294967296)) (put_other s k (32 + k) finished (λ q. omega arith)) ∙ u)
      (test (has_code codes (receiver g codes (stands_on s k))))

  pub still_standing : Standing codes (turn g codes s)
  still_standing k h t =
      ⊎_elim (λ e. mine (eqb-true (next_crew s) k e)) (λ e. away (eqb-false (next_crew s) k e)) (test (eqb (next_crew s) k))
    where
      away : (next_crew s ≡ k → ⊥) → has_code codes (stands_on (turn g codes s) k) ≡ true
      away f = ap (has_code codes) (other_cell g codes s k h f) ∙ standing k h (sym (other_status g codes s k h f) ∙ t)

      mine : next_crew s ≡ k → has_code codes (stands_on (turn g codes s) k) ≡ true
      mine e =
          ⊎_elim (λ q. own k h e (eqb-true (status_of s k) waiting q))
          (λ q.
          let f = eqb-false (status_of s k) waiting q in
          absurd (f (sym (idle_status g codes s k h f) ∙ t)))
          (test (eqb (status_of s k) waiting))

turns_standing : (g : Grid) (codes : List ℕ) → length codes ≤ 4294967296 → (n : ℕ) (s : List ℕ) → Standing codes s →
    Standing codes (turns g codes n s)
unfolding turns
turns_standing g codes few zero s standing = standing
turns_standing g codes few (suc n) s standing =
    still_standing g codes few (turns g codes n s) (turns_standing g codes few n s standing)

-- ---- 23 of a run, by where the traces stand

abbrev pub is_lost : List ℕ → List ℕ → ℕ → Bool
is_lost codes s k = is_on_way s k && not (has_code codes (stands_on s k))

pub none_lost : (codes s : List ℕ) → Standing codes s → first_lost codes s ≡ 32
unfolding first_lost is_on_way
none_lost codes s standing = first_none 32 (is_lost codes s) (λ k h. go k h (test (eqb (status_of s k) waiting)))
  where
    go : (k : ℕ) → k < 32 → (eqb (status_of s k) waiting ≡ true) ⊎ (eqb (status_of s k) waiting ≡ false) →
        (eqb (status_of s k) waiting && not (has_code codes (stands_on s k))) ≡ false
    go k h (inl e) = and_false_right (eqb (status_of s k) waiting) (not_of_true (standing k h (eqb-true (status_of s k) waiting e)))
    go k h (inr e) = and_false_left (not (has_code codes (stands_on s k))) e

pub standing_of : (codes s : List ℕ) → first_lost codes s ≡ 32 → Standing codes s
unfolding first_lost is_on_way
standing_of codes s none k h e =
    not_is_false (has_code codes (stands_on s k))
    (and_rest_false (is_on_way s k) (not (has_code codes (stands_on s k))) (eq-eqb (status_of s k) waiting e)
    (first_all 32 (is_lost codes s) none k h))

-- ---- a run cut in two

turns_split : (g : Grid) (codes s : List ℕ) (a b : ℕ) → turns g codes (a + b) s ≡ turns g codes b (turns g codes a s)
unfolding turns
turns_split g codes s a zero = ap (λ (n : ℕ). turns g codes n s) (let e : a + 0 ≡ a = omega arith in e)
turns_split g codes s a (suc b) =
    ap (λ (n : ℕ). turns g codes n s) (let e : a + suc b ≡ suc (a + b) = omega arith in e)
    ∙ ap (turn g codes) (turns_split g codes s a b)

module _ (g : Grid) (codes s : List ℕ) (work : ℕ) where
  -- what 23 is asked after
  abbrev before_23 : Answer → Answer
  before_23 later = ask_sheets g (length codes ∷ []) [] (ask_work g work (ask_codes g codes later))

  few_gate : Gate before_23 (length codes ≤ 4294967296)
  few_gate =
      weaken (λ f. let l = f.0.inputs_have.0 in let b = f.0.fits.cells in omega arith)
      (both (check_gate g (length codes ∷ []) [] work) (codes_gate g codes))

  -- after a yes the same is asked of the state that turns leave, and gets a yes
  still_accepted : (a : ℕ) → is_accepted (run_check g codes work s) ≡ true → is_accepted (run_check g codes work (turns g codes a s)) ≡ true
  unfolding run_check ask_lost
  still_accepted a e = go few_gate
    where
      number : (before_23 (ask_lost codes s accepted)).number ≡ 0
      number = eqb-true (before_23 (ask_lost codes s accepted)).number 0 e

      go : Gate before_23 (length codes ≤ 4294967296) → is_accepted (before_23 (ask_lost codes (turns g codes a s) accepted)) ≡ true
      go (inr f) =
          let l = f.above in
          let q : (before_23 (ask_lost codes s accepted)).number ≡ (before_23 accepted).number =
          ap (λ (x : Answer). x.number) (f.stands (ask_lost codes s accepted)) in
          let n = number in
          let z : ⊥ = omega arith in
          absurd z
      go (inl p) =
          let none = (passed (one (eqb (first_lost codes s) 32) 23 (first_lost codes s) (omega arith)) refl
          (ap (λ (x : Answer). x.number) (sym (p.then (ask_lost codes s accepted))) ∙ number)).fact in
          let q = none_lost codes (turns g codes a s)
          (turns_standing g codes p.fact a s (standing_of codes s (eqb-true (first_lost codes s) 32 none))) in
          ap is_accepted
          (p.then (ask_lost codes (turns g codes a s) accepted) ∙ cond_true _ _ (eq-eqb (first_lost codes (turns g codes a s)) 32 q))

  split_run : (a b : ℕ) → after g codes s (run work (a + b)) ≡ after_all g codes s (run work a ∷ run work b ∷ [])
  unfolding after after_all
  split_run a b = go (is_accepted (run_check g codes work s)) refl
    where
      go : (t : Bool) → is_accepted (run_check g codes work s) ≡ t →
          cond (is_accepted (run_check g codes work s)) (turns g codes (a + b) s) s
          ≡ after g codes (cond (is_accepted (run_check g codes work s)) (turns g codes a s) s) (run work b)
      go true e =
          cond_true _ _ e ∙ turns_split g codes s a b ∙ sym (cond_true _ _ (still_accepted a e))
          ∙ ap (λ (x : List ℕ). after g codes x (run work b)) (sym (cond_true _ _ e))
      go false e = cond_false _ _ e ∙ sym (cond_false _ _ e) ∙ ap (λ (x : List ℕ). after g codes x (run work b)) (sym (cond_false _ _ e))

pub runs_split : RunsSplit
runs_split = record { by_turns = turns_split; by_runs = λ g codes s work a b. split_run g codes s work a b }
