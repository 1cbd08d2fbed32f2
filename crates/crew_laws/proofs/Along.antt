-- A trace along any list of operations: turns bring it nearer to its end, and all else leaves it alone, until it is collected.
use mathlib.Core.Path.{◌≡◌, refl, sym, ◌∙◌, ap, subst}
use mathlib.Core.Bool.{Bool, true, false, cond, ◌&&◌}
use mathlib.Core.Logic.{◌⊎◌, inl, inr, ⊎_elim}
use mathlib.Core.List.{List, [], ◌∷◌, ◌++◌}
use Prim.Native.Nat.{ℕ, suc, ◌+◌, ◌-◌, ◌≤◌, ◌<◌}
use native.Mathlib.Omega.{arith}
use lib.Dec.{eqb}
use lib.ListN.{length}
use borrow.Author.Tests.{eq-eqb, ne_eqb, eqb-true, eqb-false}
use Rattle.grid.specs.declared.Grid.{Grid}
use Rattle.grid.specs.Below.{last_of}
use Rattle.grid.specs.Routes.{follow, has_code, receiver}
use Rattle.grid.specs.Checks.{is_accepted}
use Rattle.grid.specs.Crews.{waiting, finished, status_of, stands_on, next_crew, is_on_way, is_finished, has_trace, turns, hand_in_check, handed_in}
use Rattle.grid.specs.Crews.{run_check, freed}
use Rattle.grid.specs.Operations.{Operation, run, hand_in, collect, after, after_all, turns_in, turns_in_all, hands_in, hands_in_all}
use Rattle.grid_laws.proofs.Tests.{test, true_false, cond_false, and_false_left, and_false_right, or_left, or_right}
use Rattle.route_laws.specs.Ends.{EndsIn}
use Rattle.crew_laws.specs.Going.{OnItsWay, Arrived, Within}
use Rattle.crew_laws.proofs.Turns.{length_turns}
use Rattle.crew_laws.proofs.Nearer.{nearer_by, longer}
use Rattle.crew_laws.proofs.Changes.{handed_in_lem, length_handed, handed_status, handed_cell, handed_next}
use Rattle.crew_laws.proofs.Changes.{length_freed, freed_early, freed_status, freed_cell, freed_next}

module _ (g : Grid) (codes : List ℕ) where
  pub length_after : (s : List ℕ) (x : Operation) → length (after g codes s x) ≡ length s
  unfolding after
  length_after s (run work n) = go (is_accepted (run_check g codes work s))
    where
      go : (t : Bool) → length (cond t (turns g codes n s) s) ≡ length s
      go true = length_turns g codes n s
      go false = refl
  length_after s (hand_in work j c) = go (is_accepted (hand_in_check g codes work j c s))
    where
      go : (t : Bool) → length (cond t (handed_in s j c) s) ≡ length s
      go true = length_handed s j c
      go false = refl
  length_after s (collect j) = length_freed s j

  pub length_all : (s : List ℕ) (l : List Operation) → length (after_all g codes s l) ≡ length s
  unfolding after_all
  length_all s [] = refl
  length_all s (x ∷ l) = length_all (after g codes s x) l ∙ length_after s x

  module _ (k last : ℕ) where
    -- an unchanged trace
    pub same : (s t : List ℕ) (n : ℕ) → length t ≡ length s → status_of t k ≡ status_of s k → stands_on t k ≡ stands_on s k →
        next_crew t ≡ next_crew s → Within g codes s k last n → Within g codes t k last n
    same s t n e a b d w = (e ∙ w.0, ⊎_elim (λ o. inl (on o)) (λ r. inr (record { status = a ∙ r.status; at = b ∙ r.at })) w.1)
      where
        on : OnItsWay g codes s k last n → OnItsWay g codes t k last n
        on o =
            record {
              status = a ∙ o.status;
              left = o.left;
              ends = subst (λ (c : ℕ). EndsIn (has_code codes) (receiver g codes) (suc o.left) c) (sym b) o.ends;
              last_is = ap (λ (c : ℕ). last_of (follow (has_code codes) (receiver g codes) (suc o.left) c) last) b ∙ o.last_is;
              in_time = rw d o.in_time;
            }

    -- its crew has a trace
    pub traced : (s : List ℕ) (n : ℕ) → Within g codes s k last n → has_trace s k ≡ true
    unfolding has_trace is_on_way is_finished
    traced s n w =
        ⊎_elim (λ o. or_left (eqb (status_of s k) finished) (eq-eqb (status_of s k) waiting o.status))
        (λ a. or_right (eqb (status_of s k) waiting) (eq-eqb (status_of s k) finished a.status)) w.1

    -- too early a collection changes nothing
    early : (s : List ℕ) (n : ℕ) → OnItsWay g codes s k last n → freed s k ≡ s
    unfolding is_finished
    early s n o = freed_early s k (ne_eqb (status_of s k) finished (λ e. let q = o.status in let z : ⊥ = omega arith in z))

    module _ (few : length codes ≤ 4294967296) (small : k < 32) where
      pub along_run : (s : List ℕ) (work m n : ℕ) → Within g codes s k last n →
          Within g codes (after g codes s (run work m)) k last (n - turns_in g codes s (run work m))
      unfolding after turns_in
      along_run s work m n w = go (is_accepted (run_check g codes work s))
        where
          go : (t : Bool) → Within g codes (cond t (turns g codes m s) s) k last (n - cond t m 0)
          go true = nearer_by g codes few k last small m (n - m) s (longer g codes k last s n (m + (n - m)) (omega arith) w)
          go false = longer g codes k last s n (n - 0) (omega arith) w

      -- 22 refuses a hand_in by its own crew
      not_mine : (s : List ℕ) (work j c n : ℕ) → Within g codes s k last n → is_accepted (hand_in_check g codes work j c s) ≡ true → k ≡ j → ⊥
      not_mine s work j c n w e q = true_false {A = ⊥} (ap (has_trace s) (sym q) ∙ traced s n w) (handed_in_lem g codes s work j c e).free

      pub along_hand_in : (s : List ℕ) (work j c n : ℕ) → Within g codes s k last n →
          Within g codes (after g codes s (hand_in work j c)) k last n
      unfolding after
      along_hand_in s work j c n w = go (is_accepted (hand_in_check g codes work j c s)) refl
        where
          go : (t : Bool) → is_accepted (hand_in_check g codes work j c s) ≡ t → Within g codes (cond t (handed_in s j c) s) k last n
          go false e = w
          go true e =
              let h = handed_in_lem g codes s work j c e in
              let f = not_mine s work j c n w e in
              same s (handed_in s j c) n (length_handed s j c) (handed_status s j c k small h.crew f)
              (handed_cell s j c k small h.crew f) (handed_next s j c h.crew) w

      pub none_handed : (s : List ℕ) (work j c n : ℕ) → Within g codes s k last n → hands_in g codes k s (hand_in work j c) ≡ []
      unfolding hands_in
      none_handed s work j c n w = cond_false _ _ (go (test (is_accepted (hand_in_check g codes work j c s))))
        where
          go : (is_accepted (hand_in_check g codes work j c s) ≡ true) ⊎ (is_accepted (hand_in_check g codes work j c s) ≡ false) →
              (eqb j k && is_accepted (hand_in_check g codes work j c s)) ≡ false
          go (inl e) =
              and_false_left (is_accepted (hand_in_check g codes work j c s)) (ne_eqb j k (λ q. not_mine s work j c n w e (sym q)))
          go (inr e) = and_false_right (eqb j k) e

      pub along_collect : (s : List ℕ) (j n : ℕ) → (k ≡ j → ⊥) → Within g codes s k last n → Within g codes (freed s j) k last n
      along_collect s j n f w = same s (freed s j) n (length_freed s j) (freed_status s j k f) (freed_cell s j k) (freed_next s j) w

      -- where the operations l have brought it: nearer to its end by their turns, or it was finished and is collected
      abbrev Brought : List ℕ → ℕ → List Operation → Type 0
      Brought s n l =
          ((hands_in_all g codes k s l ≡ []) × Within g codes (after_all g codes s l) k last (n - turns_in_all g codes s l))
          ⊎ ((p q : List Operation) × (p ++ collect k ∷ q ≡ l) × (hands_in_all g codes k s p ≡ [])
          × Arrived g codes (after_all g codes s p) k last)

      one_more : (s : List ℕ) (x : Operation) (l : List Operation) (m n : ℕ) → hands_in g codes k s x ≡ [] → m ≤ n - turns_in g codes s x →
          Brought (after g codes s x) m l → Brought s n (x ∷ l)
      unfolding after_all hands_in_all turns_in_all
      one_more s x l m n e h (inl a) =
          inl (
            ap (λ (y : List ℕ). y ++ hands_in_all g codes k (after g codes s x) l) e ∙ a.0,
            longer g codes k last _ _ _ (omega arith) a.1,
          )
      one_more s x l m n e h (inr (p, q, b, d, a)) =
          inr (
            x ∷ p,
            q,
            ap (λ (t : List Operation). x ∷ t) b,
            ap (λ (y : List ℕ). y ++ hands_in_all g codes k (after g codes s x) p) e ∙ d,
            a,
          )

      at_collect : (j : ℕ) (l : List Operation) (s : List ℕ) (n : ℕ) → Within g codes s k last n →
          (Within g codes (after g codes s (collect j)) k last n → Brought (after g codes s (collect j)) n l) → Brought s n (collect j ∷ l)
      unfolding after after_all hands_in hands_in_all turns_in
      at_collect j l s n w rest = ⊎_elim (λ e. mine (eqb-true k j e)) (λ e. away (eqb-false k j e)) (test (eqb k j))
        where
          away : (k ≡ j → ⊥) → Brought s n (collect j ∷ l)
          away f = one_more s (collect j) l n n refl (omega arith) (rest (along_collect s j n f w))

          mine : k ≡ j → Brought s n (collect j ∷ l)
          mine e =
              ⊎_elim
              (λ o. one_more s (collect j) l n n refl (omega arith)
              (rest (subst (λ (t : List ℕ). Within g codes t k last n) (sym (ap (freed s) (sym e) ∙ early s n o)) w)))
              (λ a. inr ([], l, ap (λ (x : ℕ). collect x ∷ l) e, refl, a)) w.1

      pub along : (l : List Operation) (s : List ℕ) (n : ℕ) → Within g codes s k last n → Brought s n l
      unfolding after_all turns_in_all hands_in hands_in_all turns_in
      along [] s n w = inl (refl, longer g codes k last s n (n - 0) (omega arith) w)
      along (run work m ∷ l) s n w =
          one_more s (run work m) l (n - turns_in g codes s (run work m)) n refl (omega arith)
          (along l (after g codes s (run work m)) (n - turns_in g codes s (run work m)) (along_run s work m n w))
      along (hand_in work j c ∷ l) s n w =
          one_more s (hand_in work j c) l n n (none_handed s work j c n w) (omega arith)
          (along l (after g codes s (hand_in work j c)) n (along_hand_in s work j c n w))
      along (collect j ∷ l) s n w = at_collect j l s n w (along l (after g codes s (collect j)) n)
