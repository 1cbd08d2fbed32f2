-- The word of a cell of level 0, and the first data cell without a level.
use mathlib.Core.Path.{◌≡◌, sym, ◌∙◌, ap}
use mathlib.Core.Bool.{true, false, cond, not, ◌&&◌}
use mathlib.Core.Logic.{◌⊎◌, inl, inr, ⊎_elim}
use mathlib.Core.List.{List, []}
use Prim.Native.Nat.{ℕ, ◌≤◌, ◌<◌}
use native.Mathlib.Omega.{arith}
use native.Mathlib.Decide.{ℕ_discrete}
use lib.Dec.{eqb}
use lib.ListN.{length, get_or}
use lib.Seq.{get_or-take}
use lib.IntN.{ℤ}
use borrow.Author.Tests.{eq-eqb, ne_eqb, eqb-true, eqb-false}
use Rattle.grid.specs.declared.Grid.{Grid}
use Rattle.grid.specs.Below.{table, any_below, first_below}
use Rattle.grid.specs.Sheet.{size, is_data, neighbour}
use Rattle.grid.specs.Outlet.{is_outlet, outlet_code}
use Rattle.grid.specs.Directions.{is_level_zero, has_descent, is_steepest, steepest_sum, choice, direction_at, directions, first_unlevelled}
use Rattle.grid_laws.proofs.Tests.{test, true_false, not_true_false, not_is_false, same_test, and_true, and_left, and_right}
use Rattle.grid_laws.proofs.Tests.{or_left, or_right, or_none_left, or_none_right, cond_true, cond_false}
use Rattle.grid_laws.proofs.Below.{at_table, no_of_any, first_ext, first_all, first_≤}
use Rattle.grid_laws.proofs.Outlets.{outlet_leaves, leaves_no_data}
use Rattle.cells.proofs.Codes.{outlet_some}
use Rattle.flow_laws.specs.Words.{level_in, levels_in, first_word, Levelled}
use Rattle.flow_laws.proofs.Agree.{certified_directions, certified_unlevelled}
use Rattle.slopes.specs.Steepest.{near_void, inner_sum}
use Rattle.flow_laws.proofs.Choice.{sum_small, chosen_none}
use Rattle.flow_laws.proofs.Steepest.{no_descent_none}
use Rattle.flow_laws.proofs.Leads.{outlet_direction, descent_direction, not_level_zero}
use Rattle.flow_laws.proofs.Words.{level_none, first_zero, first_flat, blank_data, data_level}
use Rattle.flow.specs.Coding.{NoneLacks}

-- where no drop is above 0, the sum is 0 and so is its choice
no_choice : (g : Grid) (e : List ℤ) (c : ℕ) → has_descent g e c ≡ false → choice (steepest_sum g e c) ≡ 0
unfolding steepest_sum
no_choice g e c h = (chosen_none (is_steepest g e c) (no_descent_none g e c h)).1

module _ (g : Grid) (e : List ℤ) (c : ℕ) where
  outlet_zero : is_data e c ≡ true → is_outlet g e c ≡ true → is_level_zero g e c ≡ true
  unfolding is_level_zero
  outlet_zero d o = and_true d (or_left (has_descent g e c) o)

  descent_zero : is_data e c ≡ true → has_descent g e c ≡ true → is_level_zero g e c ≡ true
  unfolding is_level_zero
  descent_zero d h = and_true d (or_right (is_outlet g e c) h)

  -- the first word of a data cell: an outlet's code, or the choice among the largest drops
  pub data_word : is_data e c ≡ true → cond (is_outlet g e c) (outlet_code g e c) (choice (steepest_sum g e c)) ≡ first_word g e c
  data_word d = ⊎_elim leaves slopes (test (is_outlet g e c))
    where
      leaves : is_outlet g e c ≡ true → cond (is_outlet g e c) (outlet_code g e c) (choice (steepest_sum g e c)) ≡ first_word g e c
      leaves o =
          cond_true (outlet_code g e c) (choice (steepest_sum g e c)) o
          ∙ sym (outlet_direction g e [] c o)
          ∙ sym (first_zero g e c (outlet_zero d o))

      by_drop : is_outlet g e c ≡ false → (has_descent g e c ≡ true) ⊎ (has_descent g e c ≡ false) →
          choice (steepest_sum g e c) ≡ first_word g e c
      by_drop o (inl h) = sym (descent_direction g e [] c d o h) ∙ sym (first_zero g e c (descent_zero d h))
      by_drop o (inr h) = no_choice g e c h ∙ sym (first_flat g e c d (not_level_zero g e c o h))

      slopes : is_outlet g e c ≡ false → cond (is_outlet g e c) (outlet_code g e c) (choice (steepest_sum g e c)) ≡ first_word g e c
      slopes o = cond_false (outlet_code g e c) (choice (steepest_sum g e c)) o ∙ by_drop o (test (has_descent g e c))

  -- the word from the code that `outlet_code` gives
  pub outlet_word : {r : ℕ} → is_data e c ≡ true → r ≡ cond (is_outlet g e c) (outlet_code g e c) 0 → (r ≡ 0 → ⊥) → r ≡ first_word g e c
  outlet_word {r} d q f =
      let o = outlet_some g e c r q f in
      q ∙ cond_true (outlet_code g e c) 0 o ∙ sym (cond_true (outlet_code g e c) (choice (steepest_sum g e c)) o) ∙ data_word d

  -- and from the sum, where a data cell is no outlet
  pub drop_word : is_data e c ≡ true → is_outlet g e c ≡ false → choice (steepest_sum g e c) ≡ first_word g e c
  drop_word d o = sym (cond_false (outlet_code g e c) (choice (steepest_sum g e c)) o) ∙ data_word d

  -- ---- from a cell's sum
  pub sum_below : steepest_sum g e c < 256
  unfolding steepest_sum
  sum_below = sum_small (is_steepest g e c)

  pub sum_word : length e ≡ size g → (s : ℕ) → s ≡ inner_sum g e c → s < 256 → choice s ≡ first_word g e c
  unfolding inner_sum near_void
  sum_word len s q h = ⊎_elim near clear (test (near_void g e c))
    where
      near : near_void g e c ≡ true → choice s ≡ first_word g e c
      near t = let z : s ≡ 256 = q ∙ cond_true 256 (steepest_sum g e c) t in let y : ⊥ = omega arith in absurd y

      -- no step leads to a void, so none leaves
      clear : near_void g e c ≡ false → choice s ≡ first_word g e c
      clear t =
          let d = not_is_false (is_data e c) (or_none_left (not (is_data e c)) (any_below 8 (λ p. not (is_data e (neighbour g c p)))) t) in
          let none = no_of_any 8 (λ p. not (is_data e (neighbour g c p)))
          (or_none_right (not (is_data e c)) (any_below 8 (λ p. not (is_data e (neighbour g c p)))) t) in
          let o : is_outlet g e c ≡ false =
          not_true_false (is_outlet g e c) (λ o. let w = outlet_leaves g e c o in
          true_false (not_is_false (is_data e (neighbour g c w.0)) (none w.0 w.1)) (leaves_no_data g e len c w.0 w.2)) in
          ap choice (q ∙ cond_false 256 (steepest_sum g e c) t) ∙ drop_word d o

-- ---- a data cell without a level is a cell without a word
module _ (g : Grid) (e : List ℤ) (len : length e ≡ size g) (work : List ℕ) (L : Levelled g e work) where
  word_level : (c : ℕ) → c < size g → eqb (get_or work c 0) 0 ≡ (is_data e c && eqb (get_or (levels_in g work) c 0) 0)
  word_level c h = same_test (eqb (get_or work c 0) 0) (is_data e c && eqb (get_or (levels_in g work) c 0) 0) forth back
    where
      read : get_or (levels_in g work) c 0 ≡ level_in (size g) work c
      read = at_table (size g) (level_in (size g) work) c 0 h

      forth : eqb (get_or work c 0) 0 ≡ true → (is_data e c && eqb (get_or (levels_in g work) c 0) 0) ≡ true
      forth t =
          let z = eqb-true (get_or work c 0) 0 t in
          and_true (blank_data g e len work L.voids c h z)
          (eq-eqb (get_or (levels_in g work) c 0) 0 (read ∙ level_none _ (get_or-take (size g) work c 0 h ∙ z)))

      back : (is_data e c && eqb (get_or (levels_in g work) c 0) 0) ≡ true → eqb (get_or work c 0) 0 ≡ true
      back t = go (ℕ_discrete (get_or work c 0) 0)
        where
          go : Dec (get_or work c 0 ≡ 0) → eqb (get_or work c 0) 0 ≡ true
          go (yes z) = eq-eqb (get_or work c 0) 0 z
          go (no f) =
              let d = and_left (is_data e c) (eqb (get_or (levels_in g work) c 0) 0) t in
              let none = eqb-true (get_or (levels_in g work) c 0) 0 (and_right (is_data e c) (eqb (get_or (levels_in g work) c 0) 0) t) in
              let same = read in
              let some = data_level g e len work L.voids c d (omega (arith, f)) in
              let z : ⊥ = omega arith in
              absurd z

  -- question 10's place
  pub place_is : {r : ℕ} → r ≡ first_below (length e) (λ c. eqb (get_or work c 0) 0) → r ≡ first_unlevelled g e
  place_is q =
      q ∙ ap (λ (n : ℕ). first_below n (λ c. eqb (get_or work c 0) 0)) len
      ∙ first_ext (size g) (λ c. eqb (get_or work c 0) 0) (λ c. is_data e c && eqb (get_or (levels_in g work) c 0) 0) word_level
      ∙ sym (certified_unlevelled g e len L.certified)

  whole : {r : ℕ} → r ≡ first_below (length e) (λ c. eqb (get_or work c 0) 0) → length e ≤ r → r ≡ size g
  whole q h = let a = first_≤ (length e) (λ c. eqb (get_or work c 0) 0) in omega arith

  -- where there is none, every cell has a word
  pub none_lacks : {r : ℕ} → r ≡ first_below (length e) (λ c. eqb (get_or work c 0) 0) → length e ≤ r → NoneLacks g work
  none_lacks q h c on =
      let some =
      eqb-false (get_or work c 0) 0 (first_all (length e) (λ c. eqb (get_or work c 0) 0) (sym q ∙ whole q h ∙ sym len) c (omega arith)) in
      omega (arith, some)

  -- the two endings
  pub kept_codes : {r : ℕ} (codes : List ℕ) → r ≡ first_below (length e) (λ c. eqb (get_or work c 0) 0) → r < length e →
      (r ≡ first_unlevelled g e) × (codes ≡ cond (eqb r (size g)) (directions g e) codes)
  kept_codes {r} codes q h = (place_is q, sym (cond_false (directions g e) codes (ne_eqb r (size g) (λ s. omega arith))))

  pub written_codes : {r : ℕ} (codes codes' : List ℕ) → r ≡ first_below (length e) (λ c. eqb (get_or work c 0) 0) → length e ≤ r
      → codes' ≡ table (size g) (direction_at g e (levels_in g work)) →
      (r ≡ first_unlevelled g e) × (codes' ≡ cond (eqb r (size g)) (directions g e) codes)
  written_codes {r} codes codes' q h w = (
    place_is q,
    w ∙ sym (certified_directions g e len L.certified)
        ∙ sym (cond_true (directions g e) codes (eq-eqb r (size g) (whole q h))),
  )
