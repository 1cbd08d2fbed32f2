-- The sum over the equal neighbours one level lower, and the code of a cell.
use mathlib.Core.Path.{◌≡◌, refl, sym, ◌∙◌, ap, subst}
use mathlib.Core.Bool.{Bool, true, false, true≢false, cond, ◌&&◌, ◌||◌}
use mathlib.Core.Logic.{inl, inr, ⊎_elim}
use mathlib.Core.List.{List}
use Prim.Native.Nat.{ℕ, suc, ◌+◌, ◌-◌, ◌%◌, ◌≤◌, ◌<◌}
use native.Mathlib.Nat.{mod-eq_of_lt}
use native.Mathlib.Omega.{arith}
use native.Mathlib.Decide.{ℕ_discrete}
use lib.Dec.{eqb, ltb}
use lib.ListN.{length, get_or}
use lib.Seq.{get_or-take}
use lib.IntN.{ℤ}
use lib.Signed.{◌≤ℤ◌}
use borrow.Author.Tests.{eq-eqb, eqb-true, lt-ltb, ltb-true}
use Rattle.grid.specs.declared.Grid.{Grid}
use Rattle.grid.specs.Below.{sum_below}
use Rattle.grid.specs.Sheet.{size, void, at, is_data, neighbour, code_at}
use Rattle.grid.specs.Outlet.{is_outlet}
use Rattle.grid.specs.Directions.{is_equal, is_level_zero, has_descent, choice, flat_sum, direction_at}
use Rattle.grid_laws.proofs.Tests.{test, true_false, and_true, and_left, and_right, same_test, cond_true, cond_false}
use Rattle.grid_laws.proofs.Below.{at_table, sum_suc}
use Rattle.grid_laws.proofs.Neighbours.{at_eight}
use Rattle.cells.specs.Keys.{key_of, level_of}
use Rattle.cells.proofs.Keys.{zero_no_data}
use Rattle.flow_laws.specs.Words.{void_word, word_level, level_in, levels_in, Levelled}
use Rattle.flow_laws.proofs.Agree.{equal_on_sheet}
use Rattle.flow_laws.proofs.Equals.{is_equal_lem, equal_height}
use Rattle.flow_laws.proofs.Leads.{is_below, flat_direction, void_code, zero_code_any}
use Rattle.flow_laws.proofs.Words.{level_one, level_more, WordCases, word_cases}
use Rattle.levels.proofs.Keyed.{agrees, height_data, off_height}

-- ---- two words: one is one level below the other, where it is from `low` on below it
module _ (near low word : ℕ) (high : 257 ≤ word) (one : word ≡ 257 → low ≡ 1) (more : 257 < word → low + 1 ≡ word) where
  pub below : low ≤ near → near < word → (near ≡ void_word → ⊥) → (suc (word_level near) ≡ word_level word) × (0 < word_level near)
  below h l f = go (ℕ_discrete word 257)
    where
      go : Dec (word ≡ 257) → (suc (word_level near) ≡ word_level word) × (0 < word_level near)
      go (yes w) =
          let o = one w in
          let a = level_one near (omega arith) (omega arith) in
          let b = level_more word high in
          (omega arith, omega arith)
      go (no w) =
          let m = more (omega arith) in
          let a = level_more near (omega arith) in
          let b = level_more word high in
          (omega arith, omega arith)

  pub below_range : suc (word_level near) ≡ word_level word → 0 < word_level near → (low ≤ near) × (near < word)
  below_range q s = go (ℕ_discrete word 257) (word_cases near)
    where
      b : word_level word ≡ word - 255
      b = level_more word high

      go : Dec (word ≡ 257) → WordCases near → (low ≤ near) × (near < word)
      go d (inl (z, l)) = let x : ⊥ = omega arith in absurd x
      go (yes w) (inr (inl (z, l, v))) = let o = one w in (omega arith, omega arith)
      go (no w) (inr (inl (z, l, v))) = let c = b in let x : ⊥ = w (omega arith) in absurd x
      go (yes w) (inr (inr (z, l))) = let c = b in let x : ⊥ = omega arith in absurd x
      go (no w) (inr (inr (z, l))) = let c = b in let m = more (omega arith) in (omega arith, omega arith)

-- ---- the sum, from position to position
pub code_doubles : (p : ℕ) → p < 8 → code_at (p + 1) ≡ code_at p + code_at p
code_doubles = at_eight (λ p. code_at (p + 1) ≡ code_at p + code_at p) refl refl refl refl refl refl refl refl

-- the positions below p are looked at
pub record Summed (g : Grid) (e : List ℤ) (work : List ℕ) (cell p sum : ℕ) : Type 0 where
  pub eight : p ≤ 8
  pub is : sum ≡ sum_below p (λ q. cond (is_below g e (levels_in g work) cell q) (code_at q) 0)
  pub small : sum < code_at p

pub summed_none : (g : Grid) (e : List ℤ) (work : List ℕ) (cell : ℕ) → Summed g e work cell 0 0
unfolding sum_below
summed_none g e work cell = record { eight = omega arith; is = refl; small = omega arith }

pub summed_more : (g : Grid) (e : List ℤ) (work : List ℕ) (cell p sum : ℕ) (b : Bool) {r : ℕ} → Summed g e work cell p sum → p < 8
    → b ≡ is_below g e (levels_in g work) cell p → r ≡ sum + cond b (code_at p) 0 → r < code_at (p + 1) → Summed g e work cell (p + 1) r
summed_more g e work cell p sum b {r} S h q s l =
    record {
      eight = omega arith;
      is =
          s ∙ ap (λ (x : ℕ). x + cond b (code_at p) 0) S.is
          ∙ ap (λ (x : Bool). sum_below p (λ q. cond (is_below g e (levels_in g work) cell q) (code_at q) 0) + cond x (code_at p) 0) q
          ∙ sym (sum_suc p (λ q. cond (is_below g e (levels_in g work) cell q) (code_at q) 0))
          ∙ ap (λ (x : ℕ). sum_below x (λ q. cond (is_below g e (levels_in g work) cell q) (code_at q) 0)) (omega_suc p);
      small = l;
    }
  where
    omega_suc : (x : ℕ) → suc x ≡ x + 1
    omega_suc x = omega arith

pub summed_all : (g : Grid) (e : List ℤ) (work : List ℕ) (cell p sum : ℕ) → Summed g e work cell p sum → 8 ≤ p
    → (sum ≡ flat_sum g e (levels_in g work) cell) × (sum < 256)
unfolding flat_sum
summed_all g e work cell p sum S h = let a = S.eight in let q : p ≡ 8 = omega arith in (rw q at S.is, rw q at S.small)

-- what `is_below` answers is what the definition asks at the position p
module _ (g : Grid) (e : List ℤ) (len : length e ≡ size g) (work : List ℕ) (cell : ℕ) (on : cell < size g) (k word : ℕ)
    (own : at e cell ≡ level_of k) (some : 0 < k) (is_word : word ≡ get_or work cell 0) (p m : ℕ) (there : m ≡ neighbour g cell p) where
  own_level : get_or (levels_in g work) cell 0 ≡ word_level word
  own_level = at_table (size g) (level_in (size g) work) cell 0 on ∙ ap word_level (get_or-take (size g) work cell 0 on ∙ sym is_word)

  near_level : neighbour g cell p < size g → get_or (levels_in g work) (neighbour g cell p) 0 ≡ word_level (get_or work m 0)
  near_level h =
      at_table (size g) (level_in (size g) work) (neighbour g cell p) 0 h
      ∙ ap word_level (get_or-take (size g) work (neighbour g cell p) 0 h ∙ ap (λ (x : ℕ). get_or work x 0) (sym there))

  -- the levels there and of the cell itself
  abbrev near : ℕ
  near = get_or (levels_in g work) (neighbour g cell p) 0

  abbrev level : ℕ
  level = get_or (levels_in g work) cell 0

  pub below_is : (r : Bool)
      → (r ≡ true → (at e m ≡ level_of k) × ((suc (word_level (get_or work m 0)) ≡ word_level word) × (0 < word_level (get_or work m 0))))
      → (r ≡ false → at e m ≡ level_of k → suc (word_level (get_or work m 0)) ≡ word_level word → 0 < word_level (get_or work m 0) → ⊥)
      → r ≡ is_below g e (levels_in g work) cell p
  below_is r t f = same_test r (is_below g e (levels_in g work) cell p) forth back
    where
      forth : r ≡ true → is_below g e (levels_in g work) cell p ≡ true
      forth q =
          let w = t q in
          let d : is_data e (neighbour g cell p) ≡ true = subst (λ (x : ℕ). is_data e x ≡ true) there (height_data e m k w.0 some) in
          let same : at e (neighbour g cell p) ≡ at e cell = subst (λ (x : ℕ). at e x ≡ at e cell) there (w.0 ∙ sym own) in
          let eq = is_equal_lem g e cell p d same in
          let a = near_level (equal_on_sheet g e len cell p eq) in
          let b = own_level in
          let c = w.1.0 in
          let s = w.1.1 in
          and_true (and_true eq (eq-eqb (suc near) level (omega arith))) (lt-ltb 0 near (omega arith))

      back : is_below g e (levels_in g work) cell p ≡ true → r ≡ true
      back q = ⊎_elim (λ y. y) (λ n. absurd (clash n)) (test r)
        where
          first : (is_equal g e cell p && eqb (suc near) level) ≡ true
          first = and_left (is_equal g e cell p && eqb (suc near) level) (ltb 0 near) q

          clash : r ≡ false → ⊥
          clash n =
              let eq = and_left (is_equal g e cell p) (eqb (suc near) level) first in
              let less = eqb-true (suc near) level (and_right (is_equal g e cell p) (eqb (suc near) level) first) in
              let pos = ltb-true 0 near (and_right (is_equal g e cell p && eqb (suc near) level) (ltb 0 near) q) in
              let a = near_level (equal_on_sheet g e len cell p eq) in
              let b = own_level in
              f n (ap (at e) there ∙ equal_height g e cell p eq ∙ own) (omega arith) (omega arith)

  -- off the sheet there is no equal neighbour
  pub none_below : neighbour g cell p ≡ size g → false ≡ is_below g e (levels_in g work) cell p
  none_below off =
      below_is false (λ q. absurd (true≢false (sym q))) (λ q h a b. off_height e m k (omega (arith, there)) some h)

-- ---- the code of a cell
module _ (g : Grid) (e : List ℤ) (len : length e ≡ size g) (work : List ℕ) (L : Levelled g e work) (cell : ℕ) (on : cell < size g) where
  own_read : get_or (levels_in g work) cell 0 ≡ word_level (get_or work cell 0)
  own_read = at_table (size g) (level_in (size g) work) cell 0 on ∙ ap word_level (get_or-take (size g) work cell 0 on)

  -- at level 0 it is the word
  low_code : 0 < get_or work cell 0 → get_or work cell 0 < void_word → get_or work cell 0 ≡ direction_at g e (levels_in g work) cell
  low_code some h =
      let one = own_read ∙ level_one (get_or work cell 0) some h in
      let zero_level : is_level_zero g e cell ≡ true = L.certified.one_is cell on one in
      sym (get_or-take (size g) work cell 0 on) ∙ L.coded cell on zero_level ∙ sym (zero_code_any g e cell zero_level (levels_in g work))

  -- "A void has code 0"
  no_code : get_or work cell 0 ≡ void_word → 0 ≡ direction_at g e (levels_in g work) cell
  no_code q = sym (void_code g e (levels_in g work) cell ((L.voids cell on).1 (get_or-take (size g) work cell 0 on ∙ q)))

  -- so without a level above 0 it is the word's last byte
  pub byte_code : 0 < get_or work cell 0 → get_or work cell 0 < 257 → get_or work cell 0 % 256 ≡ direction_at g e (levels_in g work) cell
  byte_code some h = go (ℕ_discrete (get_or work cell 0) void_word)
    where
      go : Dec (get_or work cell 0 ≡ void_word) → get_or work cell 0 % 256 ≡ direction_at g e (levels_in g work) cell
      go (yes q) = ap (λ (w : ℕ). w % 256) q ∙ no_code q
      go (no f) = let k : get_or work cell 0 < void_word = omega arith in mod-eq_of_lt k ∙ low_code some k

  module _ (h : 257 ≤ get_or work cell 0) where
    has_level : 1 < get_or (levels_in g work) cell 0
    has_level = let a = own_read in let b = level_more (get_or work cell 0) h in omega arith

    high_data : is_data e cell ≡ true
    high_data = L.certified.data_only cell on (let a = has_level in omega arith)

    -- the key that was read is the cell's, and above 0
    pub high_key : (k : ℕ) → k ≡ key_of (at e cell) → void ≤ℤ at e cell → (at e cell ≡ level_of k) × (0 < k)
    high_key k q v = (agrees k k q v refl, go (ℕ_discrete k 0))
      where
        go : Dec (k ≡ 0) → 0 < k
        go (yes z) = true_false high_data (zero_no_data e cell k q v z)
        go (no f) = omega (arith, f)

    not_zero : is_level_zero g e cell ≡ false
    not_zero = ⊎_elim (λ z. absurd (clash z)) (λ z. z) (test (is_level_zero g e cell))
      where
        clash : is_level_zero g e cell ≡ true → ⊥
        clash z = let a = has_level in let b = L.certified.zero_has cell on z in omega arith

    -- the code from the sum
    pub high_code : {sum r : ℕ} → sum ≡ flat_sum g e (levels_in g work) cell → r ≡ choice sum → r ≡ direction_at g e (levels_in g work) cell
    unfolding is_level_zero
    high_code s q = q ∙ ap choice s ∙ sym (flat_direction g e (levels_in g work) cell high_data (no_outlet rest) (no_descent rest))
      where
        rest : (is_outlet g e cell || has_descent g e cell) ≡ false
        rest = Rattle.grid_laws.proofs.Tests.and_rest_false (is_data e cell) (is_outlet g e cell || has_descent g e cell) high_data not_zero

        no_outlet : (is_outlet g e cell || has_descent g e cell) ≡ false → is_outlet g e cell ≡ false
        no_outlet q = Rattle.grid_laws.proofs.Tests.or_none_left (is_outlet g e cell) (has_descent g e cell) q

        no_descent : (is_outlet g e cell || has_descent g e cell) ≡ false → has_descent g e cell ≡ false
        no_descent q = Rattle.grid_laws.proofs.Tests.or_none_right (is_outlet g e cell) (has_descent g e cell) q
