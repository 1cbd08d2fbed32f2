-- The cells of an opened sheet: at or below the elevation and every level named for it, and at one of these; no accepted list makes a void
-- of a data cell.
use mathlib.Core.Path.{◌≡◌, refl, sym, ◌∙◌, ap, subst}
use mathlib.Core.Bool.{Bool, true, false, not, ◌&&◌}
use mathlib.Core.Logic.{◌⊎◌, inl, inr, ⊎_elim}
use mathlib.Core.List.{List}
use Prim.Native.Nat.{ℕ, zero, suc, ◌≤◌, ◌<◌}
use native.Mathlib.Omega.{arith}
use native.Mathlib.Decide.{dec_lt, ℕ_discrete}
use lib.ListN.{length, get_or, get_or-eq_default}
use lib.IntN.{ℤ}
use lib.Signed.{le_z, ◌≤ℤ◌}
use borrow.Author.Tests.{eq-eqb, ne_eqb}
use Rattle.grid.specs.Sheet.{void, top, at, eq_z, lower, is_data, IsElevation, SixteenBits}
use Rattle.grid.specs.Culverts.{opened_to, opened, is_level_for, is_bad_entry, first_bad_entry}
use Rattle.grid_laws.proofs.Tests.{true_T, and_left, and_right, and_true, not_is_false, not_of_true, cond_true, cond_false}
use Rattle.grid_laws.proofs.Below.{at_table, length_table, first_all, first_none}
use Rattle.grid_laws.proofs.Order.{≤ℤ-trans, ≤ℤ-of-eq, lower_cases, lower_≤_left, lower_≤_right}
use Rattle.grid_laws.proofs.Cells.{all_sixteen}

-- not the void mark
abbrev holds : ℤ → Bool
holds z = not (eq_z z void)

pub level_below : (e : List ℤ) (cell : ℕ) (level : ℤ) → is_level_for e cell level ≡ true → level ≤ℤ at e cell
unfolding is_level_for
level_below e cell level y = record { le = true_T (and_right (holds level) (le_z level (at e cell)) y) }

-- an entry that passes 15 and 16
pub record Good (e : List ℤ) (cell : ℕ) (level : ℤ) : Type 0 where
  pub on_data : is_data e cell ≡ true
  pub level_for : is_level_for e cell level ≡ true

pub good_level : {e : List ℤ} {cell : ℕ} {level : ℤ} → Good e cell level → level ≤ℤ at e cell
good_level {e} {cell} {level} G = level_below e cell level G.level_for

good_holds : {e : List ℤ} {cell : ℕ} {level : ℤ} → Good e cell level → holds level ≡ true
unfolding is_level_for
good_holds {e} {cell} {level} G = and_left (holds level) (le_z level (at e cell)) G.level_for

module _ (e : List ℤ) (cells : List ℕ) (levels : List ℤ) where
  -- every entry passes, exactly where there is no first bad one
  abbrev pub AllGood : Type 0
  AllGood = (k : ℕ) → k < length cells → Good e (get_or cells k 0) (get_or levels k top)

  good_entry : (k : ℕ) → is_bad_entry e cells levels k ≡ false → Good e (get_or cells k 0) (get_or levels k top)
  unfolding is_bad_entry
  good_entry k n =
      let y = not_is_false (is_data e (get_or cells k 0) && is_level_for e (get_or cells k 0) (get_or levels k top)) n in
      record { on_data = and_left (is_data e (get_or cells k 0)) _ y; level_for = and_right (is_data e (get_or cells k 0)) _ y }

  pub not_bad : (k : ℕ) → Good e (get_or cells k 0) (get_or levels k top) → is_bad_entry e cells levels k ≡ false
  unfolding is_bad_entry
  not_bad k G = not_of_true (and_true G.on_data G.level_for)

  pub all_good : first_bad_entry e cells levels ≡ length cells → AllGood
  unfolding first_bad_entry
  all_good none k h = good_entry k (first_all (length cells) (is_bad_entry e cells levels) none k h)

  pub none_bad : AllGood → first_bad_entry e cells levels ≡ length cells
  unfolding first_bad_entry
  none_bad G = first_none (length cells) (is_bad_entry e cells levels) (λ k h. not_bad k (G k h))

  pub opened_length : length (opened e cells levels) ≡ length e
  unfolding opened
  opened_length = length_table (length e) (opened_to e cells levels (length cells))

  pub opened_at : (c : ℕ) → c < length e → at (opened e cells levels) c ≡ opened_to e cells levels (length cells) c
  unfolding opened
  opened_at c h = at_table (length e) (opened_to e cells levels (length cells)) c void h

  pub opened_off : (c : ℕ) → length e ≤ c → at (opened e cells levels) c ≡ at e c
  opened_off c h =
      get_or-eq_default (opened e cells levels) void (let q = opened_length in omega arith) ∙ sym (get_or-eq_default e void h)

  -- one entry more
  pub to_none : (c : ℕ) → opened_to e cells levels 0 c ≡ at e c
  unfolding opened_to
  to_none c = refl

  pub to_named : (k c : ℕ) → get_or cells k 0 ≡ c →
      opened_to e cells levels (suc k) c ≡ lower (opened_to e cells levels k c) (get_or levels k top)
  unfolding opened_to
  to_named k c q = cond_true _ _ (eq-eqb (get_or cells k 0) c q)

  pub to_other : (k c : ℕ) → (get_or cells k 0 ≡ c → ⊥) → opened_to e cells levels (suc k) c ≡ opened_to e cells levels k c
  unfolding opened_to
  to_other k c f = cond_false _ _ (ne_eqb (get_or cells k 0) c f)

  -- no culvert raises a cell
  pub to_≤ : (k c : ℕ) → opened_to e cells levels k c ≤ℤ at e c
  to_≤ zero c = ≤ℤ-of-eq (to_none c)
  to_≤ (suc k) c = go (ℕ_discrete (get_or cells k 0) c) (to_≤ k c)
    where
      go : Dec (get_or cells k 0 ≡ c) → opened_to e cells levels k c ≤ℤ at e c → opened_to e cells levels (suc k) c ≤ℤ at e c
      go (yes q) r = rw (to_named k c q) (≤ℤ-trans (lower_≤_left (opened_to e cells levels k c) (get_or levels k top)) r)
      go (no f) r = rw (to_other k c f) r

  -- and a cell is at or below each level named for it
  pub to_≤_level : (k j c : ℕ) → j < k → get_or cells j 0 ≡ c → opened_to e cells levels k c ≤ℤ get_or levels j top
  to_≤_level zero j c h q = let z : ⊥ = omega arith in absurd z
  to_≤_level (suc k) j c h q = go (ℕ_discrete j k) (ℕ_discrete (get_or cells k 0) c) (λ l. to_≤_level k j c l q)
    where
      go : Dec (j ≡ k) → Dec (get_or cells k 0 ≡ c) → (j < k → opened_to e cells levels k c ≤ℤ get_or levels j top) →
          opened_to e cells levels (suc k) c ≤ℤ get_or levels j top
      go (yes s) d r =
          rw (to_named k c (subst (λ (x : ℕ). get_or cells x 0 ≡ c) s q), s) (lower_≤_right (opened_to e cells levels k c) (get_or levels k top))
      go (no n) (yes p) r =
          rw (to_named k c p) (≤ℤ-trans (lower_≤_left (opened_to e cells levels k c) (get_or levels k top)) (r (omega arith)))
      go (no n) (no f) r = rw (to_other k c f) (r (omega arith))

  -- it is at its elevation, or at one of these levels
  abbrev pub NamedAt : ℕ → ℕ → ℤ → Type 0
  NamedAt k c z = (j : ℕ) × (j < k) × (get_or cells j 0 ≡ c) × (z ≡ get_or levels j top)

  pub to_cases : (k c : ℕ) → (opened_to e cells levels k c ≡ at e c) ⊎ NamedAt k c (opened_to e cells levels k c)
  to_cases zero c = inl (to_none c)
  to_cases (suc k) c = go (ℕ_discrete (get_or cells k 0) c) (to_cases k c)
    where
      before : (opened_to e cells levels (suc k) c ≡ opened_to e cells levels k c) →
          (opened_to e cells levels k c ≡ at e c) ⊎ NamedAt k c (opened_to e cells levels k c) →
          (opened_to e cells levels (suc k) c ≡ at e c) ⊎ NamedAt (suc k) c (opened_to e cells levels (suc k) c)
      before s (inl q) = inl (s ∙ q)
      before s (inr w) = let h = w.1 in inr (w.0, omega arith, w.2, s ∙ w.3)

      go : Dec (get_or cells k 0 ≡ c) → (opened_to e cells levels k c ≡ at e c) ⊎ NamedAt k c (opened_to e cells levels k c) →
          (opened_to e cells levels (suc k) c ≡ at e c) ⊎ NamedAt (suc k) c (opened_to e cells levels (suc k) c)
      go (no f) r = before (to_other k c f) r
      go (yes q) r =
          ⊎_elim (λ w. before (to_named k c q ∙ w.1) r) (λ w. inr (k, omega arith, q, to_named k c q ∙ w.1))
          (lower_cases (opened_to e cells levels k c) (get_or levels k top))

  -- ---- the voids
  to_holds : AllGood → (k c : ℕ) → k ≤ length cells → holds (opened_to e cells levels k c) ≡ is_data e c
  unfolding is_data
  to_holds G k c h = go (to_cases k c)
    where
      go : (opened_to e cells levels k c ≡ at e c) ⊎ NamedAt k c (opened_to e cells levels k c) →
          holds (opened_to e cells levels k c) ≡ is_data e c
      go (inl q) = ap holds q
      go (inr w) =
          let l = w.1 in
          let E = G w.0 (omega arith) in
          ap holds w.3 ∙ good_holds E ∙ sym (subst (λ (x : ℕ). is_data e x ≡ true) w.2 E.on_data)

  pub opened_data : AllGood → (c : ℕ) → is_data (opened e cells levels) c ≡ is_data e c
  unfolding is_data
  opened_data G c = go (dec_lt c (length e))
    where
      go : Dec (c < length e) → holds (at (opened e cells levels) c) ≡ holds (at e c)
      go (yes h) = ap holds (opened_at c h) ∙ to_holds G (length cells) c (omega arith)
      go (no f) = ap holds (opened_off c (omega arith))

  -- ---- 16 bits
  to_above : SixteenBits e → ((j : ℕ) → j < length cells → void ≤ℤ get_or levels j top) → (k c : ℕ) → k ≤ length cells →
      void ≤ℤ opened_to e cells levels k c
  to_above range low k c h =
      ⊎_elim (λ q. rw q (range c).0) (λ w. let l = w.1 in rw w.3 (low w.0 (omega arith))) (to_cases k c)

  pub opened_sixteen : SixteenBits e → ((j : ℕ) → j < length cells → void ≤ℤ get_or levels j top) → SixteenBits (opened e cells levels)
  opened_sixteen range low = all_sixteen (opened e cells levels) (λ c h. on c (let q = opened_length in omega arith))
    where
      on : (c : ℕ) → c < length e → IsElevation (at (opened e cells levels) c)
      on c h =
          rw (opened_at c h) (to_above range low (length cells) c (omega arith), ≤ℤ-trans (to_≤ (length cells) c) (range c).1)
