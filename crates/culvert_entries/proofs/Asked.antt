-- Questions 15 and 16 by keys: a cell holds data where its key is above 0, and keys have the order of elevations; and the first bad entry
-- by a walk along the list.
use mathlib.Core.Path.{◌≡◌, sym, ◌∙◌, ap, ap₂}
use mathlib.Core.Bool.{Bool, true, false, not, cond, ◌&&◌}
use mathlib.Core.List.{List}
use Prim.Native.Nat.{ℕ, ◌≤◌, ◌<◌}
use native.Mathlib.Omega.{arith}
use lib.Dec.{eqb, leb}
use lib.ListN.{length, get_or}
use lib.IntN.{ℤ}
use lib.Signed.{le_z, ◌≤ℤ◌}
use borrow.Author.Tests.{eq-eqb, ne_eqb}
use Rattle.grid.specs.Sheet.{void, top, at, eq_z, is_data}
use Rattle.grid.specs.Culverts.{is_level_for, is_bad_entry, first_bad_entry}
use Rattle.grid.specs.Checks.{refusal, accepted, ask_entries}
use Rattle.grid_laws.proofs.Tests.{true_false, not_false_true, cond_false, and_true, and_left, and_right, and_false_left, not_of_true}
use Rattle.grid_laws.proofs.Tests.{not_of_false, not_is_true, same_test}
use Rattle.grid_laws.proofs.Below.{first_is, first_none, first_≤}
use Rattle.grid_laws.proofs.Order.{≤ℤ-trans, ≤ℤ-of-eq, ≤ℤ-antisym, eq_eq_z}
use Rattle.grid_laws.proofs.Cells.{no_data_void}
use Rattle.grid_laws.proofs.Lists.{any_default}
use Rattle.cells.specs.Keys.{level_of}
use Rattle.cells.proofs.Keys.{Known, known_level, key_level, key_equal, key_at_most, key_void, level_above_void, least}
use Rattle.culvert_laws.proofs.Opened.{level_below}
use Rattle.culvert_laws.proofs.Asked.{entries_yes}

level_is_void : (key : ℕ) → eq_z (level_of key) void ≡ eqb key 0
level_is_void key = key_equal (level_of key) void (level_above_void key) least ∙ ap₂ eqb (key_level key) key_void

-- here is the key of the cell, as it was read, and key that of the level
module _ (e : List ℤ) (cell here : ℕ) (H : Known here (at e cell)) (key : ℕ) where
  pub void_level : key ≡ 0 → is_level_for e cell (level_of key) ≡ false
  unfolding is_level_for
  void_level z = and_false_left (le_z (level_of key) (at e cell)) (not_of_true (level_is_void key ∙ eq-eqb key 0 z))

  pub level_test : (key ≡ 0 → ⊥) → leb key here ≡ is_level_for e cell (level_of key)
  unfolding is_level_for
  level_test n =
      ap₂ leb (sym (key_level key)) H.0
      ∙ sym (key_at_most (level_of key) (at e cell) H.1.1.0)
      ∙ sym (ap (λ (b : Bool). b && le_z (level_of key) (at e cell)) (not_of_false (level_is_void key ∙ ne_eqb key 0 n)))

-- no level is one for a void: it would be the void itself
level_data : (e : List ℤ) (cell : ℕ) (level : ℤ) → void ≤ℤ level → is_level_for e cell level ≡ true → is_data e cell ≡ true
unfolding is_level_for
level_data e cell level low y =
    not_false_true (is_data e cell)
    (λ n.
    let below : level ≤ℤ void = ≤ℤ-trans (level_below e cell level y) (≤ℤ-of-eq (no_data_void e cell n)) in
    true_false (eq_eq_z (≤ℤ-antisym below low)) (not_is_true (eq_z level void) (and_left (not (eq_z level void)) (le_z level (at e cell)) y)))

both_questions : (e : List ℤ) (cell : ℕ) (level : ℤ) → void ≤ℤ level →
    (is_data e cell && is_level_for e cell level) ≡ is_level_for e cell level
both_questions e cell level low =
    same_test (is_data e cell && is_level_for e cell level) (is_level_for e cell level) (and_right (is_data e cell) (is_level_for e cell level))
    (λ y. and_true (level_data e cell level low y) y)

module _ (e : List ℤ) (cells : List ℕ) (levels : List ℤ) where
  -- one entry, by the key of its level
  pub tested : (k key : ℕ) → k < length levels → Known key (at levels k) → {r : Bool} → r ≡ is_level_for e (get_or cells k 0) (level_of key) →
      is_bad_entry e cells levels k ≡ not r
  unfolding is_bad_entry
  tested k key h K q =
      ap (λ (z : ℤ). not (is_data e (get_or cells k 0) && is_level_for e (get_or cells k 0) z))
      (any_default levels k top void h ∙ sym (known_level key (at levels k) K))
      ∙ ap not (both_questions e (get_or cells k 0) (level_of key) (level_above_void key))
      ∙ sym (ap not q)

  -- no entry before k is bad
  abbrev pub GoodTo : ℕ → Type 0
  GoodTo k = (j : ℕ) → j < k → is_bad_entry e cells levels j ≡ false

  pub bad_found : (k : ℕ) → k < length cells → GoodTo k → is_bad_entry e cells levels k ≡ true → k ≡ first_bad_entry e cells levels
  unfolding first_bad_entry
  bad_found k h G t = sym (first_is (length cells) (is_bad_entry e cells levels) k h t G)

  pub none_found : (k : ℕ) → length cells ≤ k → GoodTo k → length cells ≡ first_bad_entry e cells levels
  unfolding first_bad_entry
  none_found k l G = sym (first_none (length cells) (is_bad_entry e cells levels) (λ j m. G j (omega arith)))

  -- the answer, by the first bad entry
  module _ (bad : ℕ) (first : bad ≡ first_bad_entry e cells levels) where
    pub none_refused : length cells ≤ bad → accepted ≡ ask_entries e cells levels accepted
    unfolding first_bad_entry
    none_refused h =
        let l = first_≤ (length cells) (is_bad_entry e cells levels) in
        sym (entries_yes e cells levels (let q : first_bad_entry e cells levels ≡ length cells = omega arith in q) accepted)

    one_refused : bad < length cells → refusal (cond (is_data e (get_or cells bad 0)) 16 15) bad ≡ ask_entries e cells levels accepted
    unfolding ask_entries
    one_refused h =
        ap (λ (k : ℕ). refusal (cond (is_data e (get_or cells k 0)) 16 15) k) first
        ∙ sym (cond_false accepted _ (ne_eqb (first_bad_entry e cells levels) (length cells) (λ q. let z : ⊥ = omega arith in z)))

    pub refused_15 : bad < length cells → is_data e (get_or cells bad 0) ≡ false → refusal 15 bad ≡ ask_entries e cells levels accepted
    refused_15 h d = ap (λ (b : Bool). refusal (cond b 16 15) bad) (sym d) ∙ one_refused h

    pub refused_16 : bad < length cells → is_data e (get_or cells bad 0) ≡ true → refusal 16 bad ≡ ask_entries e cells levels accepted
    refused_16 h d = ap (λ (b : Bool). refusal (cond b 16 15) bad) (sym d) ∙ one_refused h
