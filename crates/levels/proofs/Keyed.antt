-- What a key that was read says of its cell, and what the word of a neighbour says.
use mathlib.Core.Path.{◌≡◌, refl, sym, ◌∙◌, ap, ap₂, subst}
use mathlib.Core.Bool.{Bool, true, false, not, ◌&&◌, ◌||◌}
use mathlib.Core.Logic.{⊎_elim}
use mathlib.Core.List.{List}
use Prim.Native.Nat.{ℕ, suc, ◌+◌, ◌≤◌, ◌<◌}
use native.Mathlib.Omega.{arith}
use native.Mathlib.Decide.{dec_lt}
use lib.Dec.{eqb, ltb}
use lib.ListN.{length, get_or, take}
use lib.Seq.{get_or-take}
use lib.IntN.{ℤ, pos}
use lib.Signed.{◌≤ℤ◌}
use borrow.Author.Tests.{eq-eqb, eqb-true}
use mir.Syntax.{w16}
use mir.Val.{SFits, to_z, of_z}
use mir.Facts.{to_z-of_z}
use Rattle.std.specs.Prelude.{Decides}
use Rattle.std.proofs.lemmas.Bool.Decides.{Decides-like, Decides-and, Decides-eqb, Decides-ltb}
use Rattle.grid.specs.declared.Grid.{Grid}
use Rattle.grid.specs.Below.{any_below}
use Rattle.grid.specs.Sheet.{size, void, at, is_data, eq_z, neighbour}
use Rattle.grid.specs.Directions.{is_equal}
use Rattle.grid_laws.proofs.Tests.{test, true_false, not_true_false, not_of_false, and_true, and_left, and_right, and_false_left, same_test}
use Rattle.grid_laws.proofs.Order.{eq_z_eq}
use Rattle.grid_laws.proofs.Cells.{off_no_data, on_sheet}
use Rattle.cells.specs.Keys.{key_of, level_of}
use Rattle.cells.proofs.Keys.{Known, known_read, known_level, level_key, key_level, key_void, zero_no_data}
use Rattle.flow_laws.specs.Words.{level_in}
use Rattle.levels.specs.Beside.{zero_beside}
use Rattle.flow_laws.proofs.Equals.{is_equal_lem, equal_height}
use Rattle.flow_laws.proofs.Agree.{equal_on_sheet}
use Rattle.flow_laws.proofs.Words.{level_one, word_one}

-- the key of an elevation that was read from its place
pub key_read : (e : List ℤ) (c r : ℕ) → c < length e → SFits w16 (get_or e c (pos 0)) → Known r (to_z w16 (of_z w16 (get_or e c (pos 0))))
    → Known r (at e c)
key_read e c r h f K = known_read e c r h (subst (Known r) (to_z-of_z f) K)

-- another key, another elevation
pub differs : {z : ℤ} (k r : ℕ) → r ≡ key_of z → (r ≡ k → ⊥) → z ≡ level_of k → ⊥
differs k r q f h = f (q ∙ ap key_of h ∙ key_level k)

pub agrees : {z : ℤ} (k r : ℕ) → r ≡ key_of z → void ≤ℤ z → r ≡ k → z ≡ level_of k
agrees {z} k r q v h = sym (level_key z v) ∙ ap level_of (sym q ∙ h)

-- a cell with a key above 0 is a data cell
pub height_data : (e : List ℤ) (c k : ℕ) → at e c ≡ level_of k → 0 < k → is_data e c ≡ true
unfolding is_data
height_data e c k h p = ⊎_elim (λ t. absurd (zero t)) not_of_false (test (eq_z (at e c) void))
  where
    zero : eq_z (at e c) void ≡ true → ⊥
    zero t = let q : k ≡ 0 = sym (key_level k) ∙ ap key_of (sym h ∙ eq_z_eq (at e c) void t) ∙ key_void in omega arith

-- off the sheet there is none
pub off_height : (e : List ℤ) (c k : ℕ) → length e ≤ c → 0 < k → at e c ≡ level_of k → ⊥
off_height e c k off p h = true_false (height_data e c k h p) (off_no_data e c off)

data_positive : (e : List ℤ) (c r : ℕ) → r ≡ key_of (at e c) → void ≤ℤ at e c → is_data e c ≡ true → 0 < r
data_positive e c r q v d = go (dec_lt 0 r)
  where
    go : Dec (0 < r) → 0 < r
    go (yes h) = h
    go (no f) = true_false d (zero_no_data e c r q v (omega arith))

-- the key of a data cell is that of its elevation, and above 0
pub data_known : (e : List ℤ) (c k : ℕ) → Known k (at e c) → is_data e c ≡ true → (at e c ≡ level_of k) × (0 < k)
data_known e c k K d = (sym (known_level k (at e c) K), data_positive e c k K.0 K.1.1.0 d)

-- ---- an equal neighbour of level 0
module _ (g : Grid) (e : List ℤ) (len : length e ≡ size g) (work : List ℕ) (cell p : ℕ) where
  -- off the sheet there is none
  pub zero_off : neighbour g cell p ≡ size g → zero_beside g e work cell p ≡ false
  unfolding zero_beside
  zero_off off =
      and_false_left (eqb (level_in (size g) work (neighbour g cell p)) 1)
      (not_true_false (is_equal g e cell p) (λ t. let on = equal_on_sheet g e len cell p t in let z : ⊥ = omega arith in z))

  module _ (own_data : is_data e cell ≡ true) (k : ℕ) (own : k ≡ key_of (at e cell)) (void_bound : void ≤ℤ at e cell) (m : ℕ)
      (there : m ≡ neighbour g cell p) where
    -- the cell there has level 0 and the own elevation
    abbrev pub Zero : Type 0
    Zero = (at e m ≡ level_of k) × ((0 < get_or work m 0) × (get_or work m 0 < 256))

    zero_found : Zero → zero_beside g e work cell p ≡ true
    unfolding zero_beside is_data
    zero_found (h, (a, b)) =
        let like : at e m ≡ at e cell = h ∙ sym (agrees k k own void_bound refl) in
        let d : is_data e m ≡ true = ap (λ (z : ℤ). not (eq_z z void)) like ∙ own_data in
        let w = get_or-take (size g) work m 0 (on_sheet g e len m d) in
        let l : level_in (size g) work m ≡ 1 = level_one _ (rw w a) (rw w b) in
        let d' = subst (λ (x : ℕ). is_data e x ≡ true) there d in
        let same = subst (λ (x : ℕ). at e x ≡ at e cell) there like in
        and_true (is_equal_lem g e cell p d' same) (eq-eqb _ 1 (subst (λ (x : ℕ). level_in (size g) work x ≡ 1) there l))

    zero_known : zero_beside g e work cell p ≡ true → Zero
    unfolding zero_beside
    zero_known t =
        let same = and_left (is_equal g e cell p) (eqb (level_in (size g) work (neighbour g cell p)) 1) t in
        let one = eqb-true _ 1 (and_right (is_equal g e cell p) (eqb (level_in (size g) work (neighbour g cell p)) 1) t) in
        let q : get_or work m 0 ≡ get_or (take (size g) work) (neighbour g cell p) 0 =
        ap (λ (x : ℕ). get_or work x 0) there ∙ sym (get_or-take (size g) work (neighbour g cell p) 0 (equal_on_sheet g e len cell p same)) in
        let w = word_one _ one in
        let a = w.0 in
        let b = w.1 in
        (ap (at e) there ∙ equal_height g e cell p same ∙ agrees k k own void_bound refl, (omega arith, omega arith))

    pub zero_here : {r : Bool} → Decides r Zero → r ≡ zero_beside g e work cell p
    zero_here {r} D = same_test r (zero_beside g e work cell p) (λ t. zero_found (D.0 t)) (λ t. D.1 (zero_known t))

-- what the three tests of a cell say, where r is its key and w its word
pub zero_tests : {z : ℤ} {r : ℕ} (k w : ℕ) → r ≡ key_of z → void ≤ℤ z
    → Decides ((eqb r k && ltb 0 w) && ltb w 256) ((z ≡ level_of k) × ((0 < w) × (w < 256)))
zero_tests {z} {r} k w q v =
    Decides-like ((eqb r k && ltb 0 w) && ltb w 256) (λ h. (h.0.0, (h.0.1, h.1))) (λ h. ((h.0, h.1.0), h.1.1))
    (Decides-and (eqb r k && ltb 0 w) (ltb w 256) (Decides-and (eqb r k) (ltb 0 w) height (Decides-ltb 0 w)) (Decides-ltb w 256))
  where
    height : Decides (eqb r k) (z ≡ level_of k)
    height = Decides-like (eqb r k) (agrees k r q v) (λ h. q ∙ ap key_of h ∙ key_level k) (Decides-eqb r k)

-- ---- whether some number below n has f: one number more, where r says whether it has f
pub any_more : (n : ℕ) (f : ℕ → Bool) {found r : Bool} → found ≡ any_below n f → r ≡ f n → (found || r) ≡ any_below (n + 1) f
unfolding any_below
any_more n f h q = let more : n + 1 ≡ suc n = omega arith in rw more (ap₂ ◌||◌ h q)

-- and where it has not
pub any_same : (n : ℕ) (f : ℕ → Bool) {found : Bool} → found ≡ any_below n f → f n ≡ false → found ≡ any_below (n + 1) f
any_same n f {found} h off = sym (same found) ∙ any_more n f h (sym off)
  where
    same : (b : Bool) → (b || false) ≡ b
    same true = refl
    same false = refl
