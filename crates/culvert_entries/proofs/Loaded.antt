-- To keep the lower of two keys at a cell is to open the sheet that the keys spell by one entry more.
use mathlib.Core.Path.{◌≡◌, refl, sym, ◌∙◌, ap, ap₂, subst}
use mathlib.Core.Bool.{Bool, true, false, cond}
use mathlib.Core.Logic.{⊎_elim}
use mathlib.Core.List.{List}
use Prim.Native.Nat.{ℕ, suc, ◌+◌, ◌≤◌, ◌<◌, min}
use native.Mathlib.Omega.{arith}
use native.Mathlib.Decide.{dec_le}
use native.Mathlib.Nat.{min-eq_left}
use borrow.Author.Tests.{le-leb, lt-leb}
use Rattle.grid_laws.proofs.Tests.{cond_true, cond_false}
use lib.Dec.{leb}
use lib.ListN.{length, get_or, set}
use lib.IntN.{ℤ}
use lib.Signed.{le_z, ◌≤ℤ◌}
use borrow.Author.Count.{below_more}
use Rattle.grid.specs.Sheet.{void, top, at, lower, SixteenBits}
use Rattle.grid.specs.Culverts.{opened_to, opened}
use Rattle.grid_laws.proofs.Cells.{data_below}
use Rattle.grid_laws.proofs.Lists.{any_default, at_set}
use Rattle.cells.specs.Keys.{key_of}
use Rattle.cells.proofs.Keys.{Known, key_at_most}
use Rattle.culvert_laws.proofs.Opened.{AllGood, opened_length, opened_at, opened_sixteen, to_none, to_named, to_other}
use Rattle.culvert_entries.specs.Loaded.{Loaded}

key_lower : (a b : ℤ) → void ≤ℤ b → key_of (lower a b) ≡ min (key_of a) (key_of b)
unfolding lower
key_lower a b h =
    go (le_z a b) ∙ ap (λ (t : Bool). cond t (key_of a) (key_of b)) (key_at_most a b h) ∙ by_test (dec_le (key_of a) (key_of b))
  where
    go : (t : Bool) → key_of (cond t a b) ≡ cond t (key_of a) (key_of b)
    go true = refl
    go false = refl

    by_test : Dec (key_of a ≤ key_of b) → cond (leb (key_of a) (key_of b)) (key_of a) (key_of b) ≡ min (key_of a) (key_of b)
    by_test (yes l) = cond_true _ _ (le-leb _ _ l) ∙ sym (min-eq_left l)
    by_test (no n) = let l : key_of b < key_of a = omega arith in cond_false _ _ (lt-leb _ _ l) ∙ omega arith

-- the first k entries are opened: w begins with the keys of what they make of the sheet
pub record OpenedIn (e : List ℤ) (cells : List ℕ) (levels : List ℤ) (k : ℕ) (w : List ℕ) : Type 0 where
  pub room : length e ≤ length w
  pub keys : (c : ℕ) → c < length e → get_or w c 0 ≡ key_of (opened_to e cells levels k c)
  pub elevations : SixteenBits e
  pub levels_low : (j : ℕ) → j < k → void ≤ℤ get_or levels j top

module _ (e : List ℤ) (cells : List ℕ) (levels : List ℤ) where
  pub opened_none : (w : List ℕ) → length e ≤ length w → ((c : ℕ) → c < length e → get_or w c 0 ≡ key_of (at e c)) → SixteenBits e →
      OpenedIn e cells levels 0 w
  opened_none w room loaded range =
      record {
        room = room;
        keys = λ c h. loaded c h ∙ ap key_of (sym (to_none e cells levels c));
        elevations = range;
        levels_low = λ j h. let z : ⊥ = omega arith in absurd z;
      }

  module _ (G : AllGood e cells levels) (k : ℕ) (w : List ℕ) (O : OpenedIn e cells levels k w) where
    -- the cell of an entry lies on the sheet
    pub entry_on : k < length cells → get_or cells k 0 < length w
    entry_on h = let d = data_below e (get_or cells k 0) (G k h).on_data in let r = O.room in omega arith

    -- `given` is the key of the entry's level, `key` the lower one that is stored
    pub opened_more : (given key : ℕ) (w₁ : List ℕ) → k < length cells → k < length levels → Known given (at levels k) →
        key ≡ min (get_or w (get_or cells k 0) 0) given → length w₁ ≡ length w → w₁ ≡ set w (get_or cells k 0) key →
        OpenedIn e cells levels (k + 1) w₁
    opened_more given key w₁ h l K lowest same stored =
        record {
          room = let r = O.room in omega arith;
          keys = λ c on.
              subst (λ (x : ℕ). get_or w₁ c 0 ≡ key_of (opened_to e cells levels x c)) (let q : suc k ≡ k + 1 = omega arith in q) (each c on);
          elevations = O.elevations;
          levels_low = below_more _ k O.levels_low low;
        }
      where
        level : at levels k ≡ get_or levels k top
        level = any_default levels k void top l

        low : void ≤ℤ get_or levels k top
        low = subst (λ (z : ℤ). void ≤ℤ z) level K.1.1.0

        each : (c : ℕ) → c < length e → get_or w₁ c 0 ≡ key_of (opened_to e cells levels (suc k) c)
        each c on =
            ap (λ (x : List ℕ). get_or x c 0) stored
            ∙ ⊎_elim
            (λ q. q.1 ∙ lowest
            ∙ ap₂ min (ap (λ (x : ℕ). get_or w x 0) (sym q.0) ∙ O.keys c on) (K.0 ∙ ap key_of level)
            ∙ sym (key_lower (opened_to e cells levels k c) (get_or levels k top) low)
            ∙ ap key_of (sym (to_named e cells levels k c (sym q.0))))
            (λ q. q.1 ∙ O.keys c on ∙ ap key_of (sym (to_other e cells levels k c (λ s. q.0 (sym s)))))
            (at_set 0 w (get_or cells k 0) key (entry_on h) c)

  pub opened_all : (k : ℕ) (w : List ℕ) → k ≡ length cells → OpenedIn e cells levels k w → Loaded (opened e cells levels) w
  opened_all k w q O =
      record {
        keys = λ c h.
            let on : c < length e = let l = opened_length e cells levels in omega arith in
            O.keys c on ∙ ap (λ (x : ℕ). key_of (opened_to e cells levels x c)) q ∙ ap key_of (sym (opened_at e cells levels c on));
        sixteen_bits = opened_sixteen e cells levels O.elevations (λ j h. O.levels_low j (omega arith));
      }
